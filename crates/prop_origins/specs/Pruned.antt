-- Those of some parts that are wanted: the others are left out.
use Rattle.std.specs.Prelude.{ℕ, Bool, false, ◌||◌, if◌then◌else◌, List, [], ◌∷◌, slice_index_or}
use Rattle.prop_origins.specs.Parts.{Part, reads}

-- the parts that are kept: each is at a wanted cell, or at one that a kept part before it reads
abbrev pub pruned : (ℕ → Bool) → List Part → List Part
pruned wanted [] = []
pruned wanted (p ∷ behind) =
    if wanted p.cell then p ∷ pruned (λ cell. wanted cell || reads p cell) behind
    else pruned wanted behind

-- the cells with a mark
abbrev pub marked_in : List Bool → ℕ → Bool
marked_in marks cell = slice_index_or marks cell false
