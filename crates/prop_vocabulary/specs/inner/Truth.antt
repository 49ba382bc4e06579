-- The domain of truth.
use Rattle.std.specs.Prelude.{ℕ, List, [], ◌∷◌, codes}

-- the elements of truth
abbrev pub truth_elements : List (List ℕ)
truth_elements = codes "yes" ∷ codes "no" ∷ []
