-- Lists that are refuted, and sets of the user's premises.
use Rattle.std.specs.Prelude.{◌≡◌, ℕ, IsTrue, List, false}
use Rattle.prop_numbers.specs.Sets.{Members}
use Rattle.prop_premises.specs.declared.choice.Choice.{Choice}
use Rattle.prop_premises.specs.ChoiceLists.{worldview, is_hypothetical}
use Rattle.prop_cells.specs.Problems.{Problem}
use Rattle.prop_cells.specs.inner.Problems.{IsContradictory}

-- what is believed with the list is contradictory
abbrev pub IsListRefuted : Problem → Members → List Choice → List ℕ → Type 0
IsListRefuted problem believed choices list =
    IsContradictory problem (worldview believed choices list)

-- the user's premises in the first set are in the second
abbrev pub IsUserPart : List Choice → Members → Members → Type 0
IsUserPart choices s t = (p : ℕ) → IsTrue (s p) → is_hypothetical choices p ≡ false → IsTrue (t p)
