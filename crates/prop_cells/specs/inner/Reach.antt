-- Sets of premises that bear on a cell.
use Rattle.std.specs.Prelude.{ℕ, IsTrue}
use Rattle.prop_numbers.specs.Sets.{Members}
use Rattle.prop_cells.specs.Problems.{Problem}
use Rattle.prop_cells.specs.Reach.{Reaches}

-- each premise of the set reaches the cell
abbrev pub IsRelatedAt : Problem → ℕ → Members → Type 0
IsRelatedAt problem cell s = (p : ℕ) → IsTrue (s p) → Reaches problem p cell
