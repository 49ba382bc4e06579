-- How the sides of a choice are stated at a cell, all or none: what one adds, and what is taken
-- back.
use Rattle.std.specs.Prelude.{◌≡◌, ◌<◌, ℕ, suc, List, [], ◌∷◌, Some, All}
use Rattle.prop_lattice.specs.declared.info.Info.{Info}
use Rattle.prop_cells.specs.declared.instance.Statement.{Statement}
use Rattle.prop_cells.specs.Data.{Data, States}

-- for each information a statement of the cell, the first under this premise and each further one
-- under the next
abbrev pub sides_at : ℕ → ℕ → List Info → List Statement
sides_at first cell [] = []
sides_at first cell (info ∷ infos) =
    record { premise = Some first; cell = cell; info = info } ∷ sides_at (suc first) cell infos

-- the new data is the old once these statements were made, one after the other
abbrev pub StatesAll : Data → Data → List Statement → Type 0
StatesAll old new [] = new ≡ old
StatesAll old new (x ∷ xs) = (next : Data) × States old next x × StatesAll next new xs

-- each premise of the statements has a number below `first`
abbrev pub AreUnderBelow : ℕ → List Statement → Type 0
AreUnderBelow first statements = All (λ x. (p : ℕ) → x.premise ≡ Some p → p < first) statements
