-- What is left when a premise is forgotten, and what is stated under it.
use Rattle.std.specs.Prelude.{◌≡◌, ◌⊎◌, ◌==◌, ℕ, false, not, map, filter, All, Contains, List}
use Rattle.std.specs.Prelude.{Some, slice_get}
use Rattle.std.specs.Option.{option_map_or}
use Rattle.prop_procedures.specs.declared.shape.Kinded.{Kinded}
use Rattle.prop_contents.specs.Changes.{not_on}
use Rattle.prop_cells.specs.declared.instance.Statement.{Statement}
use Rattle.prop_cells.specs.Problems.{Problem}
use Rattle.prop_cells.specs.Data.{Data}

-- the statements that don't stand under p, but under another premise or none
abbrev pub not_under : ℕ → List Statement → List Statement
not_under p = filter (λ x. not (option_map_or (λ q. q == p) x.premise false))

-- the data without the statements under p and the entries that rest on p
abbrev pub forgotten : ℕ → Data → Data
forgotten p d = record d {
  contents = map (λ entries. not_on p entries) d.contents;
  statements = not_under p d.statements;
}

-- the new problem has all that the old one has, but for statements under p
pub record Forgets (old new : Problem) (p : ℕ) : Type 0 where
  pub cells : (cell : ℕ) (k : Kinded) → slice_get old.cells cell ≡ Some k
      → slice_get new.cells cell ≡ Some k
  pub statements : All (λ x. (x.premise ≡ Some p) ⊎ Contains new.statements x) old.statements
  pub constraints : All (Contains new.constraints) old.constraints
