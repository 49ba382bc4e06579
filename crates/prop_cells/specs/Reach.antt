-- Which cells a premise can bear on.
use Rattle.std.specs.Prelude.{◌≡◌, ℕ, IsTrue, Some, Contains}
use Rattle.prop_lattice.specs.declared.info.Info.{Info}
use Rattle.prop_numbers.specs.Sets.{Members, IsPart}
use Rattle.prop_cells.specs.declared.instance.Statement.{Statement}
use Rattle.prop_cells.specs.Problems.{Problem, Constraint, Entails, IsConsistent}

-- a premise reaches the cells of its statements; and where it reaches an input of an instance, it
-- reaches the output
pub data Reaches (problem : Problem) (p : ℕ) : ℕ → Type 0 where
  stated : (x : Statement) → Contains problem.statements x → x.premise ≡ Some p
      → Reaches problem p x.cell
  passed : (c : Constraint) (input : ℕ) → Contains problem.constraints c → Contains c.inputs input
      → Reaches problem p input → Reaches problem p c.output

-- The premises explain the information at the cell. They are part of what is believed, they entail
-- at least the information by themselves, and each of them reaches the cell.
pub record Explains (problem : Problem) (believed : Members) (cell : ℕ) (v : Info) (s : Members) :
    Type 0 where
  pub part : IsPart s believed
  pub entails : Entails problem s cell v
  pub related : (p : ℕ) → IsTrue (s p) → Reaches problem p cell

-- a conflict: believed premises that are contradictory by themselves, each of which reaches one
-- same cell
pub record IsConflict (problem : Problem) (believed : Members) (s : Members) : Type 0 where
  pub part : IsPart s believed
  pub contradictory : ¬ (IsConsistent problem s)
  pub cell : ℕ
  pub related : (p : ℕ) → IsTrue (s p) → Reaches problem p cell
