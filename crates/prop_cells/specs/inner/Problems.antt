-- What a solution is, part by part.
use Rattle.std.specs.Prelude.{◌≡◌, ℕ, IsTrue, List, Some, slice_get, if◌then◌else◌}
use Rattle.std.specs.List.{list_any}
use Rattle.prop_lattice.specs.declared.info.Info.{Info}
use Rattle.prop_lattice.specs.declared.info.Info.TheVariants.{Contradiction}
use Rattle.prop_lattice.specs.Order.{Below, is_contradiction}
use Rattle.prop_lattice.specs.Rank.{IsOf}
use Rattle.prop_numbers.specs.Sets.{Members}
use Rattle.prop_procedures.specs.declared.shape.Kinded.{Kinded}
use Rattle.prop_cells.specs.declared.instance.Statement.{Statement}
use Rattle.prop_cells.specs.Problems.{Problem, Constraint, Assignment, IsConsistent, is_member}
use Rattle.prop_cells.specs.Problems.{value_at}

-- a set of premises, as the test of which are in it
abbrev pub Premises : Type 0
Premises = Members

-- each cell has an information of its kind, or a contradiction
pub record AreOfKinds (kinds : List Kinded) (a : Assignment) : Type 0 where
  pub of_kind : (cell : ℕ) (k : Kinded) → slice_get kinds cell ≡ Some k
      → IsOf k.kind k.size (a cell)

-- a contradiction where one of the informations is one, and otherwise what the rule answers
abbrev pub value_on : (List Info → Info) → List Info → Info
value_on rule args = if list_any is_contradiction args then Contradiction else rule args

-- the value of the instance is below the information at its output
abbrev pub Meets : Assignment → Constraint → Type 0
Meets a c = Below (value_at c a) (a c.output)

-- the statement, where it belongs to the set, is below the information at its cell
abbrev pub Satisfies : Premises → Assignment → Statement → Type 0
Satisfies s a x = IsTrue (is_member s x.premise) → Below x.info (a x.cell)

-- the set is contradictory: no solution is without a contradiction
abbrev pub IsContradictory : Problem → Premises → Type 0
IsContradictory problem s = ¬ (IsConsistent problem s)
