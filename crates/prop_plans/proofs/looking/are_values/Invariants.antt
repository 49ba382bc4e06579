use Rattle.std.proofs.Common.{ℕ, ◌<◌}
use Rattle.prop_procedures.specs.Fitting.{kind_at}
use Rattle.prop_plans.specs.Plans.{IsValueOf, value_in}
use Rattle.prop_plans.proofs.looking.are_values.Given as goal

abbrev pub invariant-loop-cell : goal.invariant-loop-cell
invariant-loop-cell l = (k : ℕ) → k < l.cell → IsValueOf (kind_at l.cells.kinds k) (value_in l.values k)
