use Rattle.std.proofs.Common.{All, take}
use Rattle.prop_numbers.specs.Sets.{set_of}
use Rattle.prop_cells.specs.inner.Problems.{Satisfies}
use Rattle.prop_plans.specs.Plans.{value_in}
use Rattle.prop_plans.proofs.looking.are_implied.Given as goal

abbrev pub invariant-loop-statement : goal.invariant-loop-statement
invariant-loop-statement l =
    All (Satisfies (set_of l.view) (value_in l.values)) (take l.statement-index l.statements)
