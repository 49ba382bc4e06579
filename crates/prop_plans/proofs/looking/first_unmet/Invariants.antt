use Rattle.prop_procedures.specs.Kept.{stored_of}
use Rattle.prop_plans.specs.Plans.{AreMet}
use Rattle.prop_plans.proofs.looking.first_unmet.Given as goal

abbrev pub invariant-loop-number : goal.invariant-loop-number
invariant-loop-number g l =
    AreMet (stored_of g.R.Rule.value_of l.network.library) l.network.cells l.values l.number
