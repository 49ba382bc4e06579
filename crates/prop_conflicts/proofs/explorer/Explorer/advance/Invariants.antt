use Rattle.prop_procedures.specs.Kept.{stored_of}
use Rattle.prop_conflicts.specs.Conflicts.{ground_at}
use Rattle.prop_conflicts.specs.inner.Explorers.{IsExplored}
use Rattle.prop_conflicts.proofs.explorer.Explorer.advance.Given as goal

abbrev pub invariant-loop : goal.invariant-loop
invariant-loop g l =
    IsExplored (ground_at (stored_of g.R.Rule.value_of l.network.library) l.network.cells l.premises) l.self
