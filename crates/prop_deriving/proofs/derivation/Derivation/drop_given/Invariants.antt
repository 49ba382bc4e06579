use Rattle.prop_procedures.specs.Kept.{stored_of}
use Rattle.prop_plans.specs.Held.{attached_of}
use Rattle.prop_deriving.specs.Known.{Stays}
use Rattle.prop_deriving.proofs.derivation.Derivation.drop_given.Given as goal

abbrev pub invariant-loop : goal.invariant-loop
invariant-loop g l =
    Stays (stored_of g.R.Rule.value_of l.basis.network.now.library) (attached_of l.basis.network.now.cells)
    l.basis.choices.now l.basis.root.now l.basis.store.now l.fn.self l.self
