use Rattle.std.proofs.Common.{refl}
use Rattle.prop_procedures.specs.Kept.{stored_of}
use Rattle.prop_conflicts.specs.Conflicts.{ground_at}
use Rattle.prop_conflicts.proofs.TrialLemmas.{outcome_refuted}
use Rattle.prop_conflicts.proofs.trial.Trial.advance.Goals as goal

pub returns-then-are_believed-clause-outcome : goal.returns-then-are_believed-clause-outcome
returns-then-are_believed-clause-outcome g c =
    let network = c.args.network.now in
    outcome_refuted (ground_at (stored_of g.R.Rule.value_of network.library) network.cells c.args.premises.now)
    network.cells refl c.args.self.now c.requires.trial c.advance.new.self c.in_ok-advance.field-0
    c.in_ok-advance.ensures.answer c.in-Refuted.by c.in-Refuted.is (c.are_believed.ensures c.if-are_believed.true)
