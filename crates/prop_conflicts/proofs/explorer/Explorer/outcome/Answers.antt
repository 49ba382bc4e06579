use Rattle.std.proofs.Common.{Option, subst}
use Rattle.prop_procedures.specs.Kept.{stored_of}
use Rattle.prop_conflicts.specs.Conflicts.{ground_at}
use Rattle.prop_conflicts.specs.declared.trial.Trial.{Trial}
use Rattle.prop_conflicts.specs.inner.Explorers.{Stands}
use Rattle.prop_conflicts.proofs.ExploringLemmas.{stands_kept}
use Rattle.prop_conflicts.proofs.explorer.Explorer.outcome.Goals as goal

pub returns-clause-explored : goal.returns-clause-explored
returns-clause-explored g c =
    let network = c.args.network.now in
    let ground = ground_at (stored_of g.R.Rule.value_of network.library) network.cells c.args.premises.now in
    let e = c.args.self.now in
    let h = c.requires.explored in
    record {
      knows = record {
        conflicts_are = h.knows.conflicts_are;
        repairs_are = h.knows.repairs_are;
        sought = h.knows.sought;
        over = h.knows.over;
        trial_is = c.in_ok-outcome.ensures.trial;
      };
      stands = stands_kept ground e.conflicts.items e.out e.shrinking e.premise c.in-Some.trial c.advance.new.self
          e.stage c.in_ok-outcome.ensures.same
          (subst (λ (o : Option Trial). Stands ground e.conflicts.items e.out e.shrinking e.premise o e.stage)
          c.in-Some.is h.stands);
    }
