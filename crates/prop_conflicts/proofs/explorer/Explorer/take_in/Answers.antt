use Rattle.std.proofs.Common.{subst}
use Rattle.prop_conflicts.specs.declared.explorer.Stage.{Stage}
use Rattle.prop_conflicts.specs.inner.Explorers.{Stands}
use Rattle.prop_conflicts.proofs.ExploringLemmas.{taken}
use Rattle.prop_conflicts.proofs.FitLemmas.{on_ok}
use Rattle.prop_conflicts.proofs.explorer.Explorer.take_in.Goals as goal

pub returns : goal.returns
returns c =
    let e = c.args.self.now in
    on_ok c.take_in.result (λ takes g h is. record {
      knows = h.knows;
      stands = taken g e.conflicts.items e.out e.shrinking e.premise c.take_in.new.self e.trial c.args.outcome
          (subst (λ (x : Stage). Stands g e.conflicts.items e.out e.shrinking e.premise e.trial x) c.requires.at
          h.stands) is takes;
    }) c.take_in.ensures
