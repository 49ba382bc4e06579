use Rattle.std.proofs.Common.{subst}
use Rattle.prop_conflicts.specs.declared.explorer.Stage.{Stage}
use Rattle.prop_conflicts.specs.inner.Explorers.{Stands}
use Rattle.prop_conflicts.proofs.ExploringLemmas.{knows_conflict}
use Rattle.prop_conflicts.proofs.explorer.Explorer.conclude.Goals as goal

pub returns : goal.returns
returns c = λ g h.
    let e = c.args.self.now in
    record {
      knows = knows_conflict g e.conflicts.items e.repairs.items e.frontier e.is_over e.trial h.knows
          c.push.new.self.items c.in_ok-found.found c.in_ok-push.ensures.items
          (c.in_ok-found.ensures g (subst (λ (x : Stage). Stands g e.conflicts.items e.out e.shrinking e.premise
          e.trial x) c.requires.at h.stands));
      stands = tt;
    }
