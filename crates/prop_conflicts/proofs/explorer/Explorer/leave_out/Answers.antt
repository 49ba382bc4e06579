use Rattle.std.proofs.Common.{ap, subst, sym}
use Rattle.prop_procedures.specs.Kept.{stored_of}
use Rattle.prop_conflicts.specs.Conflicts.{ground_at}
use Rattle.prop_conflicts.specs.declared.explorer.Explorer.{Explorer}
use Rattle.prop_conflicts.specs.declared.explorer.Stage.{Stage}
use Rattle.prop_conflicts.specs.declared.shrinking.Shrinking.{Shrinking}
use Rattle.prop_conflicts.specs.inner.Explorers.{IsShrinking, IsWithout, Stands}
use Rattle.std.specs.Prelude.{IfSome}
use Rattle.prop_conflicts.proofs.ExploringLemmas.{without_tried}
use Rattle.prop_conflicts.proofs.explorer.Explorer.leave_out.Goals as goal

pub returns : goal.returns
returns g c =
    let network = c.args.network.now in
    let ground = ground_at (stored_of g.R.Rule.value_of network.library) network.cells c.args.premises.now in
    let e = c.args.self.now in
    let same = ap (λ (x : Explorer). x.shrinking) (sym c.in_ok-begin.ensures.others) in
    let shrinking = subst (λ (x : Stage). Stands ground e.conflicts.items e.out e.shrinking e.premise e.trial x)
    c.requires.at c.requires.explored.stands in
    record {
      knows = c.in_ok-begin.ensures.knows;
      stands = (
        subst (IsShrinking ground) same shrinking,
        subst (λ (s : Shrinking). IfSome c.begin.new.self.trial (IsWithout s.premises c.args.premise)) same
            (without_tried e.shrinking.premises c.in_ok-kept.kept c.args.premise c.begin.new.self.trial
            c.in_ok-begin.ensures.kept c.in_ok-kept.ensures),
      );
    }
