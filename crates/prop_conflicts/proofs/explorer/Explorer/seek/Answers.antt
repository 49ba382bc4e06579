use Rattle.std.proofs.Common.{subst}
use Rattle.prop_hitting.specs.Frontiers.{AreSought, IsNext}
use Rattle.prop_hitting.specs.declared.frontier.Step.TheVariants.{Over}
use Rattle.prop_conflicts.proofs.explorer.Explorer.seek.Goals as goal

pub returns-in-Over : goal.returns-in-Over
returns-in-Over g c =
    let knows = c.requires.explored.knows in
    let found = c.deref.ensures.value in
    let listed = c.deref-2.ensures.value in
    record {
      knows = record {
        conflicts_are = knows.conflicts_are;
        repairs_are = knows.repairs_are;
        sought = subst (λ cs. AreSought cs c.args.self.now.repairs.items c.step.new.self) found
            (subst (λ rs. AreSought c.deref.result.now rs c.step.new.self) listed c.in_ok-out.ensures.sought);
        over = λ t. subst (λ cs. IsNext cs c.args.self.now.repairs.items Over) found
            (subst (λ rs. IsNext c.deref.result.now rs Over) listed
            (subst (IsNext c.deref.result.now c.deref-2.result.now) c.in-Over.is c.in_ok-out.ensures.next));
        trial_is = knows.trial_is;
      };
      stands = tt;
    }
