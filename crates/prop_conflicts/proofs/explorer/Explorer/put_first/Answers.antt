use Rattle.std.proofs.lemmas.Result.{on_ok_weaker}
use Rattle.prop_conflicts.proofs.explorer.Explorer.put_first.Goals as goal

pub returns-in-Some : goal.returns-in-Some
returns-in-Some c =
    on_ok_weaker c.lift.result (λ lifted g h. record {
      knows = record {
        conflicts_are = h.knows.conflicts_are;
        repairs_are = h.knows.repairs_are;
        sought = lifted c.args.self.now.conflicts.items c.args.self.now.repairs.items h.knows.sought;
        over = h.knows.over;
        trial_is = h.knows.trial_is;
      };
      stands = h.stands;
    }) c.lift.ensures
