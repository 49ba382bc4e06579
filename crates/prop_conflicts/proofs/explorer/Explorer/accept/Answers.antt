use Rattle.std.proofs.Common.{subst, sym}
use Rattle.prop_conflicts.specs.Conflicts.{IsRepair}
use Rattle.prop_conflicts.proofs.ExploringLemmas.{given_fits, knows_repair}
use Rattle.prop_conflicts.proofs.explorer.Explorer.accept.Goals as goal

pub returns : goal.returns
returns c = λ g h fits.
    let e = c.args.self.now in
    record {
      knows = knows_repair g e.conflicts.items e.repairs.items e.frontier e.is_over e.trial h.knows
          c.push.new.self.items c.in_ok-out.out c.in_ok-push.ensures.items
          (subst (IsRepair g) (sym c.in_ok-out.ensures)
          (given_fits g e.conflicts.items e.out e.shrinking e.premise e.trial e.stage c.requires.at
          h.knows.conflicts_are h.stands fits));
      stands = tt;
    }
