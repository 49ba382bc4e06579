use Rattle.prop_conflicts.specs.Conflicts.{IsConflict, IsRepair}
use Rattle.prop_conflicts.proofs.ExploringLemmas.{none_all}
use Rattle.prop_conflicts.proofs.explorer.Explorer.new.Goals as goal

pub returns : goal.returns
returns c = λ g. record {
  knows = record {
    conflicts_are = none_all (IsConflict g) c.new-2.result.items c.new-2.ensures.items;
    repairs_are = none_all (IsRepair g) c.new-3.result.items c.new-3.ensures.items;
    sought = c.in_ok-new.ensures c.new-2.result.items c.new-3.result.items;
    over = λ t h hits. cc;
    trial_is = tt;
  };
  stands = tt;
}
