use Rattle.std.proofs.Common.{◌≡◌, map}
use Rattle.prop_nogoods.specs.inner.Endings.{sets_of, lacking_of}
use Rattle.prop_nogoods.proofs.EndingLemmas.{lacking_written}
use Rattle.prop_nogoods.proofs.OrderLemmas.{groups_lacking}
use Rattle.prop_nogoods.proofs.StoreLemmas.{minimal_lacking, in_order_lacking, by_size_lacking, HaveSame-lacking}
use Rattle.prop_nogoods.proofs.store.Store.purge.Goals as goal

pub invariant_of-self : goal.invariant_of-self
invariant_of-self c =
    let p = c.args.premise in
    let old = c.self.inside.nogoods.items in
    let kept = c.self.invariant in
    let groups = c.self.inside.by_last in
    let purged : c.purge_everywhere.new.endings ≡ map (lacking_of p) groups.items =
    rw c.deref_mut.ensures.value at c.purge_everywhere.ensures in
    let order = groups_lacking p groups.items c.purge_everywhere.new.endings groups.len purged groups.ok.0 kept.4 in
    rw (
      c.drop_holding.ensures.left,
      lacking_written p groups.items c.purge_everywhere.new.endings groups.len purged
          groups.ok.0,
    ) (
      minimal_lacking p old kept.0,
      in_order_lacking p old kept.1,
      by_size_lacking p old kept.2,
      HaveSame-lacking p old (sets_of groups.items) kept.3,
      order,
    )
