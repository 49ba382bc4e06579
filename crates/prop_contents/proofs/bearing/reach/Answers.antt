use Rattle.std.proofs.Common.{refl}
use Rattle.prop_contents.proofs.BearingLemmas.{same_more}
use Rattle.prop_contents.proofs.bearing.reach.Goals as goal

pub loop-alloc-init : goal.loop-alloc-init
loop-alloc-init c = λ k. refl

pub loop-alloc-preserved : goal.loop-alloc-preserved
loop-alloc-preserved c =
    same_more c.args.sets.now.items c.loop-alloc.sets.items _ c.empty.result c.loop-alloc.invariant c.empty.ensures
    c.in_ok-push.ensures.items
