use Rattle.prop_requiring.proofs.PostLemmas.{range_push}
use Rattle.prop_requiring.proofs.requirer.numbers_below.Goals as goal

pub loop-number-preserved : goal.loop-number-preserved
loop-number-preserved c =
    range_push c.loop-number.number c.loop-number.numbers.items c.push.new.self.items c.loop-number.invariant
    c.in_ok-push.ensures.items
