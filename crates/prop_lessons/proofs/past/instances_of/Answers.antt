use Rattle.prop_lessons.proofs.BeginLemmas.{taken_more}
use Rattle.prop_lessons.proofs.past.instances_of.Goals as goal

pub loop-number-preserved : goal.loop-number-preserved
loop-number-preserved c = taken_more c.args.cells.now.instances c.loop-number.instances.items c.push.new.self.items
    c.loop-number.number c.instance.result.now c.in_ok-of.field-0 c.loop-number.invariant c.instance.ensures.at
    c.in_ok-of.ensures c.in_ok-push.ensures.items
