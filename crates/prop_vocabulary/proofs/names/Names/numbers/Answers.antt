use Rattle.prop_vocabulary.proofs.Lookups.{numbers_more}
use Rattle.prop_vocabulary.proofs.names.Names.numbers.Goals as goal

pub loop-name-preserved : goal.loop-name-preserved
loop-name-preserved c = numbers_more c.args.self.now c.args.names.now c.loop-name.name-index _ c.loop-name.numbers.items
    c.push.new.self.items c.number.result c.loop-name-test.true c.loop-name.invariant c.in_ok-push.ensures.items
    c.number.ensures
