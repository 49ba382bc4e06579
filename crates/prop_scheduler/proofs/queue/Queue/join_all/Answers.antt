use Rattle.std.proofs.Common.{◌∙◌}
use Rattle.prop_scheduler.proofs.Line.{AllAlerted-more, all_alerted_more}
use Rattle.prop_scheduler.proofs.queue.Queue.join_all.Goals as goal

pub loop-number-preserved : goal.loop-number-preserved
loop-number-preserved c = record {
  line = all_alerted_more c.args.self.now.line c.loop-number.self.line c.join.new.self.line c.args.numbers.now
      c.loop-number.number-index c.loop-number-test.true c.loop-number.invariant.line c.join.ensures.alerted;
  alerted = AllAlerted-more c.args.self.now.line c.loop-number.self.line c.join.new.self.line c.args.numbers.now
      c.loop-number.number-index c.loop-number-test.true c.loop-number.invariant.alerted c.join.ensures.alerted;
  room = c.join.ensures.room ∙ c.loop-number.invariant.room;
}
