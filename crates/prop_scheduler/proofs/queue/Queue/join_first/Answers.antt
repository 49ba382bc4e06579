use Rattle.std.proofs.Common.{◌∙◌}
use Rattle.prop_scheduler.proofs.Line.{FirstAlerted-more, first_alerted_more}
use Rattle.prop_scheduler.proofs.queue.Queue.join_first.Goals as goal

pub loop-number-preserved : goal.loop-number-preserved
loop-number-preserved c = record {
  line = first_alerted_more c.args.self.now.line c.loop-number.self.line c.join.new.self.line c.loop-number.number
      c.loop-number.invariant.line c.join.ensures.alerted;
  alerted = FirstAlerted-more c.args.self.now.line c.loop-number.self.line c.join.new.self.line c.loop-number.number
      c.loop-number.invariant.alerted c.join.ensures.alerted;
  room = c.join.ensures.room ∙ c.loop-number.invariant.room;
}
