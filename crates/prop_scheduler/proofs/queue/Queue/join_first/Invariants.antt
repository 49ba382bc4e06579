use Rattle.std.proofs.Common.{◌≡◌}
use Rattle.prop_scheduler.specs.Agendas.{FirstAlerted, all_alerted, numbers_below}
use Rattle.prop_scheduler.proofs.queue.Queue.join_first.Given as goal

abbrev pub invariant-loop-number : goal.invariant-loop-number
invariant-loop-number l = record {
  line : l.self.line ≡ all_alerted l.initial.self.line (numbers_below l.number);
  alerted : FirstAlerted l.initial.self.line l.self.line l.number;
  room : l.self.room ≡ l.initial.self.room;
}
