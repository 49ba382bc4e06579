use Rattle.std.proofs.Common.{◌≡◌, take}
use Rattle.prop_scheduler.specs.Agendas.{AllAlerted, all_alerted}
use Rattle.prop_scheduler.proofs.queue.Queue.join_all.Given as goal

abbrev pub invariant-loop-number : goal.invariant-loop-number
invariant-loop-number l = record {
  line : l.self.line ≡ all_alerted l.initial.self.line (take l.number-index l.numbers);
  alerted : AllAlerted l.initial.self.line l.self.line (take l.number-index l.numbers);
  room : l.self.room ≡ l.initial.self.room;
}
