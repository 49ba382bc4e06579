use Rattle.std.proofs.Common.{◌≡◌}
use Rattle.std.specs.List.{fold}
use Rattle.prop_trail.specs.Queues.{woken, numbers_below}
use Rattle.prop_trail.proofs.waiting.Waiting.wake_all.Given as goal

abbrev pub invariant-loop-instance : goal.invariant-loop-instance
invariant-loop-instance l = record {
  now : l.self ≡ fold woken l.initial.self (numbers_below l.instance);
  dear : l.self.dear ≡ l.initial.self.dear;
}
