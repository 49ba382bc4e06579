use Rattle.std.proofs.Common.{◌≤◌, ◌-◌, length, drop}
use Rattle.prop_engine.proofs.Sent.{Wrote}
use Rattle.prop_engine.proofs.sending.put.Given as goal

abbrev pub invariant-loop-at : goal.invariant-loop-at
invariant-loop-at g l = record {
  in_range : l.at ≤ length l.bytes;
  so_far : Wrote g.D.Devices.calls l.fn.devices l.devices l.bytes (drop l.at l.bytes);
}

abbrev pub decreases-loop-at : goal.decreases-loop-at
decreases-loop-at g l = length l.bytes - l.at
