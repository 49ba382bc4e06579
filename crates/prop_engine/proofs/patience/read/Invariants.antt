use Rattle.std.proofs.Common.{◌≡◌, ◌≤◌, ◌-◌, length, replicate}
use Rattle.std.specs.Prelude.{Err}
use Rattle.prop_engine.specs.Calls.{Leads, ReadCall}
use Rattle.prop_engine.specs.declared.failure.Failure.TheVariants.{Interrupted}
use Rattle.prop_engine.proofs.patience.read.Given as goal

abbrev pub invariant-loop-try : goal.invariant-loop-try
invariant-loop-try g l = record {
  so_far : Leads g.D.Devices.calls l.fn.devices
      (replicate (l._try - 1) (ReadCall (length l.fn.buffer) (Err Interrupted))) l.devices;
  buffer : length l.buffer ≡ length l.fn.buffer;
  begun : 1 ≤ l._try;
}
