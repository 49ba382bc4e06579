use Rattle.std.proofs.Common.{◌≤◌, ◌-◌, replicate}
use Rattle.std.specs.Prelude.{Err}
use Rattle.prop_engine.specs.Calls.{Leads, WriteCall}
use Rattle.prop_engine.specs.declared.failure.Failure.TheVariants.{Interrupted}
use Rattle.prop_engine.proofs.patience.write.Given as goal

abbrev pub invariant-loop-try : goal.invariant-loop-try
invariant-loop-try g l = record {
  so_far : Leads g.D.Devices.calls l.fn.devices
      (replicate (l._try - 1) (WriteCall l.bytes (Err Interrupted))) l.devices;
  begun : 1 ≤ l._try;
}
