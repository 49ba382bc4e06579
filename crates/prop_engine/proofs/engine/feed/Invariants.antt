use Rattle.std.proofs.Common.{◌≡◌, length}
use Rattle.prop_engine.proofs.Feeds.{IsFed}
use Rattle.prop_engine.proofs.engine.feed.Given as goal

abbrev pub invariant-loop-end : goal.invariant-loop-end
invariant-loop-end g l = record {
  same : g.M.Interpreter.setting l.interpreter ≡ g.M.Interpreter.setting l.fn.interpreter;
  ready : g.M.Interpreter.is_ready l.interpreter;
  fed : IsFed g.D.Devices.calls l.fn.devices l.devices
      (g.M.Interpreter.machine (g.M.Interpreter.setting l.fn.interpreter))
      (g.M.Interpreter.state l.fn.interpreter) l.fn.pending l.fn.counts l.piece l.left
      (g.M.Interpreter.state l.interpreter) l.pending l.counts;
}

abbrev pub decreases-loop-end : goal.decreases-loop-end
decreases-loop-end g l = length l.left
