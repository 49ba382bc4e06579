use Rattle.std.proofs.Common.{◌≤◌, ◌≡◌, ◌*◌, length}
use Rattle.prop_engine.proofs.Ending.{HasTurned}
use Rattle.prop_engine.proofs.engine.run_session.Given as goal

abbrev pub invariant-loop-turn : goal.invariant-loop-turn
invariant-loop-turn g l = record {
  same : g.M.Interpreter.setting l.interpreter ≡ g.M.Interpreter.setting l.fn.interpreter;
  ready : g.M.Interpreter.is_ready l.interpreter;
  so_far : HasTurned g.D.Devices.calls l.fn.devices l.devices
      (g.M.Interpreter.machine (g.M.Interpreter.setting l.fn.interpreter))
      (g.M.Interpreter.state l.fn.interpreter) l._turn l.pending l.counts
      (g.M.Interpreter.state l.interpreter);
  piece : length l.piece ≡ 4096;
  lines : l.counts.lines ≤ 4096 * l._turn;
  refused : l.counts.refused ≤ 4096 * l._turn;
}
