use Rattle.std.proofs.Common.{take}
use Rattle.prop_engine.specs.inner.Lines.{IsWithoutFeed}
use Rattle.prop_engine.proofs.engine.line_end.Given as goal

abbrev pub invariant-loop-i : goal.invariant-loop-i
invariant-loop-i l = IsWithoutFeed (take l.i l.bytes)
