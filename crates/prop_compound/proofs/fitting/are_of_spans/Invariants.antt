use Rattle.std.proofs.Common.{take, map, zip}
use Rattle.prop_procedures.specs.Fitting.{kind_at}
use Rattle.prop_compound.proofs.Spans.{AreSpans}
use Rattle.prop_compound.proofs.fitting.are_of_spans.Given as goal

abbrev pub invariant-loop-i : goal.invariant-loop-i
invariant-loop-i l = AreSpans (take l.i (zip l.ins (map (kind_at l.kinds) l.instance.inputs.items)))
