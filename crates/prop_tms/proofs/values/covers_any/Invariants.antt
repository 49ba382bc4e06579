use Rattle.std.proofs.Common.{take, All}
use Rattle.prop_tms.proofs.values.covers_any.Given as goal

abbrev pub invariant-loop-valued : goal.invariant-loop-valued
invariant-loop-valued g l = All (λ x. ¬ (g.V.Partial.below x.value l.value)) (take l.valued-index l.values)
