use Rattle.std.proofs.Common.{take, All}
use Rattle.prop_tms.proofs.few.all_say_less.Given as goal

abbrev pub invariant-loop-valued : goal.invariant-loop-valued
invariant-loop-valued g l = All (λ x. ¬ (g.V.Partial.below l.value x.value)) (take l.valued-index l.values)
