use Rattle.std.proofs.Common.{◌≡◌, take, All}
use Rattle.prop_tms.specs.Beliefs.{belief_of}
use Rattle.prop_tms.specs.inner.Gains.{nobody}
use Rattle.prop_tms.specs.Values.{entries_of}
use Rattle.prop_tms.proofs.few.all_say_less_on_premises.Given as goal

abbrev pub invariant-loop-valued : goal.invariant-loop-valued
invariant-loop-valued g l = record {
  less : All (λ x. ¬ (g.V.Partial.below l.value x.value)) (take l.valued-index l.values);
  freely : belief_of g.V.Partial.bottom g.V.Partial.join nobody (entries_of (take l.valued-index l.values))
      ≡ g.V.Partial.bottom;
}
