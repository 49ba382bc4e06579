use Rattle.std.proofs.Common.{◌≡◌, Any, filter, length, take}
use Rattle.prop_numbers.specs.Sets.{is_alike}
use Rattle.prop_tms.specs.Beliefs.{Subsumes, merge_of_all}
use Rattle.prop_tms.specs.Values.{entries_of}
use Rattle.prop_tms.proofs.values.surveyed.Given as goal

abbrev pub invariant-loop-valued : goal.invariant-loop-valued
invariant-loop-valued g l = record {
  count : l.count ≡ length (entries_of (take l.valued-index l.values));
  said : l.said ≡ merge_of_all g.V.Partial.bottom g.V.Partial.join
      (filter (λ x. is_alike x.support l.entry.support) (entries_of (take l.valued-index l.values)));
  unknown : ¬ (Any (λ x. Subsumes g.V.Partial.below x l.entry) (entries_of (take l.valued-index l.values)));
}
