use Rattle.std.proofs.Common.{◌≡◌, take, drop, filter, not}
use Rattle.std.specs.List.{list_any}
use Rattle.prop_numbers.specs.Sets.{set_of}
use Rattle.prop_tms.specs.Values.{entries_of}
use Rattle.prop_tms.specs.inner.Values.{values_of}
use Rattle.prop_tms.proofs.purging.drop_resting.Given as goal

abbrev pub invariant-loop-valued : goal.invariant-loop-valued
invariant-loop-valued g l = record {
  left : entries_of (take l.valued-index l.valued-items) ≡ filter (λ e. not (set_of e.support l.premise))
      (entries_of (take l.valued-index l.fn.values));
  values : values_of l.valued-items ≡ values_of l.fn.values;
  rest : drop l.valued-index l.valued-items ≡ drop l.valued-index l.fn.values;
  went : l.went ≡ list_any (λ e. set_of e.support l.premise) (entries_of (take l.valued-index l.fn.values));
}
