use Rattle.std.proofs.Common.{◌≡◌, take, drop, filter}
use Rattle.prop_numbers.specs.Sets.{is_below}
use Rattle.prop_tms.specs.Values.{entries_of}
use Rattle.prop_tms.specs.inner.Values.{values_of}
use Rattle.prop_tms.proofs.values.drop_from.Given as goal

abbrev pub invariant-loop-valued : goal.invariant-loop-valued
invariant-loop-valued g l = record {
  left : entries_of (take l.valued-index l.valued-items) ≡ filter (λ e. is_below l.count e.support)
      (entries_of (take l.valued-index l.fn.values));
  values : values_of l.valued-items ≡ values_of l.fn.values;
  rest : drop l.valued-index l.valued-items ≡ drop l.valued-index l.fn.values;
}
