use Rattle.std.proofs.Common.{◌≡◌, ◌<◌, ℕ, false, length, take, drop, get_or}
use Rattle.prop_tms.specs.Beliefs.{Subsumes}
use Rattle.prop_tms.specs.Kept.{IsLeftWithout}
use Rattle.prop_tms.specs.Values.{entries_of}
use Rattle.prop_tms.specs.inner.Values.{values_of, NoneEmptied, HasRoomOf}
use Rattle.prop_tms.specs.declared.values.Valued.{Valued}
use Rattle.prop_tms.proofs.values.drop_subsumed.Given as goal

abbrev pub invariant-loop-valued : goal.invariant-loop-valued
invariant-loop-valued g l = record {
  kept : IsLeftWithout (Subsumes g.V.Partial.below l.entry) (entries_of (take l.valued-index l.fn.values))
      (entries_of (take l.valued-index l.valued-items));
  values : values_of l.valued-items ≡ values_of l.fn.values;
  room : (k : ℕ) (d : Valued _) → k < length l.fn.values
      → HasRoomOf (get_or l.valued-items k d) (get_or l.fn.values k d);
  emptied : l.emptied ≡ false → NoneEmptied l.fn.values l.valued-items;
  rest : drop l.valued-index l.valued-items ≡ drop l.valued-index l.fn.values;
}
