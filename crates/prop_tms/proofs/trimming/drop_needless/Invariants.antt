use Rattle.std.proofs.Common.{◌≡◌, ◌≤◌, ◌<◌, ◌-◌, length, get_or}
use Rattle.prop_numbers.specs.Sets.{set_of}
use Rattle.prop_tms.specs.Beliefs.{belief_of}
use Rattle.prop_tms.specs.Values.{entries_of}
use Rattle.prop_tms.specs.inner.Values.{place_of}
use Rattle.prop_tms.specs.declared.values.Valued.{Valued}
use Rattle.prop_tms.proofs.TrimLemmas.{IsTrimmed}
use Rattle.prop_tms.proofs.trimming.drop_needless.Given as goal

abbrev pub invariant-loop-at : goal.invariant-loop-at
invariant-loop-at g l = record {
  at : l.at ≤ length l.values;
  value : l.value ≡ belief_of g.V.Partial.bottom g.V.Partial.join (set_of l.worldview) (entries_of l.values);
  trimmed : IsTrimmed g.V.Partial.below g.V.Partial.bottom g.V.Partial.join (set_of l.told) (set_of l.worldview)
      l.fn.values l.values (place_of l.values l.at 0);
}

abbrev pub decreases-loop-at : goal.decreases-loop-at
decreases-loop-at g l = length l.values - l.at

abbrev pub invariant-loop-place : goal.invariant-loop-place
invariant-loop-place g l = record {
  at : l.at < length l.values;
  place : (d : Valued _) → l.place ≤ length (get_or l.values l.at d).supports.items;
  value : l.value ≡ belief_of g.V.Partial.bottom g.V.Partial.join (set_of l.worldview) (entries_of l.values);
  trimmed : IsTrimmed g.V.Partial.below g.V.Partial.bottom g.V.Partial.join (set_of l.told) (set_of l.worldview)
      l.fn.values l.values (place_of l.values l.at l.place);
}

abbrev pub decreases-loop-place : goal.decreases-loop-place
decreases-loop-place g l = length (entries_of l.values) - place_of l.values l.at l.place
