use Rattle.std.proofs.Common.{◌≡◌, ◌<◌, List, length, take, All}
use Rattle.prop_trail.specs.Trails.{all_after}
use Rattle.prop_trail.specs.declared.entry.Entry.{Entry}
use Rattle.prop_trail.specs.declared.place.Place.{Place}
use Rattle.prop_trail.specs.inner.Making.{AreMade}
use Rattle.prop_trail.proofs.trail.cut.Given as goal

abbrev pub invariant-loop-entries : goal.invariant-loop-entries
invariant-loop-entries l = record {
  front : take l.start l.entries.items ≡ take l.start l.initial.entries.items;
  within : All (λ (e : Entry). e.place < length l.places.items) l.entries.items;
  now : (roots : List Place) → AreMade 0 roots l.initial.entries.items
      → l.initial.places.items ≡ all_after 0 roots l.initial.entries.items
      → AreMade 0 roots l.entries.items × (l.places.items ≡ all_after 0 roots l.entries.items);
}

abbrev pub decreases-loop-entries : goal.decreases-loop-entries
decreases-loop-entries l = length l.entries.items
