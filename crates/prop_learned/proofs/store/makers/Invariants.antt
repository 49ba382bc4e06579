use Rattle.std.proofs.Common.{◌≡◌, ◌≢◌, ◌<◌, ℕ, Some, false, slice_get}
use Rattle.prop_trail.specs.declared.entry.Entry.{Entry}
use Rattle.prop_trail.specs.declared.entry.Source.TheVariants.{Nogood}
use Rattle.prop_learned.proofs.store.makers.Given as goal

abbrev pub invariant-loop-at : goal.invariant-loop-at
invariant-loop-at l = (p : ℕ) → p < l.at → (k : ℕ) (e : Entry) → slice_get l.trail.entries p ≡ Some e
    → e.by ≡ Nogood k → slice_get l.made.items k ≢ Some false
