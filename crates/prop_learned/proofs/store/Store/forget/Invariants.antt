use Rattle.std.proofs.Common.{◌≡◌, ◌≢◌, ℕ, Some, false, slice_get}
use Rattle.prop_refuting.specs.Nogoods.{Nogood}
use Rattle.prop_learned.specs.Stores.{IsKeptAt}
use Rattle.prop_learned.proofs.store.Store.forget.Given as goal

abbrev pub invariant-loop-number : goal.invariant-loop-number
invariant-loop-number l = record {
  numbers : (k : ℕ) (g : Nogood) → IsKeptAt l.self k g → IsKeptAt l.fn.self k g;
  made : (k : ℕ) → slice_get l.made.items k ≢ Some false → slice_get l.self k ≡ slice_get l.fn.self k;
}
