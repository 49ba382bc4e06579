use Rattle.std.proofs.Common.{◌≡◌, ◌≢◌, ◌<◌, ℕ, Some, slice_get}
use Rattle.prop_facts.specs.declared.fact.Literal.{Literal}
use Rattle.prop_trail.specs.Sayings.{Says}
use Rattle.prop_learned.proofs.slot.open_but.Given as goal

abbrev pub invariant-loop-number : goal.invariant-loop-number
invariant-loop-number l = (k : ℕ) → k < l.number → (x : Literal) → k ≢ l.watched.first → k ≢ l.watched.second
    → slice_get l.literals k ≡ Some x → Says l.trail x
