use Rattle.std.proofs.Common.{◌≡◌, ℕ, [], length, slice_index_or}
use Rattle.prop_origins.proofs.log.no_premises.Given as goal

abbrev pub invariant-loop : goal.invariant-loop
invariant-loop l = record {
  count : length l.sets.items ≡ l.counter;
  none : (k : ℕ) → slice_index_or l.sets.items k [] ≡ [];
}
