use Rattle.std.proofs.Common.{◌≡◌, ◌<◌, ◌≤◌, ◌/◌, ℕ}
use Rattle.prop_numbers.specs.Sets.{set_of}
use Rattle.prop_numbers.proofs.number_set.NumberSet.apart_from.Given as goal

abbrev pub invariant-loop-place : goal.invariant-loop-place
invariant-loop-place l = (p : ℕ) → l.from ≤ p / 64 → p / 64 < l.place → set_of l.self p ≡ set_of l.other p
