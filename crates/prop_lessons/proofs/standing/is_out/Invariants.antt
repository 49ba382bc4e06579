use Rattle.std.proofs.Common.{◌≡◌, ℕ, ◌+◌, ◌<◌, ◌≤◌, false}
use Rattle.prop_numbers.specs.Sets.{set_of}
use Rattle.prop_lessons.proofs.standing.is_out.Given as goal

abbrev pub invariant-loop-side : goal.invariant-loop-side
invariant-loop-side l = (p : ℕ) → l.choice.first ≤ p → p < l.choice.first + l.side → set_of l.gone p ≡ false
