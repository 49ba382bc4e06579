use Rattle.std.proofs.Common.{◌≡◌, ◌≤◌, ℕ, IsTrue, false, take}
use Rattle.prop_numbers.specs.Sets.{Members, set_of, IsSame}
use Rattle.prop_premises.specs.ChoiceLists.{worldview, is_hypothetical}
use Rattle.prop_amb.proofs.levels.leave.Given as goal

abbrev pub invariant-loop-place : goal.invariant-loop-place
invariant-loop-place l = record {
  least : l.from ≤ l.place;
  kept : (users : Members) → ((p : ℕ) → IsTrue (users p) → is_hypothetical l.choices p ≡ false)
      → IsSame (set_of l.initial.believed) (worldview users l.choices (take l.level l.list)) →
      IsSame (set_of l.believed) (worldview users l.choices (take l.place l.list));
}
