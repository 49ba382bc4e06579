-- What the reduction of an explanation does, try by try. A try believes some of its premises alone,
-- to see what they entail.
use Rattle.std.specs.Prelude.{ℕ, ◌+◌, false, ◌≡◌, IsTrue, List, [], ◌∷◌, length, All}
use Rattle.prop_procedures.specs.Stored.{Stored}
use Rattle.prop_numbers.specs.Sets.{Members, IsPart}
use Rattle.prop_cells.specs.Data.{Data}
use Rattle.prop_scheduler.specs.Shifts.{AreShifted}
use Rattle.prop_scheduler.specs.Turns.{Turns}

-- the premises of the last try, and before the first those of the explanation
abbrev pub last_of : Members → List Members → Members
last_of why [] = why
last_of why (s ∷ sets) = s

-- The later cells, line and order are reached from the first by tries of these sets, the last
-- first, with so many calls in all. Each set is of premises of the explanation, and lacks one of
-- them that every set before it has: so no set is tried twice. For each try the worldview changes
-- to the set: the readers and the writers of the cells that shift wait, behind what waited. Then
-- some instances are called, each at the place that the order picks.
pub data TriesOf {O : Type 0} (picks : O → ℕ → ℕ → O → Type 0) (library : List Stored)
    (why : Members) (start : Data) (line : List ℕ) (order : O) : List Members → ℕ → Data → List ℕ
    → O → Type 0 where
  none : TriesOf picks library why start line order [] 0 start line order
  tried : (sets : List Members) (n m : ℕ) (s : Members) (p : ℕ) (d new : Data)
      (before waiting after : List ℕ) (first next : O) → IsPart s why → IsTrue (why p)
      → s p ≡ false → All (λ t. IsTrue (t p)) sets →
      TriesOf picks library why start line order sets n d before first
      → AreShifted (last_of why sets) s d (length d.kinds) before waiting
      → Turns picks library s d waiting first m new after next →
      TriesOf picks library why start line order (s ∷ sets) (n + m) new after next

-- Tries of sets of premises of an explanation, which are all believed. Before the first, the
-- worldview changes from what is believed to the explanation alone: the readers and the writers of
-- the cells that shift wait.
pub record Tries {O : Type 0} (picks : O → ℕ → ℕ → O → Type 0) (library : List Stored)
    (believed : Members) (start : Data) (line : List ℕ) (order : O) (n : ℕ) (new : Data)
    (after : List ℕ) (next : O) : Type 0 where
  pub why : Members
  pub within : IsPart why believed
  pub waiting : List ℕ
  pub shifted : AreShifted believed why start (length start.kinds) line waiting
  pub sets : List Members
  pub tries : TriesOf picks library why start waiting order sets n new after next
