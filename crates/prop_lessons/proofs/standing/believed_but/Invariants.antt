use Rattle.std.proofs.Common.{◌≡◌, ℕ, false, IsTrue}
use Rattle.prop_numbers.specs.Sets.{IsPart, set_of}
use Rattle.prop_premises.specs.Origins.{believed_in}
use Rattle.prop_lessons.proofs.standing.believed_but.Given as goal

abbrev pub invariant-loop-number : goal.invariant-loop-number
invariant-loop-number l = record {
  believed : IsPart (set_of l.standing) (believed_in l.premises);
  stay : (p : ℕ) → IsTrue (set_of l.standing p) → set_of l.gone p ≡ false;
}
