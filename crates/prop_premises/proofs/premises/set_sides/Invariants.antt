use Rattle.std.proofs.Common.{◌≡◌, ◌||◌, ℕ, length, drop}
use Rattle.prop_numbers.specs.Words.{has_bit}
use Rattle.prop_premises.specs.ChoiceLists.{hypotheticals_of}
use Rattle.prop_premises.proofs.premises.set_sides.Given as goal

abbrev pub invariant-loop-place : goal.invariant-loop-place
invariant-loop-place l = record {
  len : length l.words ≡ length l.fn.words;
  bits : (p : ℕ) → (has_bit l.words p || hypotheticals_of (drop l.place l.choices) (drop l.place l.sides) p) ≡
      (has_bit l.fn.words p || hypotheticals_of l.choices l.sides p);
}
