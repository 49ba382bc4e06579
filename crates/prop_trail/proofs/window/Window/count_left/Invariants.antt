use Rattle.std.proofs.Common.{◌≡◌, pos, ◌+ℤ◌, ◌-ℤ◌, ◌≤ℤ◌, unsigned_abs}
use Rattle.prop_trail.specs.Windows.{left_in}
use Rattle.prop_trail.proofs.window.Window.count_left.Given as goal

abbrev pub invariant-loop-number : goal.invariant-loop-number
invariant-loop-number l = record {
  least : l.span.lo ≤ℤ l.number;
  most : l.number ≤ℤ (l.span.hi +ℤ pos 1);
  counted : l.count ≡ left_in l.self l.span.lo (unsigned_abs (l.number -ℤ l.span.lo));
}

abbrev pub decreases-loop-number : goal.decreases-loop-number
decreases-loop-number l = unsigned_abs ((l.span.hi +ℤ pos 1) -ℤ l.number)
