use Rattle.std.proofs.Common.{ℤ, pos, ◌+ℤ◌, ◌≤ℤ◌, ◌<ℤ◌}
use borrow.Author.Gap.{gap}
use Rattle.prop_trail.specs.Windows.{IsOut}
use Rattle.prop_trail.proofs.window.Window.first_left.Given as goal

abbrev pub invariant-loop-number : goal.invariant-loop-number
invariant-loop-number l = record {
  least : l.lo ≤ℤ l.number;
  most : l.number ≤ℤ (l.hi +ℤ pos 1);
  passed : (m : ℤ) → l.lo ≤ℤ m → m <ℤ l.number → IsOut l.self m;
}

abbrev pub decreases-loop-number : goal.decreases-loop-number
decreases-loop-number l = gap l.number (l.hi +ℤ pos 1)
