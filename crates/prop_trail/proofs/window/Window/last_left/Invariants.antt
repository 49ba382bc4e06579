use Rattle.std.proofs.Common.{ℤ, pos, ◌+ℤ◌, ◌≤ℤ◌, ◌<ℤ◌}
use borrow.Author.Gap.{gap}
use Rattle.prop_trail.specs.Windows.{IsOut}
use Rattle.prop_trail.proofs.window.Window.last_left.Given as goal

abbrev pub invariant-loop-number : goal.invariant-loop-number
invariant-loop-number l = record {
  most : l.number ≤ℤ l.hi;
  least : l.lo ≤ℤ (l.number +ℤ pos 1);
  passed : (m : ℤ) → l.number <ℤ m → m ≤ℤ l.hi → IsOut l.self m;
}

abbrev pub decreases-loop-number : goal.decreases-loop-number
decreases-loop-number l = gap l.lo (l.number +ℤ pos 1)
