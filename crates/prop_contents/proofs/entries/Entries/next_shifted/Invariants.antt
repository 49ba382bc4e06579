use Rattle.std.proofs.Common.{◌≡◌, ◌<◌, ◌≤◌, ◌-◌, ℕ, length}
use Rattle.prop_numbers.specs.Sets.{set_of}
use Rattle.prop_contents.specs.Contents.{beliefs}
use Rattle.prop_contents.specs.Knowing.{ArePassed}
use Rattle.prop_contents.proofs.entries.Entries.next_shifted.Given as goal

abbrev pub invariant-loop-cell : goal.invariant-loop-cell
invariant-loop-cell l = record {
  low : l.from ≤ l.cell;
  passed : (k : ℕ) → l.from ≤ k → k < l.cell
      → beliefs (set_of l.shift.before.now) l.self k ≡ beliefs (set_of l.shift.after.now) l.self k;
  known : ArePassed l.cell (set_of l.shift.before.now) (set_of l.shift.after.now) l.self l.known;
}

abbrev pub decreases-loop-cell : goal.decreases-loop-cell
decreases-loop-cell l = length l.self - l.cell
