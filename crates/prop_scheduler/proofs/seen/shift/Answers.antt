use Rattle.std.proofs.Common.{List, ℕ, ◌+◌, subst, arith}
use Rattle.prop_numbers.specs.Sets.{set_of}
use Rattle.prop_contents.specs.Knowing.{AreBeliefs}
use Rattle.prop_scheduler.proofs.KnownLaws.{all_passed}
use Rattle.prop_scheduler.proofs.seen.shift.Goals as goal

pub returns : goal.returns
returns g c =
    let d = c.args.network.now.cells in
    let count = c.cells-count.ensures.count in
    let contents = c.cells-count.ensures.contents in
    let done = c.loop-cell-test.false in
    subst (λ (w : List ℕ). AreBeliefs (set_of w) d.contents c.loop-cell.known) c.new-shift.ensures.after
    (all_passed (set_of c.new-shift.result.before.now) (set_of c.new-shift.result.after.now) d.contents
    c.loop-cell.known (c.loop-cell.cell + 1) (omega (arith, count, contents, done)) c.loop-cell.invariant.known)
