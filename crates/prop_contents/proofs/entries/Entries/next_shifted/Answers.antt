use Rattle.std.proofs.Common.{◌≡◌, ◌+◌, ◌≤◌, ℕ, length, subst, sym, arith}
use Rattle.prop_numbers.specs.Sets.{set_of}
use Rattle.prop_contents.specs.Knowing.{ArePassed}
use Rattle.prop_contents.proofs.KnowingLaws.{passed_all}
use Rattle.prop_contents.proofs.entries.Entries.next_shifted.Goals as goal

pub returns-clause-known : goal.returns-clause-known
returns-clause-known c =
    let s = set_of c.args.shift.now.before.now in
    let t = set_of c.args.shift.now.after.now in
    let n = c.self.inside in
    let count : c.len-2.result ≡ length c.args.self.now =
    rw (← c.self.view_is) (let e = c.len-2.ensures in let ok = n.cells.ok in omega (arith, e, ok)) in
    let past : length c.args.self.now ≤ c.loop-cell.cell =
    rw (← c.self.view_is)
    (let e = c.len.ensures in let ok = n.cells.ok in let f = c.loop-cell-test.false in omega (arith, e, ok, f)) in
    subst (λ (k : ℕ). ArePassed (k + 1) s t c.args.self.now c.loop-cell.known) (sym count)
    (passed_all s t c.args.self.now c.loop-cell.known c.loop-cell.cell past c.loop-cell.invariant.known)
