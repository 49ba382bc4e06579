use Rattle.std.proofs.Common.{◌≡◌, ◌∙◌, ◌+◌, pos, ◌+ℤ◌, ◌-ℤ◌, unsigned_abs, ap, sym, refl, arith, to_z, of_z, w64}
use Rattle.std.proofs.lemmas.Bool.{false≢true}
use Rattle.std.proofs.lemmas.Int.{ints}
use Rattle.prop_lattice.specs.Ends.{numbers_in}
use Rattle.prop_trail.specs.Windows.{left_in}
use Rattle.prop_trail.proofs.WindowLaws.{all_left, left_le, left_more, count_out, count_not_out}
use Rattle.prop_trail.proofs.window.Window.count_left.Goals as goal
use Rattle.prop_trail.proofs.window.Window.count_left.Goals.{then-not-has, else-not-has}

pub returns-then-is_clean : goal.returns-then-is_clean
returns-then-is_clean c =
    c.count.ensures ∙ all_left c.args.self.now c.args.span.lo (numbers_in c.args.span) (c.if-is_clean.ensures refl)

pub overflow_add-count : goal.overflow_add-count
overflow_add-count c =
    let lo = c.args.span.lo in
    let n = to_z w64 c.loop-number.number-bits in
    let le = left_le c.args.self.now lo (unsigned_abs (n -ℤ lo)) in
    let e = c.loop-number.invariant.counted in
    let a = c.args.span.above in
    let b = c.args.span.below in
    omega (arith, ints, le, e, a, b)

pub loop-number-smaller : goal.loop-number-smaller
loop-number-smaller c = omega (arith, ints)

pub loop-number-preserved : goal.loop-number-preserved
loop-number-preserved c =
    let lo = c.args.span.lo in
    let w = c.args.self.now in
    let n = to_z w64 c.loop-number.number-bits in
    let k = unsigned_abs (n -ℤ lo) in
    let first = c.loop-number.invariant.least in
    let here : n ≡ lo +ℤ pos k = omega (arith, ints) in
    let next : unsigned_abs (to_z w64 (of_z w64 (n +ℤ pos 1)) -ℤ lo) ≡ k + 1 = omega (arith, ints) in
    let more = left_more w lo n k here in
    let was = c.loop-number.invariant.counted in
    let counted : c.if-not-has.count ≡ left_in w lo (k + 1) =
    elim c.if-not-has.branch [
      | then-not-has b ↦ (
          let none = count_not_out w n (λ out. false≢true (b.if-not-has.ensures.1 out)) in
          let is = b.count-is in
          omega (arith, more, was, none, is))
      | else-not-has b ↦ (
          let one = count_out w n (b.if-not-has.ensures.0 refl) in
          let is = b.count-is in
          omega (arith, more, was, one, is))
    ] in
    record {
      least = omega (arith, ints);
      most = omega (arith, ints);
      counted = counted ∙ ap (left_in w lo) (sym next);
    }
