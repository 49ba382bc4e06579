use Rattle.std.proofs.Common.{◌≡◌, ℤ, pos, ◌+ℤ◌, ◌≤ℤ◌, ◌<ℤ◌, arith, subst, sym, refl, to_z, w64}
use Rattle.std.proofs.lemmas.Int.{ints, by_lt_z}
use Rattle.prop_trail.specs.Windows.{IsOut}
use Rattle.prop_trail.proofs.window.Window.first_left.Goals as goal

-- what is so of all before a number, and of it, is so of all before the next
one_more : (P : ℤ → Type 0) (lo n m : ℤ) → ((k : ℤ) → lo ≤ℤ k → k <ℤ n → P k) → P n → lo ≤ℤ m
    → m <ℤ (n +ℤ pos 1) → P m
one_more P lo n m below here a b =
    by_lt_z m n (λ l. below m a l) (λ ge. let e : m ≡ n = omega (arith, ints) in subst P (sym e) here)

pub loop-number-preserved : goal.loop-number-preserved
loop-number-preserved c = record {
  least = omega (arith, ints);
  most = omega (arith, ints);
  passed = λ m a b. one_more (IsOut c.args.self.now) c.args.lo (to_z w64 c.loop-number.number-bits) m
      (λ k p q. c.loop-number.invariant.passed k (omega (arith, ints)) (omega (arith, ints))) (c.if-has.ensures.0 refl)
      (omega (arith, ints)) (omega (arith, ints));
}
