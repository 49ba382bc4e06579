use Rattle.std.proofs.Common.{◌≡◌, ℤ, pos, ◌-ℤ◌, ◌≤ℤ◌, ◌<ℤ◌, arith, subst, sym, refl, to_z, w64}
use Rattle.std.proofs.lemmas.Int.{ints, by_lt_z}
use Rattle.prop_trail.specs.Windows.{IsOut}
use Rattle.prop_trail.proofs.window.Window.last_left.Goals as goal

-- what is so of all behind a number, and of it, is so of all behind the one before
one_more : (P : ℤ → Type 0) (hi n m : ℤ) → ((k : ℤ) → n <ℤ k → k ≤ℤ hi → P k) → P n → (n -ℤ pos 1) <ℤ m
    → m ≤ℤ hi → P m
one_more P hi n m above here a b =
    by_lt_z n m (λ l. above m l b) (λ ge. let e : m ≡ n = omega (arith, ints) in subst P (sym e) here)

pub loop-number-preserved : goal.loop-number-preserved
loop-number-preserved c = record {
  most = omega (arith, ints);
  least = omega (arith, ints);
  passed = λ m a b. one_more (IsOut c.args.self.now) c.args.hi (to_z w64 c.loop-number.number-bits) m
      (λ k p q. c.loop-number.invariant.passed k (omega (arith, ints)) (omega (arith, ints))) (c.if-has.ensures.0 refl)
      (omega (arith, ints)) (omega (arith, ints));
}
