-- What divisions make of cells is good where no divisor is zero.
use Rattle.std.proofs.Common.{◌≡◌, ◌∙◌, ℕ, ◌+◌, ℤ, pos, ◌-ℤ◌, ◌*ℤ◌, Bool, cond, List, length}
use Rattle.std.proofs.Common.{Option, Some, None, refl, ap, sym, subst, arith, IsTrue}
use Rattle.std.proofs.lemmas.Int.{ints}
use Rattle.prop_lattice.specs.Points.{Point, Number, IsPointOf}
use Rattle.prop_lattice.specs.declared.span.Span as spans
use Rattle.prop_procedures.specs.declared.shape.Kinded.{Kinded}
use Rattle.prop_terms.specs.Meaning.{quotient}
use Rattle.prop_meaning.specs.Words.{Lexicon, Lies, LiesIn}
use Rattle.prop_meaning.specs.declared.draft.Made.{Made}
use Rattle.prop_meaning.specs.declared.known.Known.{Known}
use Rattle.prop_meaning.specs.declared.steps.Pair.TheVariants.{Product}
use Rattle.prop_meaning.specs.declared.steps.Step.TheVariants as steps
use Rattle.prop_meaning.specs.inner.Drafts.{known_at, Has, Runs, IsPoint, IsGood, IsSound, Grown, Makes, NeverZero}
use Rattle.prop_meaning.specs.inner.Drafts.{LiesAt}
use Rattle.prop_meaning.specs.inner.Drafts.{number_kind}
use Rattle.prop_meaning.specs.inner.Spans.{HoldsQuotients, HoldsMultiples, HoldsLeft}
use Rattle.prop_meaning.specs.inner.Steps.{of_two, number_or, quotient_point, remainder_point, may_leave, left_point}
use Rattle.prop_meaning.specs.inner.Steps.{IsLeft}
use Rattle.prop_meaning.proofs.Formulas.{on_numbers}
use Rattle.prop_meaning.proofs.Growing.{has_grows, is_point, is_proper, makes_grows, runs_back, stands_before}
use Rattle.prop_meaning.proofs.Quotients.{divides, is_number, only_zero}
use Rattle.prop_meaning.proofs.Ways.{on_three_numbers}

-- a number in the span is what is known
number_point : (lexicon : Lexicon) (k : Known) (z : ℤ) → k.kinded ≡ number_kind → Lies k.span z
    → IsPoint lexicon k (Number z)
number_point lexicon k z kind l = record {
  within = (
    let P : Kinded → Type 0 = λ n. IsPointOf n.kind n.size (Number z) in
        subst P (sym kind) (omega (arith, ints, k.span.above, l.0), omega (arith, ints, k.span.below, l.1)),
    l,
  );
  named = tt;
}

pub lies_at : (lexicon : Lexicon) (made : List Made) (x : ℕ) (k : Known) → IsSound lexicon made
    → known_at lexicon made x ≡ Some k → LiesAt lexicon made x k.span
lies_at lexicon made x k sound e a r = (is_point lexicon made x k a sound r e).within.1

-- a number in a span without zero is none
pub never_by : (lexicon : Lexicon) (made : List Made) (y : ℕ) (s : spans.Span) → LiesAt lexicon made y s
    → ((v : ℤ) → Lies s v → v ≡ pos 0 → ⊥) → NeverZero lexicon made y
never_by lexicon made y s l n a r e = n (pos 0) (subst (LiesIn s) e (l a r)) refl

-- ---- quotients

pub good_quotient : (lexicon : Lexicon) (made : List Made) (x y : ℕ) (s t : spans.Span) (k : Known)
    → IsSound lexicon made → Has lexicon made x number_kind → Has lexicon made y number_kind
    → NeverZero lexicon made y → LiesAt lexicon made x s → LiesAt lexicon made y t → k.kinded ≡ number_kind
    → HoldsQuotients s t k.span
    → IsGood lexicon made (lexicon.count + length made) (record { step = steps.Quotient x y; known = k })
good_quotient lexicon made x y s t k sound hx hy never lx ly kind holds = record {
  behind = (stands_before lexicon made x number_kind hx, stands_before lexicon made y number_kind hy);
  suits = (hx, hy, kind);
  within = λ a r. on_numbers 0 (λ p q. LiesIn s p → LiesIn t q → (q ≡ Number (pos 0) → ⊥)
      → IsPoint lexicon k (quotient_point p q))
      (λ u v i j n. by u v i j n (quotient u v) refl) (a x) (a y)
      (is_proper lexicon made x number_kind a sound r hx).of_kind
      (is_proper lexicon made y number_kind a sound r hy).of_kind (lx a r) (ly a r) (never a r);
}
  where
    by : (u v : ℤ) → Lies s u → Lies t v → (Number v ≡ Number (pos 0) → ⊥) → (o : Option ℤ) → quotient u v ≡ o
        → IsPoint lexicon k (number_or o)
    by u v i j n None e = absurd (n (ap Number (only_zero u v e)))
    by u v i j n (Some q) e = number_point lexicon k q kind (holds u v q i j e)

pub good_multiple : (lexicon : Lexicon) (made : List Made) (x y q : ℕ) (s t : spans.Span) (k : Known)
    → IsSound lexicon made → Has lexicon made x number_kind → Has lexicon made y number_kind
    → Makes lexicon made number_kind (λ a. quotient_point (a x) (a y)) q → LiesAt lexicon made x s
    → LiesAt lexicon made y t → k.kinded ≡ number_kind → HoldsMultiples s t k.span
    → IsGood lexicon made (lexicon.count + length made) (record { step = steps.Two Product q y; known = k })
good_multiple lexicon made x y q s t k sound hx hy m lx ly kind holds = record {
  behind = (stands_before lexicon made q number_kind m.has, stands_before lexicon made y number_kind hy);
  suits = (number_kind, refl, m.has, hy, kind);
  within = λ a r. on_three_numbers (λ p q w. LiesIn s p → LiesIn t q → w ≡ quotient_point p q
      → IsPoint lexicon k (of_two Product w q))
      (λ u v w i j e. number_point lexicon k (w *ℤ v) kind (holds u v w i j (is_number (quotient u v) w e)))
      number_kind refl (a x) (a y) (a q)
      (is_proper lexicon made x number_kind a sound r hx).of_kind
      (is_proper lexicon made y number_kind a sound r hy).of_kind
      (is_proper lexicon made q number_kind a sound r m.has).of_kind (lx a r) (ly a r) (m.is a r);
}

pub good_left : (lexicon : Lexicon) (made : List Made) (x p y : ℕ) (t : spans.Span) (k : Known)
    → IsSound lexicon made → Has lexicon made x number_kind → Has lexicon made p number_kind
    → Has lexicon made y number_kind → LiesAt lexicon made y t
    → ((a : ℕ → Point) → Runs lexicon made a → IsLeft (a x) (a p) (a y)) → k.kinded ≡ number_kind
    → HoldsLeft t k.span
    → IsGood lexicon made (lexicon.count + length made) (record { step = steps.Left x p y; known = k })
good_left lexicon made x p y t k sound hx hp hy ly left kind holds = record {
  behind = (
    stands_before lexicon made x number_kind hx,
    stands_before lexicon made p number_kind hp,
    stands_before lexicon made y number_kind hy,
  );
  suits = (hx, hp, hy, kind);
  within = λ a r. on_three_numbers (λ p m q. LiesIn t q → IsLeft p m q → IsPoint lexicon k (left_point p m q))
      (λ u m v j l. by u m v j l) number_kind refl (a x) (a p) (a y)
      (is_proper lexicon made x number_kind a sound r hx).of_kind
      (is_proper lexicon made p number_kind a sound r hp).of_kind
      (is_proper lexicon made y number_kind a sound r hy).of_kind (ly a r) (left a r);
}
  where
    by : (u m v : ℤ) → Lies t v → IsTrue (may_leave v (u -ℤ m))
        → IsPoint lexicon k (left_point (Number u) (Number m) (Number v))
    by u m v j l =
        let P : Bool → Type 0 = λ b. IsPoint lexicon k (number_or (cond b (Some (u -ℤ m)) None)) in
        subst P (sym l) (number_point lexicon k (u -ℤ m) kind (holds v (u -ℤ m) j l))

-- ---- what is left

-- at any points where the quotient and its multiple are made, this may be left
divides_at : (lexicon : Lexicon) (made : List Made) (x y q p : ℕ) (a : ℕ → Point) → IsSound lexicon made
    → Has lexicon made x number_kind → Has lexicon made y number_kind
    → Makes lexicon made number_kind (λ a. quotient_point (a x) (a y)) q
    → Makes lexicon made number_kind (λ a. of_two Product (a q) (a y)) p → Runs lexicon made a
    → IsLeft (a x) (a p) (a y) × (left_point (a x) (a p) (a y) ≡ remainder_point (a x) (a y))
divides_at lexicon made x y q p a sound hx hy mq mp r = divides (a x) (a y) (a q) (a p)
    (is_proper lexicon made x number_kind a sound r hx).of_kind
    (is_proper lexicon made y number_kind a sound r hy).of_kind
    (is_proper lexicon made q number_kind a sound r mq.has).of_kind (mq.is a r) (mp.is a r)

pub leaves_there : (lexicon : Lexicon) (first second : List Made) (x y q p : ℕ) → Has lexicon first x number_kind
    → Has lexicon first y number_kind → Makes lexicon first number_kind (λ a. quotient_point (a x) (a y)) q
    → Grown lexicon first second → Makes lexicon second number_kind (λ a. of_two Product (a q) (a y)) p
    → (a : ℕ → Point) → Runs lexicon second a → IsLeft (a x) (a p) (a y)
leaves_there lexicon first second x y q p hx hy mq g mp a r = (divides_at lexicon second x y q p a g.sound
    (has_grows lexicon first second x number_kind g.grows hx) (has_grows lexicon first second y number_kind g.grows hy)
    (makes_grows lexicon first second number_kind (λ a. quotient_point (a x) (a y)) q g mq) mp r).0

pub makes_remainder : (lexicon : Lexicon) (first second third : List Made) (x y q p place : ℕ)
    → Has lexicon first x number_kind → Has lexicon first y number_kind
    → Makes lexicon first number_kind (λ a. quotient_point (a x) (a y)) q
    → Grown lexicon first second → Makes lexicon second number_kind (λ a. of_two Product (a q) (a y)) p
    → Grown lexicon second third → Makes lexicon third number_kind (λ a. left_point (a x) (a p) (a y)) place
    → Makes lexicon third number_kind (λ a. remainder_point (a x) (a y)) place
makes_remainder lexicon first second third x y q p place hx hy mq g mp h m = record {
  has = m.has;
  is = λ a r. m.is a r ∙ (divides_at lexicon second x y q p a g.sound
      (has_grows lexicon first second x number_kind g.grows hx)
      (has_grows lexicon first second y number_kind g.grows hy)
      (makes_grows lexicon first second number_kind (λ a. quotient_point (a x) (a y)) q g mq) mp
      (runs_back lexicon second third a h.grows r)).1;
}
