-- Ends that move inwards past numbers that were ruled out.
use Rattle.std.proofs.Common.{◌≡◌, ◌≢◌, ◌⊎◌, ℤ, pos, ◌+ℤ◌, ◌-ℤ◌, ◌≤ℤ◌, ◌<ℤ◌, ap, sym, refl, subst, arith, inl, inr}
use Rattle.std.proofs.lemmas.Int.{by_lt_z, ints}
use Rattle.prop_lattice.specs.Ends.{span_from}
use Rattle.prop_lattice.specs.Order.{Below}
use Rattle.prop_lattice.specs.Points.{Point, Number, Element, Symbol, Holds}
use Rattle.prop_lattice.specs.laws.OrderLaws.{info_laws}
use Rattle.prop_lattice.specs.declared.span.Span as spans
use Rattle.prop_lattice.specs.declared.info.Info.{Info}
use Rattle.prop_lattice.specs.declared.info.Info.TheVariants.{Nothing, Span, Set, Sym, Contradiction}
use Rattle.prop_lattice.proofs.EndLemmas.{span_is, span_from-none}
use Rattle.prop_trail.specs.Places.{IsLeftIn}
use Rattle.prop_trail.specs.declared.place.Place.{Place}
use Rattle.prop_trail.specs.Narrowing.{IsGone, IsTight, IsNarrowed}

-- nothing is passed of what has no numbers
pub narrowed_same : (Out : ℤ → Type 0) (a : Info) → IsTight Out a → IsNarrowed Out a a
narrowed_same Out a tight = record {
  above = info_laws.reflexive a;
  tight = tight;
  passed = λ p h gone. absurd (gone h);
}

module _ (Out : ℤ → Type 0) (s : spans.Span) (lo hi : ℤ) (least : s.lo ≤ℤ lo) (most : hi ≤ℤ s.hi)
    (before : (m : ℤ) → s.lo ≤ℤ m → m <ℤ lo → Out m) (behind : (m : ℤ) → hi <ℤ m → m ≤ℤ s.hi → Out m) where
  passed_by : (b : Info) → ((v : ℤ) → lo ≤ℤ v → v ≤ℤ hi → Holds b (Number v)) → (p : Point) → Holds (Span s) p
      → (Holds b p → ⊥) → IsGone Out p
  passed_by b holds (Number v) h gone =
      by_lt_z v lo (λ l. before v h.0 l) (λ ge.
      by_lt_z hi v (λ l. behind v l h.1) (λ le. absurd (gone (holds v ge le))))
  passed_by b holds (Element i) h gone = absurd h
  passed_by b holds (Symbol i) h gone = absurd h

  -- what is between the ends that the numbers at both sides leave
  pub narrowed_is : (lo ≤ℤ hi → Out lo → ⊥) → (lo ≤ℤ hi → Out hi → ⊥) → IsNarrowed Out (Span s) (span_from lo hi)
  narrowed_is first last =
      by_lt_z hi lo
      (λ l. subst (IsNarrowed Out (Span s)) (sym (span_from-none lo hi (λ e. omega (arith, ints)))) (record {
        above = tt;
        tight = tt;
        passed = passed_by Contradiction (λ v a b. absurd (omega (arith, ints)));
      }))
      (λ le.
      let t : spans.Span = record {
        lo = lo;
        hi = hi;
        above = (let a = s.above in omega (arith, ints));
        ordered = le;
        below = (let b = s.below in omega (arith, ints));
      } in
      subst (IsNarrowed Out (Span s)) (span_is lo hi t refl refl) (record {
        above = (least, most);
        tight = (first le, last le);
        passed = passed_by (Span t) (λ v a b. (a, b));
      }))

-- no end is the number where it is beyond them
tight_beside : (Out : ℤ → Type 0) (n : ℤ) (t : spans.Span) (is : Info) → IsTight Out is → Below (Span t) is
    → ((n <ℤ t.lo) ⊎ (t.hi <ℤ n)) → IsTight (λ m. Out m ⊎ (m ≡ n)) is
tight_beside Out n t Nothing tight below beside = tt
tight_beside Out n t (Span u) tight below beside = (
  λ o. elim o [
    | inl out ↦ tight.0 out
    | inr e ↦ (
        let b = below in
        let c = u.ordered in
        elim beside [ inl l ↦ omega (arith, ints) | inr l ↦ omega (arith, ints) ])
  ],
  λ o. elim o [
    | inl out ↦ tight.1 out
    | inr e ↦ (
        let b = below in
        let c = u.ordered in
        elim beside [ inl l ↦ omega (arith, ints) | inr l ↦ omega (arith, ints) ])
  ],
)
tight_beside Out n t (Set u) tight below beside = tt
tight_beside Out n t (Sym u) tight below beside = tt
tight_beside Out n t Contradiction tight below beside = tt

holds_none : (p : Point) (is : Info) → is ≡ Contradiction → Holds is p → ⊥
holds_none (Number v) is e h = subst (λ (i : Info). Holds i (Number v)) e h
holds_none (Element v) is e h = subst (λ (i : Info). Holds i (Element v)) e h
holds_none (Symbol v) is e h = subst (λ (i : Info). Holds i (Symbol v)) e h

equal_or_beside : (v n : ℤ) → (v ≡ n) ⊎ (v ≢ n)
equal_or_beside v n =
    by_lt_z v n (λ l. inr (λ e. omega (arith, ints))) (λ le.
    by_lt_z n v (λ l. inr (λ e. omega (arith, ints))) (λ ge. inl (omega (arith, ints))))

-- what is left without one number of a span, where all others are in the smaller span
passed_beside : (Out : ℤ → Type 0) (s t : spans.Span) (n : ℤ) (is : Info) → IsNarrowed Out (Span t) is
    → ((v : ℤ) → s.lo ≤ℤ v → v ≤ℤ s.hi → v ≢ n → (t.lo ≤ℤ v) × (v ≤ℤ t.hi)) → (p : Point) → Holds (Span s) p
    → (Holds is p → ⊥) → IsGone (λ m. Out m ⊎ (m ≡ n)) p
passed_beside Out s t n is nar others (Number v) h gone = elim (equal_or_beside v n) [
  | inl e ↦ inr e
  | inr ne ↦ inl (nar.passed (Number v) (others v h.0 h.1 ne) gone)
]
passed_beside Out s t n is nar others (Element i) h gone = absurd h
passed_beside Out s t n is nar others (Symbol i) h gone = absurd h

-- what is left without the first number
pub without_first : (Out : ℤ → Type 0) (s : spans.Span) (n : ℤ) (is : Info) → s.lo <ℤ s.hi → IsTight Out (Span s)
    → n ≡ s.lo → IsNarrowed Out (span_from (n +ℤ pos 1) s.hi) is
    → (is ≢ Contradiction) × IsNarrowed (λ m. Out m ⊎ (m ≡ n)) (Span s) is
without_first Out s n is two tight e nar =
    let a = s.above in
    let b = s.below in
    let t : spans.Span = record {
      lo = n +ℤ pos 1;
      hi = s.hi;
      above = omega (arith, ints);
      ordered = omega (arith, ints);
      below = b;
    } in
    let inner : IsNarrowed Out (Span t) is =
    subst (λ (i : Info). IsNarrowed Out i is) (sym (span_is (n +ℤ pos 1) s.hi t refl refl)) nar in (
      λ c. tight.1 (inner.passed (Number s.hi) (t.ordered, (let le : s.hi ≤ℤ s.hi = omega (arith, ints) in le))
          (holds_none (Number s.hi) is c)),
      record {
        above = info_laws.transitive (Span s) (Span t) is (
          (let le : s.lo ≤ℤ (n +ℤ pos 1) = omega (arith, ints) in le),
          (let le : s.hi ≤ℤ s.hi = omega (arith, ints) in le),
        )
            inner.above;
        tight = tight_beside Out n t is inner.tight inner.above (inl (omega (arith, ints)));
        passed = passed_beside Out s t n is inner (λ v p q ne. (
          by_lt_z v (n +ℤ pos 1) (λ l. absurd (ne (omega (arith, ints)))) (λ ge. ge),
          q,
        ));
      },
    )

-- what is left without the last number
pub without_last : (Out : ℤ → Type 0) (s : spans.Span) (n : ℤ) (is : Info) → s.lo <ℤ s.hi → IsTight Out (Span s)
    → n ≡ s.hi → IsNarrowed Out (span_from s.lo (n -ℤ pos 1)) is
    → (is ≢ Contradiction) × IsNarrowed (λ m. Out m ⊎ (m ≡ n)) (Span s) is
without_last Out s n is two tight e nar =
    let a = s.above in
    let b = s.below in
    let t : spans.Span = record {
      lo = s.lo;
      hi = n -ℤ pos 1;
      above = a;
      ordered = omega (arith, ints);
      below = omega (arith, ints);
    } in
    let inner : IsNarrowed Out (Span t) is =
    subst (λ (i : Info). IsNarrowed Out i is) (sym (span_is s.lo (n -ℤ pos 1) t refl refl)) nar in (
      λ c. tight.0 (inner.passed (Number s.lo) ((let le : s.lo ≤ℤ s.lo = omega (arith, ints) in le), t.ordered)
          (holds_none (Number s.lo) is c)),
      record {
        above = info_laws.transitive (Span s) (Span t) is (
          (let le : s.lo ≤ℤ s.lo = omega (arith, ints) in le),
          (let le : (n -ℤ pos 1) ≤ℤ s.hi = omega (arith, ints) in le),
        )
            inner.above;
        tight = tight_beside Out n t is inner.tight inner.above (inr (omega (arith, ints)));
        passed = passed_beside Out s t n is inner (λ v p q ne. (
          p,
          by_lt_z (n -ℤ pos 1) v (λ l. absurd (ne (omega (arith, ints)))) (λ ge. ge),
        ));
      },
    )

-- what is left without a number between the ends
pub without_inner : (Out : ℤ → Type 0) (s : spans.Span) (n : ℤ) → IsTight Out (Span s) → n ≢ s.lo → n ≢ s.hi
    → (Span s ≢ Contradiction) × IsNarrowed (λ m. Out m ⊎ (m ≡ n)) (Span s) (Span s)
without_inner Out s n tight low high = (
  λ e. cc,
  narrowed_same (λ m. Out m ⊎ (m ≡ n)) (Span s) (
    λ o. elim o [ inl out ↦ tight.0 out | inr e ↦ low (sym e) ],
    λ o. elim o [ inl out ↦ tight.1 out | inr e ↦ high (sym e) ],
  ),
)

-- of a place with one number, it alone is left
pub one_left : (x : Place) (s : spans.Span) (n : ℤ) → x.info ≡ Span s → s.lo ≡ s.hi → s.lo ≤ℤ n → n ≤ℤ s.hi
    → (p : Point) → IsLeftIn x p → p ≡ Number n
one_left x s n is one least most p left = only p (holds p left.0)
  where
    holds : (q : Point) → Holds x.info q → Holds (Span s) q
    holds (Number v) h = subst (λ (i : Info). Holds i (Number v)) is h
    holds (Element v) h = subst (λ (i : Info). Holds i (Element v)) is h
    holds (Symbol v) h = subst (λ (i : Info). Holds i (Symbol v)) is h

    only : (q : Point) → Holds (Span s) q → q ≡ Number n
    only (Number v) h = let a = h.0 in let b = h.1 in let e : v ≡ n = omega (arith, ints) in ap Number e
    only (Element v) h = absurd h
    only (Symbol v) h = absurd h
