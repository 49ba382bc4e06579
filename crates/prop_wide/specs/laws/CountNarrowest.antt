-- Counts of truths are answered as narrowly as can be.
use Rattle.std.specs.Prelude.{◌≡◌, ◌≢◌, ℕ, zero, suc, ◌+◌, ◌≤◌, ◌<◌, ◌⊎◌, ℤ, pos, ◌≤ℤ◌, Bool, true}
use Rattle.std.specs.Prelude.{false, not, cond, List, [], ◌∷◌, length, filter}
use Rattle.std.specs.Int.{bit_at, w64, trailing_zeros}
use Rattle.std.proofs.Common.{arith, refl, ap, sym, inl, inr, negsuc, eq-eqb, ◌∙◌}
use Rattle.std.proofs.lemmas.Bool.{cases_lt}
use Rattle.std.proofs.lemmas.Int.{ints, by_lt_z}
use Rattle.std.proofs.lemmas.Nat.Bits.{bit_at-trailing_zeros}
use Rattle.prop_lattice.specs.Points.{Point, Number, Element, Symbol, Holds}
use Rattle.prop_lattice.specs.Rank.{IsOf}
use Rattle.prop_lattice.specs.declared.info.Info.{Info}
use Rattle.prop_lattice.specs.declared.info.Info.TheVariants.{Nothing, Span, Set, Sym}
use Rattle.prop_lattice.specs.declared.info.Info.TheVariants.{Contradiction}
use Rattle.prop_lattice.specs.declared.info.Kind.TheVariants as kinds
use Rattle.prop_procedures.specs.declared.shape.Kinded.{Kinded}
use Rattle.prop_procedures.specs.declared.shape.Shape.{Shape}
use Rattle.prop_procedures.specs.declared.shape.Shape.TheVariants.{Span as SpanShape}
use Rattle.prop_procedures.specs.Rules.{EachHolds, AreClear}
use Rattle.prop_procedures.specs.inner.Places.{AreOf, ArePointsOf}
use Rattle.prop_sets.specs.Truth.{leaves}
use Rattle.prop_wide.specs.Counts.{yes_among, sure_of, possible_of, count_of, may_lie}
use Rattle.prop_wide.specs.Counts.{count_back_of}
use Rattle.prop_wide.specs.Ends.{low_of, high_of}
use Rattle.prop_wide.specs.Narrowest.{IsNumber}
use Rattle.prop_wide.specs.Points.{RelatesCount, RelatesLast}
use Rattle.prop_wide.specs.Wide.{AreTruths}
use Rattle.prop_wide.specs.laws.CountLaws.{first_is_truth, others_are_truths}
use Rattle.prop_wide.specs.laws.EndLaws.{ends_ordered, both_to}
use Rattle.prop_wide.specs.laws.NarrowestLaws.{between_left, clip_from}
use Rattle.prop_wide.specs.laws.NarrowestPoints.{IsWithin, of_numbers, of_truths, told_within}
use Rattle.prop_wide.specs.laws.TruthLaws.{left_is_held, never}

-- ---- each number from what is sure to what is possible is that of some truths

-- a truth that is no contradiction may be `yes` or may be `no`
one_left : (t : Info) → IsOf (kinds.Set 0) 2 t → t ≢ Contradiction
    → (leaves t 0 ≡ true) ⊎ (leaves t 1 ≡ true)
one_left Nothing k c = inl refl
one_left (Set s) k c =
    let bit = (bit_at-trailing_zeros w64 s.bits s.some s.fits).1 in
    by (trailing_zeros w64 s.bits) (k (trailing_zeros w64 s.bits) bit) bit
  where
    by : (j : ℕ) → j < 2 → bit_at s.bits j ≡ 1
        → (leaves (Set s) 0 ≡ true) ⊎ (leaves (Set s) 1 ≡ true)
    by zero l h = inl (eq-eqb (bit_at s.bits 0) 1 h)
    by (suc zero) l h = inr (eq-eqb (bit_at s.bits 1) 1 h)
    by (suc (suc j)) l h = absurd (omega (arith, l))
one_left Contradiction k c = absurd (c refl)
one_left (Span a) k c = absurd k
one_left (Sym a) k c = absurd k

pub sure_possible : (any : Shape → Kinded) (ins : List Shape) (truths : List Info)
    → AreTruths ins → AreOf any ins truths → AreClear truths
    → sure_of truths ≤ possible_of truths
sure_possible any [] [] f k c = omega arith
sure_possible any (s ∷ ins) (t ∷ truths) f k c =
    by (leaves t 0) refl (leaves t 1) refl
    (one_left t (rw (first_is_truth s ins f) at k.0) c.0)
    (sure_possible any ins truths (others_are_truths s ins f) k.1 c.1)
  where
    S : List Info
    S = filter (λ t. not (leaves t 1)) truths

    P : List Info
    P = filter (λ t. leaves t 0) truths

    by : (y : Bool) → leaves t 0 ≡ y → (n : Bool) → leaves t 1 ≡ n
        → (leaves t 0 ≡ true) ⊎ (leaves t 1 ≡ true) → length S ≤ length P
        → length (cond (not n) (t ∷ S) S) ≤ length (cond y (t ∷ P) P)
    by true e true g o p = omega (arith, p)
    by true e false g o p = omega (arith, p)
    by false e true g o p = p
    by false e false g (inl h) p = absurd (never (sym e ∙ h))
    by false e false g (inr h) p = absurd (never (sym g ∙ h))
sure_possible any [] (t ∷ truths) f k c = absurd k
sure_possible any (s ∷ ins) [] f k c = absurd k

-- points that the truths leave, of which n are `yes`
pub record Counted (any : Shape → Kinded) (ins : List Shape) (truths : List Info) (n : ℕ) : Type 0
  where
    pub points : List Point
    pub of_kinds : ArePointsOf any ins points
    pub held : EachHolds truths points
    pub are : yes_among points ≡ n

with_yes : (any : Shape → Kinded) (ins : List Shape) (s : Shape) (t : Info) (truths : List Info)
    (n : ℕ) → AreTruths (s ∷ ins) → leaves t 0 ≡ true → Counted any ins truths n
    → Counted any (s ∷ ins) (t ∷ truths) (suc n)
with_yes any ins s t truths n f e c = record {
  points = Element 0 ∷ c.points;
  of_kinds = (rw (first_is_truth s ins f) (omega arith), c.of_kinds);
  held = (left_is_held t 0 e, c.held);
  are = omega (arith, c.are);
}

with_no : (any : Shape → Kinded) (ins : List Shape) (s : Shape) (t : Info) (truths : List Info)
    (n : ℕ) → AreTruths (s ∷ ins) → leaves t 1 ≡ true → Counted any ins truths n
    → Counted any (s ∷ ins) (t ∷ truths) n
with_no any ins s t truths n f e c = record {
  points = Element 1 ∷ c.points;
  of_kinds = (rw (first_is_truth s ins f) (omega arith), c.of_kinds);
  held = (left_is_held t 1 e, c.held);
  are = omega (arith, c.are);
}

pub counted_by : (any : Shape → Kinded) (ins : List Shape) (truths : List Info) (n : ℕ)
    → AreTruths ins → AreOf any ins truths → AreClear truths → sure_of truths ≤ n
    → n ≤ possible_of truths → Counted any ins truths n
counted_by any [] [] n f k c p q =
    record { points = []; of_kinds = tt; held = tt; are = omega (arith, q) }
counted_by any (s ∷ ins) (t ∷ truths) n f k c p q =
    by (leaves t 0) refl (leaves t 1) refl n
    (one_left t (rw (first_is_truth s ins f) at k.0) c.0)
    (sure_possible any ins truths g k.1 c.1)
    (λ m i j. counted_by any ins truths m g k.1 c.1 i j) p q
  where
    g : AreTruths ins
    g = others_are_truths s ins f

    S : List Info
    S = filter (λ t. not (leaves t 1)) truths

    P : List Info
    P = filter (λ t. leaves t 0) truths

    by : (y : Bool) → leaves t 0 ≡ y → (o : Bool) → leaves t 1 ≡ o → (n : ℕ)
        → (leaves t 0 ≡ true) ⊎ (leaves t 1 ≡ true) → length S ≤ length P
        → ((m : ℕ) → length S ≤ m → m ≤ length P → Counted any ins truths m)
        → length (cond (not o) (t ∷ S) S) ≤ n → n ≤ length (cond y (t ∷ P) P)
        → Counted any (s ∷ ins) (t ∷ truths) n
    by true e true e' zero o l rest p q =
        with_no any ins s t truths 0 f e' (rest 0 p (omega arith))
    by true e true e' (suc m) o l rest p q = elim (cases_lt (length P) (suc m)) [
      | inl b ↦ with_yes any ins s t truths m f e
          (rest m (omega (arith, l, b)) (omega (arith, q)))
      | inr b ↦ with_no any ins s t truths (suc m) f e' (rest (suc m) p b)
    ]
    by true e false e' zero o l rest p q = absurd (omega (arith, p))
    by true e false e' (suc m) o l rest p q =
        with_yes any ins s t truths m f e (rest m (omega (arith, p)) (omega (arith, q)))
    by false e true e' n o l rest p q = with_no any ins s t truths n f e' (rest n p q)
    by false e false e' n (inl h) l rest p q = absurd (never (sym e ∙ h))
    by false e false e' n (inr h) l rest p q = absurd (never (sym e' ∙ h))
counted_by any [] (t ∷ truths) n f k c p q = absurd k
counted_by any (s ∷ ins) [] n f k c p q = absurd k

-- ---- the count

pub count_within : (any : Shape → Kinded) (ins : List Shape) (truths : List Info) → AreTruths ins
    → AreOf any ins truths → AreClear truths
    → IsWithin any ins of_numbers RelatesCount truths (count_of truths)
count_within any ins truths f k c other o h (Number (pos n)) i e =
    let b = clip_from (pos (sure_of truths)) (pos (possible_of truths)) (pos n) e in
    let d = counted_by any ins truths n f k c (as_count _ _ b.0) (as_count _ _ b.1) in
    h (Number (pos n)) i (record {
      points = d.points;
      of_kinds = d.of_kinds;
      held = d.held;
      belongs = ap pos (sym d.are);
    })
  where
    as_count : (m n : ℕ) → pos m ≤ℤ pos n → m ≤ n
    as_count m n p = omega (arith, ints, p)
count_within any ins truths f k c other o h (Number (negsuc n)) i e =
    let b = clip_from (pos (sure_of truths)) (pos (possible_of truths)) (negsuc n) e in
    absurd (none (sure_of truths) b.0)
  where
    none : (m : ℕ) → pos m ≤ℤ negsuc n → ⊥
    none m p = omega (arith, ints, p)
count_within any ins truths f k c other o h (Element v) i e = absurd i
count_within any ins truths f k c other o h (Symbol v) i e = absurd i

-- ---- and back

-- a number that lies both from l to h and from a to b
between_both : (l h : ℤ) (a b : ℕ) → a ≤ b → l ≤ℤ h → l ≤ℤ pos b → pos a ≤ℤ h
    → (m : ℕ) × (a ≤ m) × (m ≤ b) × (l ≤ℤ pos m) × (pos m ≤ℤ h)
between_both l h a b p q r s = by_lt_z l (pos a)
    (λ k. (a, omega arith, p, omega (arith, ints), s)) (λ k. from l k q r)
  where
    from : (l : ℤ) → pos a ≤ℤ l → l ≤ℤ h → l ≤ℤ pos b
        → (m : ℕ) × (a ≤ m) × (m ≤ b) × (l ≤ℤ pos m) × (pos m ≤ℤ h)
    from (pos m) k q r =
        (m, omega (arith, ints, k), omega (arith, ints, r), omega (arith, ints), q)
    from (negsuc m) k q r = absurd (omega (arith, ints, k))

pub count_back_within : (any : Shape → Kinded) (ins : List Shape) (n : Info) (others : List Info)
    → AreTruths ins → AreOf any (SpanShape ∷ ins) (n ∷ others) → AreClear (n ∷ others) →
    IsWithin any (SpanShape ∷ ins) of_truths RelatesLast (n ∷ others)
    (count_back_of n others)
count_back_within any ins n others f k c other o h =
    told_within (may_lie n (pos (sure_of others + 1)) (pos (possible_of others + 1)))
    (may_lie n (pos (sure_of others)) (pos (possible_of others))) other first second
  where
    number : IsNumber n
    number = record { of_kind = k.0; clear = c.0 }

    order : sure_of others ≤ possible_of others
    order = sure_possible any ins others f k.1 c.1

    first : may_lie n (pos (sure_of others + 1)) (pos (possible_of others + 1)) ≡ true
        → Holds other (Element 0)
    first e =
        let to = both_to (low_of n) (pos (possible_of others + 1)) (pos (sure_of others + 1))
        (high_of n) e in
        let m = between_both (low_of n) (high_of n) (sure_of others + 1) (possible_of others + 1)
        (omega (arith, order)) (ends_ordered n).ordered to.0 to.1 in
        by m.0 m.1 m.2 m.3 m.4
      where
        by : (m : ℕ) → sure_of others + 1 ≤ m → m ≤ possible_of others + 1 → low_of n ≤ℤ pos m
            → pos m ≤ℤ high_of n → Holds other (Element 0)
        by zero p q r s = absurd (omega (arith, p))
        by (suc m) p q r s =
            let d = counted_by any ins others m f k.1 c.1 (omega (arith, p)) (omega (arith, q)) in
            let l = between_left n (pos (suc m)) number r s in
            h (Element 0) (omega arith) (record {
              points = Number (pos (suc m)) ∷ d.points;
              of_kinds = (l.in_range, d.of_kinds);
              held = (l.held, d.held);
              belongs = omega (arith, ints, d.are);
            })

    second : may_lie n (pos (sure_of others)) (pos (possible_of others)) ≡ true
        → Holds other (Element 1)
    second e =
        let to = both_to (low_of n) (pos (possible_of others)) (pos (sure_of others)) (high_of n) e
        in
        let m = between_both (low_of n) (high_of n) (sure_of others) (possible_of others) order
        (ends_ordered n).ordered to.0 to.1 in
        let d = counted_by any ins others m.0 f k.1 c.1 m.1 m.2 in
        let l = between_left n (pos m.0) number m.3 m.4 in
        h (Element 1) (omega arith) (record {
          points = Number (pos m.0) ∷ d.points;
          of_kinds = (l.in_range, d.of_kinds);
          held = (l.held, d.held);
          belongs = omega (arith, ints, d.are);
        })
