-- Choices by a truth are answered as narrowly as can be.
use Rattle.std.specs.Prelude.{◌≡◌, ◌≢◌, ℕ, ◌⊎◌, ℤ, neg_ℤ, ◌≤ℤ◌, Bool, true}
use Rattle.std.specs.Prelude.{false, not, ◌&&◌, ◌==◌, List, [], ◌∷◌, if◌then◌else◌, bit_and, bit_or}
use Rattle.std.specs.Int.{bit_at, int_max, int_min, w64, trailing_zeros}
use Rattle.std.proofs.Common.{arith, refl, rules, sym, subst, ◌∙◌, inl, inr, eqb-true, eq-eqb}
use Rattle.std.proofs.lemmas.Int.{ints, clamps}
use Rattle.std.proofs.lemmas.Nat.Bits.{bit_at_and, bit_at-trailing_zeros}
use Rattle.prop_arith.specs.Comparing.{is_single}
use Rattle.prop_arith.specs.inner.Compared.{is_just}
use Rattle.prop_arith.specs.laws.Combined.{at_three, told_alike}
use Rattle.prop_intervals.specs.Comparisons.{no_bits}
use Rattle.prop_intervals.specs.laws.Relations.{IsInRange}
use Rattle.prop_lattice.proofs.EndLemmas.{elements_from-bits}
use Rattle.prop_lattice.specs.Ends.{AreEnds, ends_or_not, some_or_not}
use Rattle.prop_lattice.specs.inner.Ends.{AreSome, span_if}
use Rattle.prop_lattice.specs.Ends.{span_from, elements_from}
use Rattle.prop_lattice.specs.inner.Ends.{elements_if}
use Rattle.prop_lattice.specs.Order.{merge_of, is_contradiction, HasElement}
use Rattle.prop_lattice.specs.Points.{Point, Number, Element, Symbol, Holds, IsPointOf}
use Rattle.prop_lattice.specs.Rank.{IsOf}
use Rattle.prop_lattice.specs.laws.PartLaws.{bit_at_le}
use Rattle.prop_lattice.specs.declared.elements.Elements as sets
use Rattle.prop_lattice.specs.declared.span.Span as spans
use Rattle.prop_lattice.specs.declared.span.TheConstants.{B}
use Rattle.prop_lattice.specs.declared.info.Info.{Info}
use Rattle.prop_lattice.specs.declared.info.Info.TheVariants.{Nothing, Span, Set, Sym}
use Rattle.prop_lattice.specs.declared.info.Info.TheVariants.{Contradiction}
use Rattle.prop_lattice.specs.declared.info.Kind.{Kind}
use Rattle.prop_lattice.specs.declared.info.Kind.TheVariants as kinds
use Rattle.prop_procedures.specs.declared.shape.Kinded.{Kinded}
use Rattle.prop_procedures.specs.declared.shape.Shape.{Shape}
use Rattle.prop_procedures.specs.declared.shape.Shape.TheVariants.{Truth, Any}
use Rattle.prop_procedures.specs.Rules.{AreClear}
use Rattle.prop_procedures.specs.inner.Places.{AreOf}
use Rattle.prop_sets.specs.Truth.{leaves}
use Rattle.prop_sets.specs.laws.NarrowestLaws.{bit_from_held}
use Rattle.prop_wide.specs.Answers.{HavePoints}
use Rattle.prop_wide.specs.Choices.{choose_of, decide_of, agree}
use Rattle.prop_wide.specs.Hulls.{hull_of}
use Rattle.prop_wide.specs.Points.{RelatesChoice, RelatesDecision}
use Rattle.prop_wide.specs.laws.HullLaws.{or_bit}
use Rattle.prop_wide.specs.laws.NarrowestLaws.{span_from_from}
use Rattle.prop_wide.specs.laws.NarrowestPoints.{IsWithin, of_truths, told_within}
use Rattle.prop_wide.specs.laws.TruthLaws.{left_is_held, never}

-- ---- hulls of any kind

symbols_apart : (a b c : ℕ) → (a == b) ≡ false → c ≡ a → c ≡ b → ⊥
symbols_apart a b c e p q = never (sym e ∙ eq-eqb a b (sym p ∙ q))

pub hull_within : (kind : Kind) (size : ℕ) (a b other : Info) → IsOf kind size a
    → IsOf kind size b → IsOf kind size other
    → ((p : Point) → IsPointOf kind size p → Holds a p → Holds other p)
    → ((p : Point) → IsPointOf kind size p → Holds b p → Holds other p) → (p : Point)
    → IsPointOf kind size p → Holds (hull_of a b) p → Holds other p
hull_within kind size Contradiction b other k l m f g p i e = g p i e
hull_within kind size Nothing b other k l m f g p i e = f p i tt
hull_within kind size (Span a) Contradiction other k l m f g p i e = f p i e
hull_within kind size (Set a) Contradiction other k l m f g p i e = f p i e
hull_within kind size (Sym a) Contradiction other k l m f g p i e = f p i e
hull_within kind size (Span a) Nothing other k l m f g p i e = g p i tt
hull_within kind size (Set a) Nothing other k l m f g p i e = g p i tt
hull_within kind size (Sym a) Nothing other k l m f g p i e = g p i tt
hull_within kinds.Span size (Span a) (Span b) other k l m f g (Number v) i e =
    by other m (f (Number a.lo) (ends a).0 (at_ends a).0) (f (Number a.hi) (ends a).1 (at_ends a).1)
    (g (Number b.lo) (ends b).0 (at_ends b).0) (g (Number b.hi) (ends b).1 (at_ends b).1)
    (span_from_from _ _ v e)
  where
    ends : (s : spans.Span) → IsInRange s.lo × IsInRange s.hi
    ends s = by s.lo s.hi s.above s.ordered s.below
      where
        by : (l h : ℤ) → neg_ℤ B ≤ℤ l → l ≤ℤ h → h ≤ℤ B → IsInRange l × IsInRange h
        by l h p q r = ((p, omega (arith, ints)), (omega (arith, ints), r))

    at_ends : (s : spans.Span) → Holds (Span s) (Number s.lo) × Holds (Span s) (Number s.hi)
    at_ends s = ((omega (arith, ints), s.ordered), (s.ordered, omega (arith, ints)))

    by : (other : Info) → IsOf kinds.Span size other → Holds other (Number a.lo)
        → Holds other (Number a.hi) → Holds other (Number b.lo) → Holds other (Number b.hi)
        → (int_min a.lo b.lo ≤ℤ v) × (v ≤ℤ int_max a.hi b.hi) → Holds other (Number v)
    by Nothing m f f' g g' h = tt
    by (Span s) m f f' g g' h = (
      omega (arith, ints, clamps, f.0, g.0, h.0),
      omega (arith, ints, clamps, f'.1, g'.1, h.1),
    )
    by Contradiction m f f' g g' h = absurd f
    by (Set s) m f f' g g' h = absurd m
    by (Sym s) m f f' g g' h = absurd m
hull_within kinds.Span size (Span a) (Span b) other k l m f g (Element v) i e = absurd i
hull_within kinds.Span size (Span a) (Span b) other k l m f g (Symbol v) i e = absurd i
hull_within (kinds.Set domain) size (Set a) (Set b) other k l m f g (Element j) i e =
    by (or_bit a.bits b.bits j (bit_from_held (bit_or a.bits b.bits) j e))
  where
    by : (bit_at a.bits j ≡ 1) ⊎ (bit_at b.bits j ≡ 1) → Holds other (Element j)
    by (inl h) = f (Element j) i h
    by (inr h) = g (Element j) i h
hull_within (kinds.Set domain) size (Set a) (Set b) other k l m f g (Number v) i e = absurd i
hull_within (kinds.Set domain) size (Set a) (Set b) other k l m f g (Symbol v) i e = absurd i
hull_within kinds.Symbol size (Sym a) (Sym b) other k l m f g (Symbol c) i e =
    by (a == b) refl e
  where
    both : (other : Info) → IsOf kinds.Symbol size other → (a == b) ≡ false
        → Holds other (Symbol a) → Holds other (Symbol b) → Holds other (Symbol c)
    both Nothing m s h h' = tt
    both (Sym d) m s h h' = absurd (symbols_apart a b d s h h')
    both Contradiction m s h h' = absurd h
    both (Span d) m s h h' = absurd m
    both (Set d) m s h h' = absurd m

    by : (s : Bool) → (a == b) ≡ s → Holds (if s then Sym a else Nothing) (Symbol c)
        → Holds other (Symbol c)
    by true s h = f (Symbol c) i h
    by false s h = both other m s (f (Symbol a) tt refl) (g (Symbol b) tt refl)
hull_within kinds.Symbol size (Sym a) (Sym b) other k l m f g (Number v) i e = absurd i
hull_within kinds.Symbol size (Sym a) (Sym b) other k l m f g (Element v) i e = absurd i
hull_within kind size a b other k l m f g p i e = search rules

-- ---- points that are left

one_set : (s : sets.Elements) → (j : ℕ) × HasElement s j
one_set s =
    (trailing_zeros w64 s.bits, (bit_at-trailing_zeros w64 s.bits s.some s.fits).1)

-- what is no contradiction leaves a point, where there are any
some_left : (kind : Kind) (size : ℕ) (x : Info) → IsOf kind size x → x ≢ Contradiction
    → (some : Point) → IsPointOf kind size some → (p : Point) × IsPointOf kind size p × Holds x p
some_left kind size Nothing k c some i = (some, i, tt)
some_left kinds.Span size (Span a) k c some i = (
  Number a.lo,
  (a.above, omega (arith, ints, a.ordered, a.below)),
  (omega (arith, ints), a.ordered),
)
some_left (kinds.Set domain) size (Set s) k c some i =
    let one = one_set s in (Element one.0, k one.0 one.1, one.1)
some_left kinds.Symbol size (Sym a) k c some i = (Symbol a, tt, refl)
some_left kind size Contradiction k c some i = absurd (c refl)
some_left kind size x k c some i = search rules

and_bit : (a b i : ℕ) → bit_at (bit_and a b) i ≡ 1 → (bit_at a i ≡ 1) × (bit_at b i ≡ 1)
and_bit a b i h =
    let both = bit_at_and a b i in (
      omega (arith, both, h, bit_at_le a i, bit_at_le b i),
      omega (arith, both, h, bit_at_le a i, bit_at_le b i),
    )

-- ends of what is no contradiction, and a bit of it
ends_of : (l h : ℤ) → is_contradiction (span_from l h) ≡ false → AreEnds l h
unfolding span_from
ends_of l h e = by (ends_or_not l h) e
  where
    by : (n : AreEnds l h ⊎ ¬ (AreEnds l h)) → is_contradiction (span_if l h n) ≡ false
        → AreEnds l h
    by (inl n) e = n
    by (inr n) e = absurd (never (sym e))

bit_of : (bits : ℕ) → is_contradiction (elements_from bits) ≡ false
    → (j : ℕ) × (bit_at bits j ≡ 1)
unfolding elements_from
bit_of bits e = by (some_or_not bits) e
  where
    by : (n : AreSome bits ⊎ ¬ (AreSome bits)) → is_contradiction (elements_if bits n) ≡ false
        → (j : ℕ) × (bit_at bits j ≡ 1)
    by (inl n) e = (trailing_zeros w64 bits, (bit_at-trailing_zeros w64 bits n.0 n.1).1)
    by (inr n) e = absurd (never (sym e))

-- what doesn't contradict each other leaves a point together
abbrev Shared : Kind → ℕ → Info → Info → Type 0
Shared kind size x y = (p : Point) × IsPointOf kind size p × Holds x p × Holds y p

shared : (kind : Kind) (size : ℕ) (x y : Info) → IsOf kind size x → IsOf kind size y
    → x ≢ Contradiction → y ≢ Contradiction → (some : Point) → IsPointOf kind size some
    → is_contradiction (merge_of x y) ≡ false → Shared kind size x y
shared kind size Nothing y k l c d some i e =
    let one = some_left kind size y l d some i in (one.0, one.1, tt, one.2)
shared kind size (Span a) Nothing k l c d some i e =
    let one = some_left kind size (Span a) k c some i in (one.0, one.1, one.2, tt)
shared kind size (Set a) Nothing k l c d some i e =
    let one = some_left kind size (Set a) k c some i in (one.0, one.1, one.2, tt)
shared kind size (Sym a) Nothing k l c d some i e =
    let one = some_left kind size (Sym a) k c some i in (one.0, one.1, one.2, tt)
shared kinds.Span size (Span a) (Span b) k l c d some i e =
    by (int_max a.lo b.lo) (int_min a.hi b.hi) (ends_of (int_max a.lo b.lo) (int_min a.hi b.hi) e)
    refl refl
  where
    by : (l h : ℤ) → AreEnds l h → l ≡ int_max a.lo b.lo → h ≡ int_min a.hi b.hi
        → Shared kinds.Span size (Span a) (Span b)
    by l h n p q = (
      Number l,
      (n.0, omega (arith, ints, n.1, n.2)),
      (omega (arith, ints, clamps), omega (arith, ints, clamps, n.1)),
      (omega (arith, ints, clamps), omega (arith, ints, clamps, n.1)),
    )
shared (kinds.Set domain) size (Set a) (Set b) k l c d some i e =
    by (bit_of (bit_and a.bits b.bits) e)
  where
    by : (j : ℕ) × (bit_at (bit_and a.bits b.bits) j ≡ 1)
        → Shared (kinds.Set domain) size (Set a) (Set b)
    by one =
        let both = and_bit a.bits b.bits one.0 one.1 in
        (Element one.0, k one.0 both.0, both.0, both.1)
shared kinds.Symbol size (Sym a) (Sym b) k l c d some i e = by (a == b) refl e
  where
    by : (s : Bool) → (a == b) ≡ s
        → is_contradiction (if s then Sym a else Contradiction) ≡ false
        → Shared kinds.Symbol size (Sym a) (Sym b)
    by true s f = (Symbol a, tt, refl, sym (eqb-true a b s))
    by false s f = absurd (never (sym f))
shared kind size Contradiction y k l c d some i e = absurd (c refl)
shared kind size x Contradiction k l c d some i e = absurd (d refl)
shared kind size x y k l c d some i e = search rules

-- ---- from the truth

side_from : (s : Bool) (a : Info) (p : Point) → Holds (if s then a else Contradiction) p
    → (s ≡ true) × Holds a p
side_from true a p h = (refl, h)
side_from false a p h = absurd h

pub choose_within : (any : Shape → Kinded) (args : List Info)
    → AreOf any (Truth ∷ Any 0 ∷ Any 0 ∷ []) args → AreClear args
    → HavePoints any (Truth ∷ Any 0 ∷ Any 0 ∷ []) →
    IsWithin any (Truth ∷ Any 0 ∷ Any 0 ∷ []) (any (Any 0)) RelatesChoice args
    (at_three choose_of args)
choose_within any (t ∷ a ∷ b ∷ []) k c ((z ∷ q ∷ r ∷ []), i) other o h =
    hull_within (any (Any 0)).kind (any (Any 0)).size (if leaves t 0 then a else Contradiction)
    (if leaves t 1 then b else Contradiction) other (side_kind (leaves t 0) a k.1.0)
    (side_kind (leaves t 1) b k.1.1.0) o first second
  where
    kind : Kind
    kind = (any (Any 0)).kind

    size : ℕ
    size = (any (Any 0)).size

    side_kind : (s : Bool) (a : Info) → IsOf kind size a
        → IsOf kind size (if s then a else Contradiction)
    side_kind true a l = l
    side_kind false a l = search rules

    first : (p : Point) → IsPointOf kind size p → Holds (if leaves t 0 then a else Contradiction) p
        → Holds other p
    first p j e =
        let side = side_from (leaves t 0) a p e in
        let one = some_left kind size b k.1.1.0 c.1.1.0 q i.1.0 in
        h p j (record {
          points = Element 0 ∷ p ∷ one.0 ∷ [];
          of_kinds = (omega arith, (j, (one.1, tt)));
          held = (left_is_held t 0 side.0, (side.1, (one.2, tt)));
          belongs = record { first = λ n. refl; second = λ n. absurd (omega (arith, n)) };
        })

    second : (p : Point) → IsPointOf kind size p → Holds (if leaves t 1 then b else Contradiction) p
        → Holds other p
    second p j e =
        let side = side_from (leaves t 1) b p e in
        let one = some_left kind size a k.1.0 c.1.0 q i.1.0 in
        h p j (record {
          points = Element 1 ∷ one.0 ∷ p ∷ [];
          of_kinds = (omega arith, (one.1, (j, tt)));
          held = (left_is_held t 1 side.0, (one.2, (side.1, tt)));
          belongs = record { first = λ n. absurd (omega (arith, n)); second = λ n. refl };
        })
choose_within any args k c s other o h = search rules

-- ---- back to the truth

-- what isn't known to differ doesn't contradict each other
may_meet : (x y : Info) → agree x y ≡ true → is_contradiction (merge_of x y) ≡ false
may_meet x y h = by (is_contradiction (merge_of x y)) h
  where
    just : is_just no_bits (elements_from no_bits) ≡ true
    just = subst (λ a. is_just no_bits a ≡ true) (sym (elements_from-bits no_bits
        (record { bits = no_bits; some = omega arith; fits = omega arith }) refl)) refl

    by : (s : Bool) → not (is_just no_bits (told_alike s (is_single x && is_single y))) ≡ true
        → s ≡ false
    by false h = refl
    by true h = absurd (clash (is_just no_bits (elements_from no_bits)) just h)
      where
        clash : (s : Bool) → s ≡ true → not s ≡ true → ⊥
        clash true e f = never f
        clash false e f = never e

pub decide_within : (any : Shape → Kinded) (args : List Info)
    → AreOf any (Any 0 ∷ Any 0 ∷ Any 0 ∷ []) args → AreClear args
    → HavePoints any (Any 0 ∷ Any 0 ∷ Any 0 ∷ []) →
    IsWithin any (Any 0 ∷ Any 0 ∷ Any 0 ∷ []) of_truths RelatesDecision args
    (at_three decide_of args)
decide_within any (a ∷ b ∷ o ∷ []) k c ((z ∷ q ∷ r ∷ []), i) other m h =
    told_within (agree a o) (agree b o) other first second
  where
    kind : Kind
    kind = (any (Any 0)).kind

    size : ℕ
    size = (any (Any 0)).size

    first : agree a o ≡ true → Holds other (Element 0)
    first e =
        let both = shared kind size a o k.0 k.1.1.0 c.0 c.1.1.0 z i.0 (may_meet a o e) in
        let one = some_left kind size b k.1.0 c.1.0 z i.0 in
        h (Element 0) (omega arith) (record {
          points = both.0 ∷ one.0 ∷ both.0 ∷ [];
          of_kinds = (both.1, (one.1, (both.1, tt)));
          held = (both.2, (one.2, (both.3, tt)));
          belongs = record { first = λ n. refl; second = λ n. absurd (omega (arith, n)) };
        })

    second : agree b o ≡ true → Holds other (Element 1)
    second e =
        let both = shared kind size b o k.1.0 k.1.1.0 c.1.0 c.1.1.0 z i.0 (may_meet b o e) in
        let one = some_left kind size a k.0 c.0 z i.0 in
        h (Element 1) (omega arith) (record {
          points = one.0 ∷ both.0 ∷ both.0 ∷ [];
          of_kinds = (one.1, (both.1, (both.1, tt)));
          held = (one.2, (both.2, (both.3, tt)));
          belongs = record { first = λ n. absurd (omega (arith, n)); second = λ n. refl };
        })
decide_within any args k c s other o h = search rules
