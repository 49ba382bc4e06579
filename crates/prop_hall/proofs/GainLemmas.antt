-- A hull that gains at most a point gains no more with others, and then a selection with one more says no less.
use Rattle.std.proofs.Common.{◌≡◌, ℕ, ◌+◌, ◌^◌, ◌<◌, ◌≤◌, ℤ, pos, ◌≤ℤ◌, ◌-ℤ◌, ◌+ℤ◌, Bool, true, false, ◌==◌}
use Rattle.std.proofs.Common.{arith, ap, sym, subst, refl, rules, ◌∙◌, inl, inr, bit_and, bit_or}
use Rattle.std.specs.Prelude.{count_ones}
use Rattle.std.specs.Int.{int_max, int_min}
use Rattle.std.proofs.lemmas.Int.{ints, clamps}
use Rattle.std.proofs.lemmas.Nat.{or_lt, le_or_l, and_le_l}
use Rattle.prop_intervals.specs.laws.ClipLaws.{span_from_below}
use Rattle.prop_lattice.proofs.EndLemmas.{span_is, elements_are}
use Rattle.prop_lattice.proofs.PartLemmas.{ones_part}
use Rattle.prop_lattice.specs.Order.{Below}
use Rattle.prop_lattice.specs.declared.elements.Elements as sets
use Rattle.prop_lattice.specs.declared.info.Info.{Info}
use Rattle.prop_lattice.specs.declared.info.Info.TheVariants.{Nothing, Span, Set, Sym, Contradiction}
use Rattle.prop_lattice.specs.declared.span.Span as spans
use Rattle.prop_lattice.specs.laws.OrderLaws.{info_laws, to_top}
use Rattle.prop_lattice.specs.laws.Parts.{HasBitsOf}
use Rattle.prop_sets.specs.laws.NarrowestLaws.{elements_below}
use Rattle.prop_hall.specs.Excluding.{told}
use Rattle.prop_hall.specs.Hulls.{hull_of_two, points_in, without_of, first_without, last_without}
use Rattle.prop_hall.specs.inner.Extensions.{GainsLittle}
use Rattle.prop_hall.specs.laws.ExcludingLaws.{Room, Over, Tight, Loose, room, told_over, told_tight, told_loose}
use Rattle.prop_hall.specs.laws.ExcludingLaws.{first_is, first_later, last_is, last_earlier}
use Rattle.prop_hall.specs.laws.ExcludingLaws.{others, others_part, others_has, others_lacks}
use Rattle.prop_hall.specs.laws.ExcludingLaws.{others_fit, without_more}
use Rattle.prop_hall.specs.laws.HullLaws.{hull_first, fewer_points, numbers_are}
use Rattle.prop_hall.proofs.CountLemmas.{in_left, in_right, in_one, in_both, ones_shared}

-- ---- points

-- nothing leaves the most
pub points_most : (a : Info) → points_in a ≤ points_in Nothing
points_most a = (fewer_points Nothing a tt).0

hull_of_last : (a : Info) → hull_of_two a Contradiction ≡ a
hull_of_last Nothing = refl
hull_of_last (Span a) = refl
hull_of_last (Set a) = refl
hull_of_last (Sym a) = refl
hull_of_last Contradiction = refl

-- ---- hulls that gain at most a point

-- with t it has at most one more point with x
abbrev Gains : Info → Info → Info → Type 0
Gains h x t = points_in (hull_of_two (hull_of_two h x) t) ≤ points_in (hull_of_two h t) + 1

same_gains : (h x t : Info) → hull_of_two h x ≡ h → Gains h x t
same_gains h x t same = omega (arith, ap (λ a. points_in (hull_of_two a t)) same)

loose_gains : (h x t : Info) → hull_of_two h t ≡ Nothing → Gains h x t
loose_gains h x t loose = omega (arith, ap points_in loose, points_most (hull_of_two (hull_of_two h x) t))

looser_gains : (h x t : Info) → hull_of_two h x ≡ Nothing → GainsLittle h (hull_of_two h x) → Gains h x t
looser_gains h x t loose g = omega (
  arith,
  g.1,
  ap points_in loose,
  points_most (hull_of_two (hull_of_two h x) t),
  (fewer_points (hull_of_two h t) h (hull_first h t)).0,
)

last_gains : (h x : Info) → GainsLittle h (hull_of_two h x) → Gains h x Contradiction
last_gains h x g = omega (
  arith,
  g.1,
  ap points_in (hull_of_last h),
  ap points_in (hull_of_last (hull_of_two h x)),
)

-- ---- of spans

abbrev pub joined : spans.Span → spans.Span → spans.Span
joined a b = record {
  lo = int_min a.lo b.lo;
  hi = int_max a.hi b.hi;
  above = omega (arith, ints, clamps, a.above, b.above);
  ordered = omega (arith, ints, clamps, a.ordered);
  below = omega (arith, ints, clamps, a.below, b.below);
}

pub joined_is : (a b : spans.Span) → hull_of_two (Span a) (Span b) ≡ Span (joined a b)
joined_is a b = sym (span_is (int_min a.lo b.lo) (int_max a.hi b.hi) (joined a b) refl refl)

ends_gain : (al ah bl bh cl ch : ℤ)
    → (int_max ah bh -ℤ int_min al bl) ≤ℤ ((ah -ℤ al) +ℤ pos 1)
    → (int_max (int_max ah bh) ch -ℤ int_min (int_min al bl) cl)
    ≤ℤ ((int_max ah ch -ℤ int_min al cl) +ℤ pos 1)
ends_gain al ah bl bh cl ch g = omega (arith, ints, clamps)

span_gains : (a b c : spans.Span) → GainsLittle (Span a) (hull_of_two (Span a) (Span b))
    → Gains (Span a) (Span b) (Span c)
span_gains a b c g =
    let ab = joined a b in
    let ac = joined a c in
    let abc = joined ab c in
    let one = ap points_in (joined_is a b) in
    let two = ap points_in (joined_is a c) in
    let all = ap (λ i. points_in (hull_of_two i (Span c))) (joined_is a b) ∙ ap points_in (joined_is ab c) in
    let few = ends_gain a.lo a.hi b.lo b.hi c.lo c.hi
    (omega (arith, ints, g.1, one, numbers_are a, numbers_are ab)) in
    omega (arith, ints, few, two, all, numbers_are ac, numbers_are abc)

-- ---- of sets

abbrev union : sets.Elements → sets.Elements → sets.Elements
union a b = record {
  bits = bit_or a.bits b.bits;
  some = omega (arith, a.some, le_or_l a.bits b.bits);
  fits = or_lt 64 a.bits b.bits a.fits b.fits;
}

union_is : (a b : sets.Elements) → hull_of_two (Set a) (Set b) ≡ Set (union a b)
union_is a b = sym (elements_are (bit_or a.bits b.bits) (union a b) refl)

ones_gain : (a b c : ℕ) → a < 2 ^ 64 → b < 2 ^ 64 → c < 2 ^ 64
    → count_ones (bit_or (bit_or a b) c) + count_ones a ≤ count_ones (bit_or a b) + count_ones (bit_or a c)
ones_gain a b c fa fb fc =
    let ab = bit_or a b in
    let ac = bit_or a c in
    let fab = or_lt 64 a b fa fb in
    let fac = or_lt 64 a c fa fc in
    omega (
      arith,
      ones_shared 64 ab ac fab fac,
      (ones_part 64 (bit_or ab ac) (bit_or ab c) (or_lt 64 ab ac fab fac) all).0,
      (ones_part 64 (bit_and ab ac) a (omega (arith, fab, and_le_l ab ac)) both).0,
    )
  where
    both : HasBitsOf (bit_and (bit_or a b) (bit_or a c)) a
    both i h = in_both (bit_or a b) (bit_or a c) i (in_left a b i h) (in_left a c i h)

    all : HasBitsOf (bit_or (bit_or a b) (bit_or a c)) (bit_or (bit_or a b) c)
    all i h = elim (in_one (bit_or a b) c i h) [
      | inl one ↦ in_left (bit_or a b) (bit_or a c) i one
      | inr two ↦ in_right (bit_or a b) (bit_or a c) i (in_right a c i two)
    ]

set_gains : (a b c : sets.Elements) → GainsLittle (Set a) (hull_of_two (Set a) (Set b))
    → Gains (Set a) (Set b) (Set c)
set_gains a b c g = omega (
  arith,
  g.1,
  ap points_in (union_is a b),
  ap points_in (union_is a c),
  ap (λ i. points_in (hull_of_two i (Set c))) (union_is a b) ∙ ap points_in (union_is (union a b) c),
  ones_gain a.bits b.bits c.bits a.fits b.fits c.fits,
)

-- ---- of all kinds

sym_gains : (a b : ℕ) (t : Info) → GainsLittle (Sym a) (hull_of_two (Sym a) (Sym b)) → Gains (Sym a) (Sym b) t
sym_gains a b t g = by (a == b) refl
  where
    by : (e : Bool) → (a == b) ≡ e → Gains (Sym a) (Sym b) t
    by true e = same_gains (Sym a) (Sym b) t (rw e refl)
    by false e = looser_gains (Sym a) (Sym b) t (rw e refl) g

pub gains_with : (h x t : Info) → GainsLittle h (hull_of_two h x) → Gains h x t
gains_with Contradiction x t g = absurd (omega (arith, g.0))
gains_with h Contradiction t g = same_gains h Contradiction t (hull_of_last h)
gains_with h x Contradiction g = last_gains h x g
gains_with (Span a) (Span b) (Span c) g = span_gains a b c g
gains_with (Span a) (Span b) t g = loose_gains (Span a) (Span b) t refl
gains_with (Set a) (Set b) (Set c) g = set_gains a b c g
gains_with (Set a) (Set b) t g = loose_gains (Set a) (Set b) t refl
gains_with (Sym a) (Sym b) t g = sym_gains a b t g
gains_with h x t g = looser_gains h x t refl g

-- ---- y without the points of a wider hull

first_wider : (y h k : spans.Span) → k.lo ≤ℤ h.lo → h.hi ≤ℤ k.hi → first_without y h ≤ℤ first_without y k
first_wider y h k p q = elim (first_is y h) [
  | inl i ↦ elim (first_is y k) [
    | inl j ↦ omega (arith, ints, q, i.2, j.2)
    | inr o ↦ absurd (o.0 (omega (arith, ints, p, i.0), omega (arith, ints, q, i.1)))
  ]
  | inr o ↦ omega (arith, ints, o.1, first_later y k)
]

last_wider : (y h k : spans.Span) → k.lo ≤ℤ h.lo → h.hi ≤ℤ k.hi → last_without y k ≤ℤ last_without y h
last_wider y h k p q = elim (last_is y h) [
  | inl i ↦ elim (last_is y k) [
    | inl j ↦ omega (arith, ints, p, i.2, j.2)
    | inr o ↦ absurd (o.0 (omega (arith, ints, p, i.0), omega (arith, ints, q, i.1)))
  ]
  | inr o ↦ omega (arith, ints, o.1, last_earlier y k)
]

others_wider : (y h k : sets.Elements) → HasBitsOf k.bits h.bits
    → HasBitsOf (others y.bits h.bits) (others y.bits k.bits)
others_wider y h k p i q =
    others_has y h i (others_part y.bits k.bits i q) (λ e. others_lacks y k i q (p i e))

pub without_none : (y : Info) → without_of y Contradiction ≡ y
without_none Nothing = refl
without_none (Span y) = refl
without_none (Set y) = refl
without_none (Sym y) = refl
without_none Contradiction = refl

without_wider : (y h k : Info) → points_in k < points_in Nothing → Below k h
    → Below (without_of y h) (without_of y k)
without_wider y h Nothing few p = absurd (omega (arith, few))
without_wider y Contradiction k few p =
    subst (λ a. Below a (without_of y k)) (sym (without_none y)) (without_more y k)
without_wider (Span y) (Span h) (Span k) few p =
    span_from_below _ _ _ _ (first_wider y h k p.0 p.1) (last_wider y h k p.0 p.1)
    (omega (arith, ints, first_later y h, y.above)) (omega (arith, ints, last_earlier y h, y.below))
without_wider (Set y) (Set h) (Set k) few p = elements_below _ _ (others_fit y h) (others_wider y h k p)
without_wider y (Sym h) (Sym k) few p =
    subst (λ n. Below (without_of y (Sym h)) (without_of y (Sym n))) (sym p)
    (info_laws.reflexive (without_of y (Sym h)))
without_wider y h k few p = search rules

-- ---- what is told with one member more

pub told_wider : (n : ℕ) (h k y : Info) → n < 64 → Below k h → points_in k ≤ points_in h + 1
    → Below (told n h y) (told (n + 1) k y)
told_wider n h k y few p gain = by (room (points_in k) (n + 1)) (room (points_in h) n)
  where
    by : Room (points_in k) (n + 1) → Room (points_in h) n → Below (told n h y) (told (n + 1) k y)
    by (Over l) r = subst (Below (told n h y)) (sym (told_over (n + 1) k y l)) (to_top (told n h y))
    by (Tight e) (Over l) = absurd (omega (arith, e, l, gain))
    by (Tight e) (Tight f) =
        subst (Below (told n h y)) (sym (told_tight (n + 1) k y e))
        (subst (λ a. Below a (without_of y k)) (sym (told_tight n h y f))
        (without_wider y h k (omega (arith, e, few)) p))
    by (Tight e) (Loose l) =
        subst (Below (told n h y)) (sym (told_tight (n + 1) k y e))
        (subst (λ a. Below a (without_of y k)) (sym (told_loose n h y l)) (without_more y k))
    by (Loose l) (Over m) = absurd (omega (arith, l, m, gain))
    by (Loose l) (Tight f) = absurd (omega (arith, l, f, gain))
    by (Loose l) (Loose m) =
        subst (Below (told n h y)) (sym (told_loose (n + 1) k y l))
        (subst (λ a. Below a y) (sym (told_loose n h y m)) (info_laws.reflexive y))
