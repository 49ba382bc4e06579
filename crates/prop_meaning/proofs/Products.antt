-- Spans that hold what is made of numbers of spans.
use Rattle.std.proofs.Common.{◌≡◌, ℤ, pos, neg_ℤ, ◌+ℤ◌, ◌-ℤ◌, ◌*ℤ◌, Option, Some, None, IfSome, arith}
use Rattle.std.specs.Int.{int_max, int_min}
use Rattle.std.proofs.lemmas.Int.{ints, clamps}
use Rattle.prop_lattice.specs.declared.span.Span as spans
use Rattle.prop_intervals.specs.Spans.{least_product, greatest_product}
use Rattle.prop_intervals.specs.laws.ProductLaws.{product_within}
use Rattle.std.proofs.Common.{inl, inr, subst}
use Rattle.prop_intervals.specs.laws.Relations.{IsInRange}
use Rattle.prop_lattice.specs.Points.{Number, Holds}
use Rattle.prop_lattice.specs.declared.info.Info.{Info}
use Rattle.prop_lattice.specs.declared.info.Info.TheVariants.{Span as SpanInfo}
use Rattle.prop_lattice.specs.declared.span.TheConstants.{B}
use Rattle.prop_terms.specs.Meaning.{quotient}
use Rattle.prop_terms.proofs.Rounding.{rounded_down}
use Rattle.prop_wide.specs.Quotients.{IsRemainder, quotient_of}
use Rattle.prop_wide.specs.laws.QuotientLaws.{quotient_sound}
use Rattle.prop_meaning.specs.Words.{Lies}
use Rattle.prop_meaning.specs.inner.Spans.{HoldsOne, HoldsTwo, HoldsLeft, HoldsMultiples, HoldsQuotients}
use Rattle.prop_meaning.proofs.Quotients.{quotient_near, may_be_left, is_left, leaves}

-- the span that there may be has these ends
abbrev Ends : Option spans.Span → ℤ → ℤ → Type 0
Ends o lo hi = IfSome o (λ s. (s.lo ≡ lo) × (s.hi ≡ hi))

pub holds_sum : (x y : spans.Span) (lo hi : ℤ) (o : Option spans.Span) → lo ≡ x.lo +ℤ y.lo → hi ≡ x.hi +ℤ y.hi
    → Ends o lo hi → IfSome o (HoldsTwo (λ u v. u +ℤ v) x y)
holds_sum x y lo hi (Some s) a b e = λ u v p q.
    (omega (arith, ints, a, e.0, p.0, q.0), omega (arith, ints, b, e.1, p.1, q.1))
holds_sum x y lo hi None a b e = tt

pub holds_difference : (x y : spans.Span) (lo hi : ℤ) (o : Option spans.Span) → lo ≡ x.lo -ℤ y.hi → hi ≡ x.hi -ℤ y.lo
    → Ends o lo hi → IfSome o (HoldsTwo (λ u v. u -ℤ v) x y)
holds_difference x y lo hi (Some s) a b e = λ u v p q.
    (omega (arith, ints, a, e.0, p.0, q.1), omega (arith, ints, b, e.1, p.1, q.0))
holds_difference x y lo hi None a b e = tt

pub holds_larger : (x y : spans.Span) (lo hi : ℤ) (o : Option spans.Span) → lo ≡ int_max x.lo y.lo →
    hi ≡ int_max x.hi y.hi
    → Ends o lo hi → IfSome o (HoldsTwo int_max x y)
holds_larger x y lo hi (Some s) a b e = λ u v p q.
    (omega (arith, ints, clamps, a, e.0, p.0, q.0), omega (arith, ints, clamps, b, e.1, p.1, q.1))
holds_larger x y lo hi None a b e = tt

pub holds_smaller : (x y : spans.Span) (lo hi : ℤ) (o : Option spans.Span) → lo ≡ int_min x.lo y.lo
    → hi ≡ int_min x.hi y.hi
    → Ends o lo hi → IfSome o (HoldsTwo int_min x y)
holds_smaller x y lo hi (Some s) a b e = λ u v p q.
    (omega (arith, ints, clamps, a, e.0, p.0, q.0), omega (arith, ints, clamps, b, e.1, p.1, q.1))
holds_smaller x y lo hi None a b e = tt

pub holds_distance : (x : spans.Span) (lo hi : ℤ) (o : Option spans.Span)
    → lo ≡ int_max (int_max x.lo (neg_ℤ x.hi)) (pos 0) → hi ≡ int_max x.hi (neg_ℤ x.lo)
    → Ends o lo hi → IfSome o (HoldsOne (λ u. int_max u (neg_ℤ u)) x)
holds_distance x lo hi (Some s) a b e = λ u p.
    (omega (arith, ints, clamps, a, e.0, p.0, p.1), omega (arith, ints, clamps, b, e.1, p.0, p.1))
holds_distance x lo hi None a b e = tt

pub holds_first : (x y : spans.Span) (lo hi : ℤ) (o : Option spans.Span) → lo ≡ int_min x.lo y.lo →
    hi ≡ int_max x.hi y.hi
    → Ends o lo hi → IfSome o (HoldsOne (λ u. u) x)
holds_first x y lo hi (Some s) a b e = λ u p.
    (omega (arith, ints, clamps, a, e.0, p.0), omega (arith, ints, clamps, b, e.1, p.1))
holds_first x y lo hi None a b e = tt

pub holds_second : (x y : spans.Span) (lo hi : ℤ) (o : Option spans.Span) → lo ≡ int_min x.lo y.lo →
    hi ≡ int_max x.hi y.hi
    → Ends o lo hi → IfSome o (HoldsOne (λ u. u) y)
holds_second x y lo hi (Some s) a b e = λ u p.
    (omega (arith, ints, clamps, a, e.0, p.0), omega (arith, ints, clamps, b, e.1, p.1))
holds_second x y lo hi None a b e = tt

pub holds_product : (x y : spans.Span) (lo hi : ℤ) (o : Option spans.Span) → lo ≡ least_product x y
    → hi ≡ greatest_product x y
    → Ends o lo hi → IfSome o (HoldsTwo (λ u v. u *ℤ v) x y)
holds_product x y lo hi (Some s) a b e = λ u v p q.
    let w = product_within x y u v p q in (rw (e.0, a) w.0, rw (e.1, b) w.1)
holds_product x y lo hi None a b e = tt

-- ---- divisions

pub holds_left : (y : spans.Span) (lo hi : ℤ) (o : Option spans.Span) → lo ≡ int_min (y.lo +ℤ pos 1) (pos 0)
    → hi ≡ int_max (y.hi -ℤ pos 1) (pos 0) → Ends o lo hi → IfSome o (HoldsLeft y)
holds_left y lo hi (Some s) a b e = λ v r l t. by v r l (may_be_left v r t)
  where
    by : (v r : ℤ) → Lies y v → IsRemainder v r → Lies s r
    by v r l (inl h) = (omega (arith, ints, clamps, a, e.0, h.0), omega (arith, ints, clamps, b, e.1, l.1, h.1))
    by v r l (inr h) = (omega (arith, ints, clamps, a, e.0, l.0, h.0), omega (arith, ints, clamps, b, e.1, h.1))
holds_left y lo hi None a b e = tt

pub holds_multiples : (x y left : spans.Span) (o : Option spans.Span) → HoldsLeft y left
    → IfSome o (HoldsTwo (λ u v. u -ℤ v) x left) → IfSome o (HoldsMultiples x y)
holds_multiples x y left (Some s) hl h = λ u v q p l e.
    let P : ℤ → Type 0 = λ z. Lies s z in
    let r = u -ℤ (q *ℤ v) in
    subst P (back u (q *ℤ v))
    (h u r p (hl v r l (is_left v r (leaves u v q (rounded_down u v q e)))))
  where
    back : (u m : ℤ) → u -ℤ (u -ℤ m) ≡ m
    back u m = omega (arith, ints)
holds_multiples x y left None hl h = tt

in_range : (x : spans.Span) (u : ℤ) → Lies x u → IsInRange u
in_range x u l = (omega (arith, ints, x.above, l.0), omega (arith, ints, x.below, l.1))

near : (x y : spans.Span) (u v q : ℤ) → Lies x u → quotient u v ≡ Some q → IsInRange q
near x y u v q l e = quotient_near u v q (in_range x u l) (rounded_down u v q e)

pub holds_quotients : (x y s : spans.Span) → quotient_of (SpanInfo x) (SpanInfo y) ≡ SpanInfo s → HoldsQuotients x y s
holds_quotients x y s e = λ u v q l k f.
    let P : Info → Type 0 = λ i. Holds i (Number q) in
    subst P e (quotient_sound (SpanInfo x) (SpanInfo y) u v q l k (in_range x u l) (in_range y v k)
    (near x y u v q l f) (rounded_down u v q f))

pub holds_any : (x y : spans.Span) (o : Option spans.Span) → Ends o (neg_ℤ B) B → IfSome o (HoldsQuotients x y)
holds_any x y (Some s) e = λ u v q l k f.
    let n = near x y u v q l f in (omega (arith, ints, e.0, n.0), omega (arith, ints, e.1, n.1))
holds_any x y None e = tt
