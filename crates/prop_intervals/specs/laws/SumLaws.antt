-- What is known of sums and differences of spans.
use Rattle.std.specs.Prelude.{ℕ, ℤ, ◌≡◌, ◌+ℤ◌, ◌-ℤ◌, ◌≤ℤ◌}
use Rattle.std.proofs.Common.{arith}
use Rattle.std.proofs.lemmas.Int.{ints}
use Rattle.prop_lattice.specs.Ends.{AreEnds}
use Rattle.prop_lattice.specs.Order.{Below}
use Rattle.prop_lattice.specs.Points.{Number, Holds}
use Rattle.prop_lattice.specs.Rank.{IsOf}
use Rattle.prop_lattice.specs.declared.span.Span as spans
use Rattle.prop_lattice.specs.declared.info.Info.TheVariants.{Span}
use Rattle.prop_lattice.specs.declared.info.Kind.TheVariants as kinds
use Rattle.prop_intervals.specs.laws.ClipLaws.{clip_below, clip_of_span, clip_holds}
use Rattle.prop_intervals.specs.Narrowest.{IsNarrowest}
use Rattle.prop_intervals.specs.laws.NarrowestLaws.{clip_narrowest}
use Rattle.prop_intervals.specs.Relations.{IsSum, BelongsToTwo}
use Rattle.prop_intervals.specs.laws.Relations.{IsInRange}
use Rattle.prop_intervals.specs.Spans.{sum_of, difference_of}

-- ---- sums

pub sum_monotone : (a b c d : spans.Span) → Below (Span a) (Span c) → Below (Span b) (Span d)
    → Below (sum_of a b) (sum_of c d)
sum_monotone a b c d p q = clip_below (a.lo +ℤ b.lo) (a.hi +ℤ b.hi) (c.lo +ℤ d.lo) (c.hi +ℤ d.hi)
    (omega (arith, ints)) (omega (arith, ints))

pub sum_kind : (size : ℕ) (a b : spans.Span) → IsOf kinds.Span size (sum_of a b)
sum_kind size a b = clip_of_span size (a.lo +ℤ b.lo) (a.hi +ℤ b.hi)

pub sum_sound : (a b : spans.Span) (x y z : ℤ) → Holds (Span a) (Number x)
    → Holds (Span b) (Number y) → IsInRange z → IsSum x y z → Holds (sum_of a b) (Number z)
sum_sound a b x y z p q r e = clip_holds (a.lo +ℤ b.lo) (a.hi +ℤ b.hi) z (omega (arith, ints))
    (omega (arith, ints)) r.0 r.1

pub sum_narrowest : (a b : spans.Span) → AreEnds (a.lo +ℤ b.lo) (a.hi +ℤ b.hi)
    → IsNarrowest (BelongsToTwo IsSum a b) (sum_of a b)
sum_narrowest a b e =
    clip_narrowest (BelongsToTwo IsSum a b) (a.lo +ℤ b.lo) (a.hi +ℤ b.hi) e.0 e.2 (
      a.lo,
      b.lo,
      (omega (arith, ints), a.ordered),
      (omega (arith, ints), b.ordered),
      omega (arith, ints),
    ) (
      a.hi,
      b.hi,
      (a.ordered, omega (arith, ints)),
      (b.ordered, omega (arith, ints)),
      omega (arith, ints),
    ) (λ v p. between v p.0 p.1 p.2 p.3 p.4)
  where
    between : (v x y : ℤ) → Holds (Span a) (Number x) → Holds (Span b) (Number y) → v ≡ x +ℤ y
        → ((a.lo +ℤ b.lo) ≤ℤ v) × (v ≤ℤ (a.hi +ℤ b.hi))
    between v x y p q f = (omega (arith, ints), omega (arith, ints))

-- ---- differences

pub difference_monotone : (z x z' x' : spans.Span) → Below (Span z) (Span z')
    → Below (Span x) (Span x') → Below (difference_of z x) (difference_of z' x')
difference_monotone z x z' x' p q =
    clip_below (z.lo -ℤ x.hi) (z.hi -ℤ x.lo) (z'.lo -ℤ x'.hi) (z'.hi -ℤ x'.lo) (omega (arith, ints))
    (omega (arith, ints))

pub difference_kind : (size : ℕ) (z x : spans.Span) → IsOf kinds.Span size (difference_of z x)
difference_kind size z x = clip_of_span size (z.lo -ℤ x.hi) (z.hi -ℤ x.lo)

pub difference_sound : (a b : spans.Span) (z x y : ℤ) → Holds (Span a) (Number z)
    → Holds (Span b) (Number x) → IsInRange y → IsSum x y z → Holds (difference_of a b) (Number y)
difference_sound a b z x y p q r e =
    clip_holds (a.lo -ℤ b.hi) (a.hi -ℤ b.lo) y (omega (arith, ints)) (omega (arith, ints)) r.0 r.1

pub difference_narrowest : (a b : spans.Span) → AreEnds (a.lo -ℤ b.hi) (a.hi -ℤ b.lo)
    → IsNarrowest (BelongsToTwo (λ z x y. IsSum x y z) a b) (difference_of a b)
difference_narrowest a b e = clip_narrowest (BelongsToTwo (λ z x y. IsSum x y z) a b) (a.lo -ℤ b.hi)
    (a.hi -ℤ b.lo) e.0 e.2 (
      a.lo,
      b.hi,
      (omega (arith, ints), a.ordered),
      (b.ordered, omega (arith, ints)),
      omega (arith, ints),
    ) (
      a.hi,
      b.lo,
      (a.ordered, omega (arith, ints)),
      (omega (arith, ints), b.ordered),
      omega (arith, ints),
    ) (λ v p. between v p.0 p.1 p.2 p.3 p.4)
  where
    between : (v z x : ℤ) → Holds (Span a) (Number z) → Holds (Span b) (Number x) → z ≡ x +ℤ v
        → ((a.lo -ℤ b.hi) ≤ℤ v) × (v ≤ℤ (a.hi -ℤ b.lo))
    between v z x p q f = (omega (arith, ints), omega (arith, ints))
