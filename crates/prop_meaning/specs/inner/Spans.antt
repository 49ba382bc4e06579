-- Spans that hold all that a function makes of the numbers in given spans.
use Rattle.std.specs.Prelude.{◌≡◌, ℤ, ◌*ℤ◌, Some, IsTrue}
use Rattle.prop_lattice.specs.Points.{Point}
use Rattle.prop_lattice.specs.declared.span.Span as spans
use Rattle.prop_meaning.specs.Words.{Lies, IsWithin}
use Rattle.prop_terms.specs.Meaning.{quotient}
use Rattle.prop_meaning.specs.inner.Steps.{may_leave}
use Rattle.prop_meaning.specs.declared.known.Known.{Known}

abbrev pub HoldsOne : (ℤ → ℤ) → spans.Span → spans.Span → Type 0
HoldsOne f x s = (u : ℤ) → Lies x u → Lies s (f u)

abbrev pub HoldsTwo : (ℤ → ℤ → ℤ) → spans.Span → spans.Span → spans.Span → Type 0
HoldsTwo f x y s = (u v : ℤ) → Lies x u → Lies y v → Lies s (f u v)

-- the span holds the quotients of numbers of the first by those of the second; and then, it holds
-- these quotients times their divisors
abbrev pub HoldsQuotients : spans.Span → spans.Span → spans.Span → Type 0
HoldsQuotients x y s = (u v q : ℤ) → Lies x u → Lies y v → quotient u v ≡ Some q → Lies s q

abbrev pub HoldsMultiples : spans.Span → spans.Span → spans.Span → Type 0
HoldsMultiples x y s =
    (u v q : ℤ) → Lies x u → Lies y v → quotient u v ≡ Some q → Lies s (q *ℤ v)

-- the span holds all that divisions by numbers of the first may leave
abbrev pub HoldsLeft : spans.Span → spans.Span → Type 0
HoldsLeft y s = (v r : ℤ) → Lies y v → IsTrue (may_leave v r) → Lies s r

-- where the points of two cells are as is known of them, what f makes of them is as is known of a
-- third
abbrev pub Tells : (Point → Point → Point) → Known → Known → Known → Type 0
Tells f x y k = (p q : Point) → IsWithin x p → IsWithin y q → IsWithin k (f p q)
