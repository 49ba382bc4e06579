-- Which numbers belong together.
use Rattle.std.specs.Prelude.{◌≡◌, ◌↔◌, ℕ, ℤ, pos, ◌+ℤ◌, ◌-ℤ◌, ◌*ℤ◌, ◌<ℤ◌}
use Rattle.prop_lattice.specs.Points.{Number, Holds}
use Rattle.prop_lattice.specs.declared.span.Span as spans
use Rattle.prop_lattice.specs.declared.info.Info.TheVariants.{Span}

-- z is x plus y
abbrev pub IsSum : ℤ → ℤ → ℤ → Type 0
IsSum x y z = z ≡ x +ℤ y

-- z and the product of x and y, all in units of 1/k, are less than a unit apart
abbrev pub IsProduct : ℤ → ℤ → ℤ → ℤ → Type 0
IsProduct k x y z = ((k *ℤ (z -ℤ pos 1)) <ℤ (x *ℤ y)) × ((x *ℤ y) <ℤ (k *ℤ (z +ℤ pos 1)))

-- y is the square of x
abbrev pub IsSquare : ℤ → ℤ → Type 0
IsSquare x y = y ≡ x *ℤ x

-- the truth t, 0 for `yes`, says whether x is less than y
abbrev pub SaysLess : ℤ → ℤ → ℕ → Type 0
SaysLess x y t = (t ≡ 0) ↔ (x <ℤ y)

-- v belongs to some number of a
abbrev pub BelongsToOne : (ℤ → ℤ → Type 0) → spans.Span → ℤ → Type 0
BelongsToOne related a v = (x : ℤ) × Holds (Span a) (Number x) × related x v

-- v belongs to some number of a and some number of b
abbrev pub BelongsToTwo : (ℤ → ℤ → ℤ → Type 0) → spans.Span → spans.Span → ℤ → Type 0
BelongsToTwo related a b v =
    (x : ℤ) × (y : ℤ) × Holds (Span a) (Number x) × Holds (Span b) (Number y) × related x y v
