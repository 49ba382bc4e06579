-- Information and numbers that were ruled out beside it.
use Rattle.std.specs.Prelude.{ℤ, ⊤}
use Rattle.prop_lattice.specs.Order.{Below}
use Rattle.prop_lattice.specs.Points.{Point, Number, Holds}
use Rattle.prop_lattice.specs.declared.info.Info.{Info}
use Rattle.prop_lattice.specs.declared.info.Info.TheVariants.{Span}

-- the value is a number that was ruled out
abbrev pub IsGone : (ℤ → Type 0) → Point → Type 0
IsGone Out (Number n) = Out n
IsGone Out p = ⊥

-- no end was ruled out
abbrev pub IsTight : (ℤ → Type 0) → Info → Type 0
IsTight Out (Span s) = (Out s.lo → ⊥) × (Out s.hi → ⊥)
IsTight Out a = ⊤

-- the second information is the first with its ends moved inwards past the numbers that were ruled
-- out: a contradiction where all were
pub record IsNarrowed (Out : ℤ → Type 0) (a b : Info) : Type 0 where
  pub above : Below a b
  pub tight : IsTight Out b
  pub passed : (p : Point) → Holds a p → (Holds b p → ⊥) → IsGone Out p
