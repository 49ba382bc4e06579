-- What two ends or a number of bits make, where it is decided whether they can.
use Rattle.std.specs.Prelude.{ℕ, ◌<◌, ◌^◌, ℤ, ◌⊎◌}
use Rattle.std.proofs.Common.{inl, inr}
use Rattle.prop_lattice.specs.Ends.{AreEnds}
use Rattle.prop_lattice.specs.declared.info.Info.{Info}
use Rattle.prop_lattice.specs.declared.info.Info.TheVariants.{Span, Set, Contradiction}

-- the bits are those of some elements
abbrev pub AreSome : ℕ → Type 0
AreSome bits = (0 < bits) × (bits < 2 ^ 64)

abbrev pub span_if : (lo hi : ℤ) → AreEnds lo hi ⊎ ¬ (AreEnds lo hi) → Info
span_if lo hi (inl e) = Span (record { lo = lo; hi = hi; above = e.0; ordered = e.1; below = e.2 })
span_if lo hi (inr _) = Contradiction

abbrev pub elements_if : (bits : ℕ) → AreSome bits ⊎ ¬ (AreSome bits) → Info
elements_if bits (inl e) = Set (record { bits = bits; some = e.0; fits = e.1 })
elements_if bits (inr _) = Contradiction
