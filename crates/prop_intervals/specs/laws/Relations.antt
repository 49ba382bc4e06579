-- Which numbers belong together.
use Rattle.std.specs.Prelude.{ℤ, neg_ℤ, ◌≤ℤ◌}
use Rattle.prop_lattice.specs.declared.span.TheConstants.{B}

-- v is no larger in magnitude than numbers may be
abbrev pub IsInRange : ℤ → Type 0
IsInRange v =
    (neg_ℤ B ≤ℤ v) × (v ≤ℤ B)
