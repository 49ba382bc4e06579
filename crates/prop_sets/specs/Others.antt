-- A set without one element.
use Rattle.std.specs.Prelude.{◌≢◌, ℕ, not, ◌&&◌, ◌==◌}
use Rattle.std.specs.Int.{bit_at}
use Rattle.prop_lattice.specs.Ends.{elements_from}
use Rattle.prop_lattice.specs.Order.{HasElement}
use Rattle.prop_lattice.specs.declared.elements.Elements as sets
use Rattle.prop_lattice.specs.declared.info.Info.{Info}
use Rattle.prop_sets.specs.Chosen.{bits_where}

-- j is an element of y, and another than x
abbrev pub IsOther : sets.Elements → ℕ → ℕ → Type 0
IsOther y x j = HasElement y j × (j ≢ x)

-- the elements of y other than x, a contradiction where there are none
abbrev pub without_of : sets.Elements → ℕ → Info
without_of y x = elements_from (bits_where 64 (λ j. (bit_at y.bits j == 1) && not (j == x)))
