-- What the rules that compare go by, by name.
use Rattle.std.specs.Prelude.{ℕ, Bool, false, ◌==◌, ◌&&◌, if◌then◌else◌}
use Rattle.std.specs.Int.{w64, trailing_zeros}
use Rattle.prop_intervals.specs.Comparisons.{yes_bits, no_bits}
use Rattle.prop_lattice.specs.Ends.{elements_from}
use Rattle.prop_lattice.specs.Order.{merge_of, is_contradiction}
use Rattle.prop_lattice.specs.declared.elements.Elements as sets
use Rattle.prop_lattice.specs.declared.info.Info.{Info}
use Rattle.prop_lattice.specs.declared.info.Info.TheVariants.{Nothing, Set}
use Rattle.prop_arith.specs.Comparing.{is_single}

-- the information has just these bits
abbrev pub is_just : ℕ → Info → Bool
is_just bits (Set s) = s.bits == bits
is_just bits a = false

-- whether x is y: no where they share no point, yes where each leaves one point, which is then the
-- same
abbrev pub comparer_of : Info → Info → Info
comparer_of x y = if is_contradiction (merge_of x y) then elements_from no_bits
    else (if is_single x && is_single y then elements_from yes_bits else Nothing)

-- the number of the first element
abbrev pub first_element : sets.Elements → ℕ
first_element s = trailing_zeros w64 s.bits
