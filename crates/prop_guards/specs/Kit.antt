-- What is known of the answers of the kit's rules without a call.
use Rattle.std.specs.Prelude.{ℕ, zero, suc, ℤ, Bool, false, not, ◌&&◌, ◌||◌, ◌==◌, List, []}
use Rattle.std.specs.Prelude.{◌∷◌, Option, Some, None, if◌then◌else◌, int_le, int_lt}
use Rattle.std.specs.List.{list_any}
use Rattle.std.specs.Ordering.{int_eq}
use Rattle.prop_intervals.specs.Comparisons.{yes_bits, no_bits}
use Rattle.prop_lattice.specs.declared.info.Info.{Info}
use Rattle.prop_lattice.specs.declared.info.Info.TheVariants.{Span, Sym}
use Rattle.prop_sets.specs.Truth.{leaves, is_nothing}
use Rattle.prop_arith.specs.Comparing.{is_single}
use Rattle.prop_arith.specs.inner.Compared.{is_just}
use Rattle.prop_arith.specs.declared.kit.Kit as kits
use Rattle.prop_arith.specs.declared.kit.Kit.TheVariants.{Root, Less, Below, Above, Apart}
use Rattle.prop_arith.specs.declared.kit.Kit.TheVariants.{Switch, And, AndBack, Or, OrBack}
use Rattle.prop_guards.specs.Known.{is_settled, number_of}

-- z or y is unknown, z may be the truth t, and y may be some truth
abbrev pub leaves_open : Info → Info → ℕ → Bool
leaves_open z y t = (is_nothing z || is_nothing y) && (leaves z t && (leaves y 0 || leaves y 1))

-- some numbers of x are less than some of y, and some are not; where these are no spans, one of
-- them is unknown
abbrev pub are_mixed : Info → Info → Bool
are_mixed (Span x) (Span y) = int_le y.lo x.hi && int_lt x.lo y.hi
are_mixed x y = is_nothing x || is_nothing y

-- Too little is known of two inputs for an answer. For `Root` that is y. For `Below`, `Above` and
-- `Switch` it is the truth that says whether there is anything to say, or the other input. For
-- `Less`, `And`, `Or`, `AndBack` and `OrBack` both answers are left. For other rules one input is
-- unknown.
abbrev pub is_silent_of_two : kits.Kit → Info → Info → Bool
is_silent_of_two Root y x = is_nothing y
is_silent_of_two Less x y = are_mixed x y
is_silent_of_two Below t y = not (is_settled t) || is_nothing y
is_silent_of_two Above t x = not (is_settled t) || is_nothing x
is_silent_of_two Switch t x = not (is_just yes_bits t) || is_nothing x
is_silent_of_two And x y = (is_nothing x || is_nothing y) && (leaves x 0 && leaves y 0)
is_silent_of_two AndBack z y = leaves_open z y 1
is_silent_of_two Or x y = (is_nothing x || is_nothing y) && (leaves x 1 && leaves y 1)
is_silent_of_two OrBack z y = leaves_open z y 0
is_silent_of_two rule x y = is_nothing x || is_nothing y

-- Too little is known of three inputs. For `Apart` the truth is not just `no`, or x is no single
-- point, or y is unknown. For other rules one input is unknown.
abbrev pub is_silent_of_three : kits.Kit → Info → Info → Info → Bool
is_silent_of_three Apart t x y = (not (is_just no_bits t) || not (is_single x)) || is_nothing y
is_silent_of_three rule x y z = (is_nothing x || is_nothing y) || is_nothing z

-- too little is known of the inputs for an answer
abbrev pub is_silent : kits.Kit → List Info → Bool
is_silent rule (x ∷ y ∷ []) = is_silent_of_two rule x y
is_silent rule (x ∷ y ∷ z ∷ []) = is_silent_of_three rule x y z
is_silent rule args = list_any is_nothing args

-- x is a single number, and no end of y; or they are different symbols
abbrev pub is_inside : Info → Info → Bool
is_inside (Span x) (Span y) =
    int_eq x.lo x.hi && (not (int_eq y.lo x.lo) && not (int_eq y.hi x.lo))
is_inside (Sym x) (Sym y) = not (x == y)
is_inside x y = false

-- the answer is y: y is another than x, and to leave x out of y changes nothing
abbrev pub is_repeated : kits.Kit → List Info → Bool
is_repeated Apart (t ∷ x ∷ y ∷ []) = is_just no_bits t && is_inside x y
is_repeated rule args = false

-- the place of the input that is the output: what is known of the root already, and y of `Apart`
abbrev pub own_of : kits.Kit → Option ℕ
own_of Root = Some 1
own_of Apart = Some 2
own_of rule = None

-- told of x, where the truth is just `no`: y can't be the single number that x leaves
abbrev pub ruled_out : kits.Kit → List Info → ℕ → Option ℤ
ruled_out Apart (t ∷ x ∷ y ∷ []) (suc zero) = if is_just no_bits t then number_of x else None
ruled_out rule args place = None
