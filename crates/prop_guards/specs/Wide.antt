-- What is known of the answers of the wide rules, those beside the kit's, without a call.
use Rattle.std.specs.Prelude.{ℕ, Bool, false, ◌&&◌, ◌||◌, List, [], ◌∷◌, Option, Some, None}
use Rattle.prop_lattice.specs.declared.info.Info.{Info}
use Rattle.prop_sets.specs.Truth.{leaves, is_nothing}
use Rattle.prop_wide.specs.declared.wide.Wide as wides
use Rattle.prop_wide.specs.declared.wide.Wide.TheVariants.{Max, MaxBack, Min, MinBack, AbsBack}
use Rattle.prop_wide.specs.declared.wide.Wide.TheVariants.{Choose, Decide, Root, Divisor}

-- too little is known of two inputs: of both of which the greater or the less is told, or, going
-- back, of that one
abbrev pub is_silent_of_two : wides.Wide → Info → Info → Bool
is_silent_of_two Max x y = is_nothing x && is_nothing y
is_silent_of_two MaxBack z y = is_nothing z
is_silent_of_two Min x y = is_nothing x && is_nothing y
is_silent_of_two MinBack z y = is_nothing z
is_silent_of_two rule x y = false

-- Too little is known of three inputs. For `Choose` one of a and b is unknown that may be chosen.
-- For `Decide` the chosen o is unknown, or both a and b are.
abbrev pub is_silent_of_three : wides.Wide → Info → Info → Info → Bool
is_silent_of_three Choose t a b = (leaves t 0 && is_nothing a) || (leaves t 1 && is_nothing b)
is_silent_of_three Decide a b o = is_nothing o || (is_nothing a && is_nothing b)
is_silent_of_three rule x y z = false

-- too little is known of the inputs for an answer
abbrev pub is_silent : wides.Wide → List Info → Bool
is_silent rule (x ∷ y ∷ []) = is_silent_of_two rule x y
is_silent rule (x ∷ y ∷ z ∷ []) = is_silent_of_three rule x y z
is_silent rule args = false

-- the place of the input that is the output: what is known already of the number, the root or the
-- divisor
abbrev pub own_of : wides.Wide → Option ℕ
own_of AbsBack = Some 1
own_of Root = Some 1
own_of Divisor = Some 1
own_of rule = None
