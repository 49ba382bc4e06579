-- What is known of the answers of the rules of excluding without a call. A rule of excluding tells
-- a point y by the others, from which it differs.
use Rattle.std.specs.Prelude.{ℕ, suc, nat_lt, ℤ, Bool, false, ◌&&◌, ◌==◌, List, [], ◌∷◌}
use Rattle.std.specs.Prelude.{length, Option, Some, None, if◌then◌else◌, slice_get}
use Rattle.std.specs.List.{list_all}
use Rattle.std.specs.Option.{option_and_then}
use Rattle.prop_lattice.specs.declared.info.Info.{Info}
use Rattle.prop_procedures.specs.declared.shape.Param.{Param}
use Rattle.prop_procedures.specs.declared.shape.Param.TheVariants.{Rows}
use Rattle.prop_hall.specs.Excluder.{others_of}
use Rattle.prop_hall.specs.Hulls.{points_in}
use Rattle.prop_hall.specs.declared.excluder.Excluder.{Excluder}
use Rattle.prop_hall.specs.declared.excluder.Excluder.TheVariants.{Eight}
use Rattle.prop_guards.specs.Known.{number_of}

-- There are so many others, and each leaves more points than that. So no selection of them can take
-- all the points that it leaves.
abbrev pub are_roomy : ℕ → List Info → Bool
are_roomy many others = (length others == many) && list_all (λ a. nat_lt many (points_in a)) others

-- the answer is nothing: eight others are roomy, in a domain that has elements
abbrev pub is_silent : Excluder → Param → List Info → Bool
is_silent Eight (Rows m) args = nat_lt 0 m.from.size && are_roomy 8 args
is_silent rule param args = false

-- the answer is y: the others are roomy
abbrev pub is_repeated : Excluder → List Info → Bool
is_repeated Eight args = false
is_repeated rule [] = false
is_repeated rule (y ∷ others) = are_roomy (others_of rule) others

-- the place of the input that is the output: that of y
abbrev pub own_of : Excluder → Option ℕ
own_of Eight = None
own_of rule = Some 0

-- the only number that the other at this place leaves: y can't be that
abbrev pub ruled_out_beside : ℕ → List Info → ℕ → Option ℤ
ruled_out_beside many (y ∷ others) (suc place) =
    if length others == many then option_and_then number_of (slice_get others place) else None
ruled_out_beside many args place = None

-- the number that y can't be, as the input at this place tells
abbrev pub ruled_out : Excluder → List Info → ℕ → Option ℤ
ruled_out Eight args place = None
ruled_out rule args place = ruled_out_beside (others_of rule) args place
