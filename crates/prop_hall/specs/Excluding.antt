-- What values that all differ tell about one more.
use Rattle.std.specs.Prelude.{ℕ, nat_lt, ◌==◌, if◌then◌else◌, List, [], ◌∷◌, length, map}
use Rattle.prop_hall.specs.Hulls.{hull_of, points_in, without_of}
use Rattle.prop_hall.specs.Selections.{selections}
use Rattle.prop_lattice.specs.Order.{merge_of}
use Rattle.prop_lattice.specs.declared.info.Info.{Info}
use Rattle.prop_lattice.specs.declared.info.Info.TheVariants.{Contradiction}

-- what so many different points of the hull say of another one of y: where they are more than the
-- hull has, that can't be; where they are as many, they are all of it, and leave y the rest
abbrev pub told : ℕ → Info → Info → Info
told members hull y =
    if nat_lt (points_in hull) members then Contradiction
    else (if points_in hull == members then without_of y hull else y)

-- what the values of a selection say of y
abbrev pub told_by : Info → List Info → Info
told_by y selection = told (length selection) (hull_of selection) y

-- what y and all of some informations say together
abbrev pub merge_all : Info → List Info → Info
merge_all y [] = y
merge_all y (a ∷ rest) = merge_of a (merge_all y rest)

-- what is known of y, which differs from each of the others, where these all differ too: what all
-- selections of them say together
abbrev pub excluded_of : Info → List Info → Info
excluded_of y others = merge_all y (map (told_by y) (selections others))
