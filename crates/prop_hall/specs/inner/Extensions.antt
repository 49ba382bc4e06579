-- What the extensions of a selection say.
use Rattle.std.specs.Prelude.{ℕ, ◌+◌, ◌<◌, ◌≤◌, List, length, map}
use Rattle.prop_lattice.specs.declared.info.Info.{Info}
use Rattle.prop_hall.specs.Excluding.{told, merge_all}
use Rattle.prop_hall.specs.Hulls.{hull_of, hull_of_two, points_in}
use Rattle.prop_hall.specs.Selections.{selections}

-- what a selection of so many with this hull says of y together with some more
abbrev pub told_with : ℕ → Info → Info → List Info → Info
told_with members hull y more = told (members + length more) (hull_of_two hull (hull_of more)) y

-- what is known, and what the selection says of y together with each selection of the rest
abbrev pub extended : Info → Info → ℕ → Info → List Info → Info
extended known y members hull rest =
    merge_all known (map (told_with members hull y) (selections rest))

-- the hull has points, and the wider one has at most one more
abbrev pub GainsLittle : Info → Info → Type 0
GainsLittle hull wider = (0 < points_in hull) × (points_in wider ≤ points_in hull + 1)
