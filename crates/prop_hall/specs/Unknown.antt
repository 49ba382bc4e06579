-- Others of which nothing is known.
use Rattle.std.specs.Prelude.{◌≡◌, ◌<◌, Bool, true, false, List, length}
use Rattle.std.specs.List.{filter}
use Rattle.prop_lattice.specs.declared.info.Info.{Info}
use Rattle.prop_lattice.specs.declared.info.Info.TheVariants.{Nothing}
use Rattle.prop_hall.specs.Excluding.{excluded_of}

-- something is known
abbrev pub is_known : Info → Bool
is_known Nothing = false
is_known a = true

-- without the others of which nothing is known the answer is the same
abbrev pub UnknownSaysNothing : Type 0
UnknownSaysNothing = (y : Info) (others : List Info) → length others < 9
    → excluded_of y (filter is_known others) ≡ excluded_of y others
