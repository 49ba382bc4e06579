-- What follows from the definitions of a search alone.
use Rattle.prop_cells.specs.Problems.{Problem, Extends}
use Rattle.prop_amb.specs.Search.{Stand, IsSearch}

-- what a search keeps of a problem holds of each problem that has cells, statements or instances
-- added
abbrev pub AdditionsKeepSearches : Type 0
AdditionsKeepSearches = (old new : Problem) (s : Stand) → Extends old new → IsSearch old s
    → IsSearch new s
