-- What is known of a nogood under a set of premises: it rests on some of these, and whatever meets
-- it is excused. An excuse is a list of facts; points that have all of them are excused.
use Rattle.std.specs.Prelude.{ℕ, List, Option, Contains, All}
use Rattle.prop_lattice.specs.Points.{Point}
use Rattle.prop_numbers.specs.Sets.{IsPart, Members, set_of}
use Rattle.prop_premises.specs.declared.choice.Choice.{Choice}
use Rattle.prop_procedures.specs.Stored.{Stored}
use Rattle.prop_cells.specs.Points.{Attached}
use Rattle.prop_facts.specs.declared.fact.Literal.{Literal}
use Rattle.prop_refuting.specs.Nogoods.{Excludes, Nogood}
use Rattle.prop_refuting.specs.Places.{IsSoAt}
use Rattle.prop_learned.specs.Stores.{IsKeptIn}

-- the points, with these sides of the choices, have all facts of one of the excuses
abbrev pub IsExcused : Attached → List (List Literal) → (ℕ → Point) → List ℕ → Type 0
IsExcused n excuses points list =
    (facts : List Literal) × Contains excuses facts × All (IsSoAt n points list) facts

-- the nogood rests on premises of the set, and whatever meets it is excused
pub record IsKnown (library : List Stored) (n : Attached) (choices : List Choice) (s : Members)
    (excuses : List (List Literal)) (g : Nogood) : Type 0 where
  pub within : IsPart (set_of g.premises) s
  pub excluded : Excludes library n choices (IsExcused n excuses) g

-- each nogood that is kept is known
abbrev pub AreKnown : List Stored → Attached → List Choice → Members → List (List Literal)
    → List (Option Nogood) → Type 0
AreKnown library n choices s excuses slots =
    (g : Nogood) → IsKeptIn slots g → IsKnown library n choices s excuses g

-- For any set that has what is believed at the root, and any excuses: if the kept nogoods are known
-- and the old nogood is, so is the new one.
pub record Stays (library : List Stored) (n : Attached) (choices : List Choice) (root : List ℕ)
    (slots : List (Option Nogood)) (old new : Nogood) : Type 0 where
  pub known : (s : Members) (excuses : List (List Literal)) → IsPart (set_of root) s
      → AreKnown library n choices s excuses slots
      → IsKnown library n choices s excuses old → IsKnown library n choices s excuses new

-- if the old nogood is known, so is the new one, over any network and whatever is kept
abbrev pub AlwaysStays : Nogood → Nogood → Type 0
AlwaysStays old new = (library : List Stored) (n : Attached) (choices : List Choice)
    (root : List ℕ) (slots : List (Option Nogood)) → Stays library n choices root slots old new

-- For any set that has what is believed at the root, and any excuses: if the kept nogoods are
-- known, so is this one.
pub record Follows (library : List Stored) (n : Attached) (choices : List Choice) (root : List ℕ)
    (slots : List (Option Nogood)) (g : Nogood) : Type 0 where
  pub known : (s : Members) (excuses : List (List Literal)) → IsPart (set_of root) s
      → AreKnown library n choices s excuses slots → IsKnown library n choices s excuses g

-- the nogood is known, over any network and whatever is kept
abbrev pub AlwaysFollows : Nogood → Type 0
AlwaysFollows g = (library : List Stored) (n : Attached) (choices : List Choice) (root : List ℕ)
    (slots : List (Option Nogood)) → Follows library n choices root slots g
