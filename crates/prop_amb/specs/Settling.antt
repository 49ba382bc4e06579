-- How settling ends, and what it leaves.
use Rattle.std.specs.Prelude.{◌≡◌, ℕ, ◌+◌, ◌*◌, ◌<◌, IsTrue, false, List, [], length}
use Rattle.prop_numbers.specs.Sets.{Members, set_of}
use Rattle.prop_premises.specs.ChoiceLists.{lists_count}
use Rattle.prop_procedures.specs.Stored.{Stored}
use Rattle.prop_cells.specs.Problems.{Problem}
use Rattle.prop_cells.specs.Data.{Data, IsFree}
use Rattle.prop_nogoods.specs.Stores.{has_part}
use Rattle.prop_scheduler.specs.Turns.{IsSettled}
use Rattle.prop_scheduler.specs.Potential.{most_steps}
use Rattle.prop_amb.specs.Refuted.{AllBeforeRefuted, IsFirstConsistent}
use Rattle.prop_amb.specs.Search.{Stand, IsStand, IsSearch, users_of, choices_in}
use Rattle.prop_amb.specs.Search.{AllBeforeBlocked}
use Rattle.prop_amb.specs.Going.{Work, MayGoOn}
use Rattle.prop_amb.specs.declared.outcome.Outcome.{Outcome}
use Rattle.prop_amb.specs.declared.outcome.Outcome.TheVariants.{Settled, Contradiction, Unsettled}

-- where every choice list is refuted, P holds of the premises that show it
abbrev pub IfContradiction : Outcome → (List ℕ → Type 0) → Type 0
IfContradiction (Contradiction n) P = P n
IfContradiction Settled P = Unit {0}
IfContradiction Unsettled P = Unit {0}

-- What settling leaves of the search. The premises stay, each set that had a noted part has one
-- still, and what every search and every stand keeps is kept. Each choice list before the one on
-- which the choices stand now is refuted, and a noted nogood would be believed with it.
pub record Learns (problem : Problem) (old new : Stand) : Type 0 where
  pub premises : new.premises ≡ old.premises
  pub listed : (m : Members) → IsTrue (has_part old.listed m) → IsTrue (has_part new.listed m)
  pub search : IsSearch problem new
  pub stand : IsStand new
  pub passed : AllBeforeBlocked new
  pub earlier : AllBeforeRefuted problem (users_of new) (choices_in new) new.list

-- The search stands on the first consistent choice list, and the side of each choice is believed.
-- What is believed of the cells is the least solution, and no instance waits.
pub record HasSettled (library : List Stored) (problem : Problem) (s : Stand) (d : Data)
    (line : List ℕ) : Type 0 where
  pub first : IsFirstConsistent problem (users_of s) (choices_in s) s.list
  pub full : s.level ≡ length s.list
  pub settled : IsSettled library (set_of s.worldview) d
  pub rests : line ≡ []

-- The budget of steps is used up, and one more step may be taken. The budget is less than what all
-- choice lists may take together.
pub record HasUsed {O : Type 0} (problem : Problem) (budget steps : ℕ) (w : Work O) : Type 0 where
  pub spent : steps ≡ budget
  pub earned : budget + 1 < lists_count (choices_in w.search) * (most_steps problem + 1)
  pub left : MayGoOn w

-- nothing waits, no cell is believed to hold a contradiction, no noted nogood is believed, and a
-- side of each choice is believed
pub record IsResting (old : Stand) (start : Data) (line : List ℕ) : Type 0 where
  pub full : old.level ≡ length old.list
  pub idle : line ≡ []
  pub free : IsFree (set_of old.worldview) start
  pub unblocked : has_part old.listed (set_of old.worldview) ≡ false
