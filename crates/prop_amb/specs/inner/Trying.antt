-- What comes of trying one choice list: the sides of its choices are believed one after the other.
use Rattle.std.specs.Prelude.{◌≡◌, ℕ, ◌+◌, ◌<◌, ◌≤◌, IsTrue, List, [], length}
use Rattle.prop_numbers.specs.Sets.{Members, set_of}
use Rattle.prop_procedures.specs.Stored.{Stored}
use Rattle.prop_contents.specs.Contents.{beliefs}
use Rattle.prop_cells.specs.Data.{Data, problem_of}
use Rattle.prop_nogoods.specs.Stores.{has_part}
use Rattle.prop_scheduler.specs.declared.outcome.Run.{Run}
use Rattle.prop_scheduler.specs.declared.outcome.Run.TheVariants.{Quiet, Spent}
use Rattle.prop_scheduler.specs.Turns.{IsUnderWay, IsSettled}
use Rattle.prop_scheduler.specs.Potential.{potential, most_steps}
use Rattle.prop_amb.specs.Search.{Stand, IsStand, IsSearch}
use Rattle.prop_amb.specs.Going.{work, MayCall, Goes}
use Rattle.prop_amb.specs.Settling.{IsResting}

-- What came of trying the choice list on which the search stands: how that ended, after so many
-- calls, what is kept, and where the network is then.
pub record Attempted {O : Type 0} (picks : O → ℕ → ℕ → O → Type 0) (library : List Stored)
    (s : Stand) (d : Data) (waiting : List ℕ) (order : O) (budget : ℕ) (tried : Run) (calls : ℕ)
    (new : Stand) (cells : Data) (after : List ℕ) (next : O) : Type 0 where
  pub only : new ≡ record s { level = new.level; listed = new.listed; worldview = new.worldview }
  pub kept : (m : Members) → IsTrue (has_part s.listed m) → IsTrue (has_part new.listed m)
  pub search : IsSearch (problem_of library d) new
  pub stand : IsStand new
  pub rest : cells ≡ record d { contents = cells.contents }
  pub under_way : IsUnderWay library (set_of new.worldview) cells after
  pub gone : Goes picks library (work s d waiting order) calls (work new cells after next)
  pub quiet : tried ≡ Quiet → IsSettled library (set_of new.worldview) cells
  pub full : tried ≡ Quiet → new.level ≡ length new.list
  pub rests : tried ≡ Quiet → after ≡ []
  pub spent : tried ≡ Spent → calls ≡ budget
  pub leaves : tried ≡ Spent → MayCall (work new cells after next)
  pub earned : tried ≡ Spent → calls < most_steps (problem_of library d)
  pub steps : calls ≤ budget
  pub at_rest : IsResting s d waiting → (tried ≡ Quiet) × (calls ≡ 0)
  pub falls : potential (problem_of library d) (beliefs (set_of new.worldview) cells.contents)
      after + calls ≤ potential (problem_of library d) (beliefs (set_of s.worldview) d.contents)
      waiting
  pub few : calls ≤ most_steps (problem_of library d)
