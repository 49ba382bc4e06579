-- The lists that are tried one after the other: what is known on the way, and what is known of each once it was tried.
use Rattle.std.proofs.Common.{◌≡◌, ℕ, ◌+◌, ◌*◌, ◌<◌, ◌≤◌, ◌⊎◌, IsTrue, false, List, [], length}
use Rattle.prop_numbers.specs.Sets.{Members, set_of}
use Rattle.prop_premises.specs.ChoiceLists.{place_of}
use Rattle.prop_procedures.specs.Stored.{Stored}
use Rattle.prop_contents.specs.Contents.{beliefs}
use Rattle.prop_cells.specs.Data.{Data, IsFree, problem_of}
use Rattle.prop_nogoods.specs.Stores.{has_part}
use Rattle.prop_scheduler.specs.Turns.{IsUnderWay, IsSettled}
use Rattle.prop_scheduler.specs.Potential.{potential, most_steps}
use Rattle.prop_amb.specs.Search.{Stand, IsStand, IsSearch, choices_in}
use Rattle.prop_amb.specs.Going.{work, MayCall, Goes}
use Rattle.prop_amb.specs.Settling.{IsResting}
use Rattle.prop_scheduler.specs.declared.outcome.Run.{Run}
use Rattle.prop_scheduler.specs.declared.outcome.Run.TheVariants.{Quiet, Spent}

-- nothing has happened yet
pub record IsStart (old s : Stand) (start d : Data) (line waiting : List ℕ) (steps : ℕ) : Type 0 where
  pub stand : s ≡ old
  pub cells : d ≡ start
  pub waits : waiting ≡ line
  pub none : steps ≡ 0

-- a list is to be tried: the first, or a later one
pub record OnWay {O : Type 0} (picks : O → ℕ → ℕ → O → Type 0) (library : List Stored) (old : Stand) (start : Data)
    (line : List ℕ) (first : O) (s : Stand) (d : Data) (waiting : List ℕ) (order : O) (steps : ℕ) : Type 0 where
  pub premises : s.premises ≡ old.premises
  pub listed : (m : Members) → IsTrue (has_part old.listed m) → IsTrue (has_part s.listed m)
  pub search : IsSearch (problem_of library start) s
  pub rest : d ≡ record start { contents = d.contents }
  pub under_way : IsUnderWay library (set_of s.worldview) d waiting
  pub gone : Goes picks library (work old start line first) steps (work s d waiting order)
  pub further : ℕ
  pub place : place_of (choices_in old) s.list ≡ place_of (choices_in old) old.list + further
  pub few : steps ≤ further * (most_steps (problem_of library start) + 1)
  pub since : IsStart old s start d line waiting steps ⊎ ((1 ≤ further) × (IsResting old start line → ⊥))

-- what came of one list at a level
pub record AtLevel {O : Type 0} (picks : O → ℕ → ℕ → O → Type 0) (library : List Stored) (s : Stand) (d : Data)
    (waiting : List ℕ) (order : O) (budget : ℕ) (tried : Run) (calls : ℕ) (new : Stand) (cells : Data)
    (after : List ℕ) (next : O) : Type 0 where
  pub only : new ≡ record s { listed = new.listed }
  pub kept : (m : Members) → IsTrue (has_part s.listed m) → IsTrue (has_part new.listed m)
  pub search : IsSearch (problem_of library d) new
  pub stand : IsStand new
  pub rest : cells ≡ record d { contents = cells.contents }
  pub under_way : IsUnderWay library (set_of s.worldview) cells after
  pub gone : Goes picks library (work s d waiting order) calls (work new cells after next)
  pub quiet : tried ≡ Quiet → IsSettled library (set_of s.worldview) cells
  pub rests : tried ≡ Quiet → after ≡ []
  pub unblocked : tried ≡ Quiet → has_part new.listed (set_of s.worldview) ≡ false
  pub spent : tried ≡ Spent → calls ≡ budget
  pub leaves : tried ≡ Spent → MayCall (work new cells after next)
  pub earned : tried ≡ Spent → calls < most_steps (problem_of library d)
  pub steps : calls ≤ budget
  pub at_rest : waiting ≡ [] → s.level ≡ length s.list → IsFree (set_of s.worldview) d
      → has_part s.listed (set_of s.worldview) ≡ false → (tried ≡ Quiet) × (calls ≡ 0)
  pub falls : potential (problem_of library d) (beliefs (set_of s.worldview) cells.contents) after + calls ≤ potential
      (problem_of library d) (beliefs (set_of s.worldview) d.contents) waiting
  pub few : calls ≤ most_steps (problem_of library d)
  pub most : (calls ≡ 0) ⊎ (potential (problem_of library d) (beliefs (set_of s.worldview) d.contents)
      waiting ≤ most_steps (problem_of library d))

-- one list is being tried at one level after the other, and has taken so many steps
pub record Deepening {O : Type 0} (picks : O → ℕ → ℕ → O → Type 0) (library : List Stored) (s : Stand) (d : Data)
    (waiting : List ℕ) (order : O) (t : Stand) (cells : Data) (after : List ℕ) (next : O) (steps : ℕ) : Type 0 where
  pub only : t ≡ record s { level = t.level; listed = t.listed; worldview = t.worldview }
  pub kept : (m : Members) → IsTrue (has_part s.listed m) → IsTrue (has_part t.listed m)
  pub search : IsSearch (problem_of library d) t
  pub rest : cells ≡ record d { contents = cells.contents }
  pub under_way : IsUnderWay library (set_of t.worldview) cells after
  pub gone : Goes picks library (work s d waiting order) steps (work t cells after next)
  pub falls : potential (problem_of library d) (beliefs (set_of t.worldview) cells.contents) after + steps ≤ potential
      (problem_of library d) (beliefs (set_of s.worldview) d.contents) waiting
  pub most : (steps ≡ 0) ⊎ (potential (problem_of library d) (beliefs (set_of t.worldview) cells.contents)
      after + steps ≤ most_steps (problem_of library d))
  pub since : IsStart s t d cells waiting after steps ⊎ (s.level < length s.list)

-- a list was tried, after so many steps of the budget
pub record OnTry {O : Type 0} (picks : O → ℕ → ℕ → O → Type 0) (library : List Stored) (old : Stand) (start : Data)
    (line : List ℕ) (first : O) (s : Stand) (d : Data) (waiting : List ℕ) (order : O) (steps budget : ℕ) (tried : Run)
    : Type 0 where
  pub premises : s.premises ≡ old.premises
  pub listed : (m : Members) → IsTrue (has_part old.listed m) → IsTrue (has_part s.listed m)
  pub search : IsSearch (problem_of library start) s
  pub stand : IsStand s
  pub rest : d ≡ record start { contents = d.contents }
  pub under_way : IsUnderWay library (set_of s.worldview) d waiting
  pub gone : Goes picks library (work old start line first) steps (work s d waiting order)
  pub further : ℕ
  pub place : place_of (choices_in old) s.list ≡ place_of (choices_in old) old.list + further
  pub few : steps < (further + 1) * (most_steps (problem_of library start) + 1)
  pub quiet : tried ≡ Quiet → IsSettled library (set_of s.worldview) d
  pub full : tried ≡ Quiet → s.level ≡ length s.list
  pub rests : tried ≡ Quiet → waiting ≡ []
  pub spent : tried ≡ Spent → steps ≡ budget
  pub leaves : tried ≡ Spent → MayCall (work s d waiting order)
  pub earned : tried ≡ Spent → budget + 1 < (further + 1) * (most_steps (problem_of library start) + 1)
  pub within : steps ≤ budget
  pub at_rest : IsResting old start line → (tried ≡ Quiet) × (steps ≡ 0)
  pub falls : s.list ≡ old.list → potential (problem_of library start) (beliefs (set_of s.worldview) d.contents)
      waiting + steps ≤ potential (problem_of library start) (beliefs (set_of old.worldview) start.contents) line
