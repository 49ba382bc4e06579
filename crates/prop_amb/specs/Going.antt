-- What settling does, step by step. It calls waiting instances in the worldview of the choice list
-- on which the search stands, and where a nogood is believed there, or would be with one more side,
-- a choice goes on to its next side.
use Rattle.std.specs.Prelude.{◌≡◌, ℕ, ◌+◌, ◌<◌, ◌⊎◌, false, List, [], length, Contains}
use Rattle.prop_numbers.specs.Sets.{set_of, IsPart}
use Rattle.prop_procedures.specs.Stored.{Stored}
use Rattle.prop_cells.specs.Data.{Data, IsFree, IsClash}
use Rattle.prop_nogoods.specs.Stores.{has_part, AddsSet}
use Rattle.prop_scheduler.specs.Live.{cells_of, line_of}
use Rattle.prop_scheduler.specs.declared.live.Live.{Live}
use Rattle.prop_scheduler.specs.Turns.{Turn}
use Rattle.prop_scheduler.specs.Shifts.{AreShifted, AreGrown}
use Rattle.prop_amb.specs.Search.{Stand, believed_with}
use Rattle.prop_amb.specs.Moving.{advanced, reasons_advanced, deepened, passed_over}
use Rattle.prop_amb.specs.Resolving.{MayAdvance}
use Rattle.prop_amb.specs.Culprits.{MayMove, AreCulprits}

-- a search, the cells with what they hold, the instances that wait, and the state of the order that
-- picks the next one
pub record Work (O : Type 0) : Type 0 where
  pub search : Stand
  pub cells : Data
  pub line : List ℕ
  pub order : O

abbrev pub work : {O : Type 0} → Stand → Data → List ℕ → O → Work O
work s d line order = record { search = s; cells = d; line = line; order = order }

-- the same over a network under way, with its cells and the instances that wait in it
abbrev pub work_on : {R : Type 0} {X : Type 0} {F : X → Type 0} {g : _} {O : Type 0} → Stand
    → Live R X F g → O → Work O
work_on s live order = work s (cells_of live) (line_of live) order

-- an instance waits, no noted nogood is believed, and no cell is believed to hold a contradiction
pub record MayCall {O : Type 0} (w : Work O) : Type 0 where
  pub waits : 0 < length w.line
  pub unblocked : has_part w.search.listed (believed_with w.search) ≡ false
  pub free : IsFree (believed_with w.search) w.cells

-- nothing waits, no noted nogood is believed, no cell is believed to hold a contradiction, and
-- there is a choice of which no side is believed
pub record MayDeepen {O : Type 0} (w : Work O) : Type 0 where
  pub idle : w.line ≡ []
  pub unblocked : has_part w.search.listed (believed_with w.search) ≡ false
  pub free : IsFree (believed_with w.search) w.cells
  pub left : w.search.level < length w.search.list

-- The first choice of which no side is believed may skip the side on which it stands: the side
-- isn't its last, and with it this noted nogood would be believed.
pub record MaySkip (s : Stand) (nogood : List ℕ) : Type 0 where
  pub noted : Contains s.listed nogood
  pub believed : IsPart (set_of nogood) (believed_with (deepened s))
  pub may : MayAdvance s s.level

-- a choice may go on: for a noted nogood that is believed, or for one that would be believed with
-- one more side
abbrev pub MayPass : Stand → Type 0
MayPass s = ((j : ℕ) × MayMove s j) ⊎ ((nogood : List ℕ) × MaySkip s nogood)

-- one more step may be taken: a call, a move of a choice, or a skip
abbrev pub MayGoOn : {O : Type 0} → Work O → Type 0
MayGoOn w = MayCall w ⊎ MayPass w.search

-- What follows a skip. If the first choice of which no side is believed may skip its side too,
-- nothing changes. Otherwise the side on which it stands is believed.
abbrev pub MayBelieve : Stand → Stand → Type 0
MayBelieve s later =
    (((n : List ℕ) × MaySkip s n) × (later ≡ s))
    ⊎ (((n : List ℕ) → MaySkip s n → ⊥)
    × (later ≡ record (deepened s) { worldview = later.worldview }))

-- The choices went on by so many moves. By a move (`next`) a choice that may leave its side goes to
-- its next side, and keeps a reason against the one that it left, all of whose premises are
-- culprits. The later choices go to their first sides, and of these none is believed. By a skip
-- (`skipped`) the first choice of which no side is believed goes to its next side, for a noted
-- nogood that would be believed with the one that it left. The next side is believed unless it may
-- be skipped too.
pub data Passes (old : Stand) : ℕ → Stand → Type 0 where
  none : Passes old 0 old
  next : (n j : ℕ) (s later : Stand) (reason : List ℕ) → Passes old n s →
      (may : MayMove s j) → AreCulprits s may.nogood (set_of reason) →
      later ≡ record s {
        list = advanced s.list j;
        level = j + 1;
        reasons = reasons_advanced s.reasons j reason;
        worldview = later.worldview;
      } → Passes old (n + 1) later
  skipped : (n : ℕ) (s later : Stand) (nogood : List ℕ) → Passes old n s → MaySkip s nogood →
      MayBelieve (passed_over s nogood) later → Passes old (n + 1) later

-- The second work is reached from the first by so many steps. A step is a call of the waiting
-- instance at the place that the order picks, or a move of a choice; there may be several moves
-- between two calls. After moves the readers and the writers of the cells that shift wait too. Two
-- things take no step. A clash is noted as a nogood. And where nothing waits, the side of one more
-- choice is believed, and the readers of the cells that shift wait.
pub data Goes {O : Type 0} (picks : O → ℕ → ℕ → O → Type 0) (library : List Stored) (start : Work O)
    :
    ℕ → Work O → Type 0 where
  none : Goes picks library start 0 start
  called : (n place : ℕ) (w : Work O) (d : Data) (line : List ℕ) (next : O) →
      Goes picks library start n w → MayCall w → picks w.order (length w.line) place next →
      Turn library (believed_with w.search) place w.cells d w.line line →
      Goes picks library start (n + 1) (record w { cells = d; line = line; order = next })
  noted : (n : ℕ) (w : Work O) (nogood : List ℕ) (more : List (List ℕ)) →
      Goes picks library start n w → IsClash (believed_with w.search) w.cells nogood →
      AddsSet w.search.listed more nogood →
      Goes picks library start n (record w { search = record w.search { listed = more } })
  moved : (n moves : ℕ) (w : Work O) (later : Stand) (line : List ℕ) →
      Goes picks library start n w → Passes w.search moves later →
      AreShifted (believed_with w.search) (believed_with later)
      w.cells (length w.cells.kinds) w.line line →
      Goes picks library start (n + moves) (record w { search = later; line = line })
  deeper : (n : ℕ) (w : Work O) (later : Stand) (line : List ℕ) →
      Goes picks library start n w → MayDeepen w →
      later ≡ record (deepened w.search) { worldview = later.worldview } →
      AreGrown (believed_with w.search) (believed_with later)
      w.cells (length w.cells.kinds) w.line line →
      Goes picks library start n (record w { search = later; line = line })
