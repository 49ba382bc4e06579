-- One step of settling, as it is told: a call, a move, that the search has settled, or a
-- contradiction.
use Rattle.std.specs.Prelude.{◌≡◌, ◌<◌, ◌⊎◌, ℕ, ◌+◌, List, All, length}
use Rattle.prop_numbers.specs.Sets.{set_of}
use Rattle.prop_premises.specs.ChoiceLists.{hypothetical}
use Rattle.prop_procedures.specs.Stored.{Stored}
use Rattle.prop_cells.specs.Problems.{Problem}
use Rattle.prop_scheduler.specs.Shifts.{AreShifted}
use Rattle.prop_scheduler.specs.Turns.{CallsNext}
use Rattle.prop_amb.specs.Search.{Stand, users_of, choices_in, believed_with}
use Rattle.prop_amb.specs.Moving.{advanced, reasons_advanced, passed_over}
use Rattle.prop_amb.specs.Culprits.{MayMove, AreCulprits, IsBlamed}
use Rattle.prop_amb.specs.Refuted.{IsRuledOut}
use Rattle.prop_amb.specs.Settling.{HasSettled}
use Rattle.prop_amb.specs.Going.{Work, MayCall, MaySkip, MayBelieve, Goes}
use Rattle.prop_amb.specs.declared.stepping.Move.{Move}
use Rattle.prop_amb.specs.declared.stepping.Step.{Step}
use Rattle.prop_amb.specs.declared.stepping.Step.TheVariants.{Called, Moved, Settled, Contradiction}

-- A choice went to its next side, for a noted nogood that is believed, and the later ones to their
-- first. What is told of the move is the choice's place, the side that it left, the reason that is
-- kept against that side, and what was believed before.
pub record HasMoved (s later : Stand) (m : Move) : Type 0 where
  pub may : MayMove s m.place
  pub side_is : m.side ≡ hypothetical may.leaves.may.choice may.leaves.may.side
  pub culprits : AreCulprits s may.nogood (set_of m.nogood)
  pub known : All (λ p. p < length s.premises) m.nogood
  pub later_is : later ≡ record s {
    list = advanced s.list m.place;
    level = m.place + 1;
    reasons = reasons_advanced s.reasons m.place m.nogood;
    worldview = later.worldview;
  }
  pub before_is : m.before ≡ s.worldview

-- The first choice of which no side is believed skipped the side on which it stood. What is told is
-- its place, that side, the noted nogood that would be believed with it, and what was believed
-- before. The next side is believed unless it may be skipped too.
pub record HasSkipped (s later : Stand) (m : Move) : Type 0 where
  pub may : MaySkip s m.nogood
  pub place_is : m.place ≡ s.level
  pub side_is : m.side ≡ hypothetical may.may.choice may.may.side
  pub known : All (λ p. p < length s.premises) m.nogood
  pub later_is : MayBelieve (passed_over s m.nogood) later
  pub before_is : m.before ≡ s.worldview

-- a choice went on, by a move or a skip
abbrev pub HasPassed : Stand → Stand → Move → Type 0
HasPassed s later m = HasMoved s later m ⊎ HasSkipped s later m

-- The step that is told leads from the first work to the second. Where it tells that the search has
-- settled, or of a contradiction, no step is left and both are one.
abbrev pub IsStepTo : {O : Type 0} → (O → ℕ → ℕ → O → Type 0) → List Stored → Problem → Work O
    → Step → Work O → Type 0
IsStepTo picks library problem w (Called i) v =
    MayCall w × (v.search ≡ w.search)
    × CallsNext picks library (believed_with w.search) i w.cells w.line w.order v.cells v.line
    v.order
IsStepTo picks library problem w (Moved m) v =
    HasPassed w.search v.search m × (v.cells ≡ w.cells) × (v.order ≡ w.order)
    × AreShifted (believed_with w.search) (believed_with v.search) w.cells (length w.cells.kinds)
    w.line v.line
IsStepTo picks library problem w Settled v =
    (v ≡ w) × HasSettled library problem w.search w.cells w.line
IsStepTo picks library problem w (Contradiction n) v =
    (v ≡ w)
    × IsRuledOut problem (users_of w.search) (choices_in w.search) w.search.listed (set_of n)
    × IsBlamed w.search (set_of n)

-- what takes no step is done first, such as noting a clash, and then the step that is told
pub record Steps {O : Type 0} (picks : O → ℕ → ℕ → O → Type 0) (library : List Stored)
    (problem : Problem) (old : Work O) (step : Step) (new : Work O) : Type 0 where
  pub ready : Work O
  pub readied : Goes picks library old 0 ready
  pub taken : IsStepTo picks library problem ready step new
