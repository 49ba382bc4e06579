-- What a line does with the work of a session, from what is promised of it.
use Rattle.std.proofs.Common.{ℕ, List, [], ◌∷◌, refl, arith}
use Rattle.std.proofs.lemmas.Option.{none-some}
use Rattle.prop_lattice.specs.declared.info.Info.{Info}
use Rattle.prop_procedures.specs.declared.shape.Param.{Param}
use Rattle.prop_procedures.specs.Stored.{Stored}
use Rattle.prop_language.specs.Reading.{AsRead}
use Rattle.prop_engine.specs.Answers.{Answer}
use Rattle.prop_engine.specs.Transcripts.{Run}
use Rattle.prop_workbench.specs.declared.session.Session.{Session}
use Rattle.prop_workbench.specs.Machine.{worldview_at}
use Rattle.prop_workbench.specs.Steps.{IsStepOf}
use Rattle.prop_workbench.specs.Reasons.{IsLeanAnswer}
use Rattle.prop_workbench.specs.Questions.{Picks, Earns}
use Rattle.prop_workbench.specs.Waking.{Wakes}
use Rattle.prop_workbench.specs.Sessions.{state_of, shown_of, work_of, steps_of, library_of, IsSound}
use Rattle.prop_workbench.specs.Engine.{Standing, standing_of, new_standing, WorkFits, Works, Shows, working}
use Rattle.prop_workbench.proofs.StandLemmas.{no_stand_made, no_stand_search}

-- what a sound session shows fits its work
pub sound_fits : {R O : Type 0} {X : Type 0} {F : X → Type 0} {g : _} (value : R → Param → List Info → Info)
    (s : Session R O X F g) → IsSound value s → WorkFits (library_of value s) (standing_of s)
sound_fits value s sound =
    let at_work = sound.in_order.at_work in
    record {
      premises = refl;
      learned = refl;
      kinds = refl;
      statements = refl;
      instances = refl;
      under_way = at_work.under_way;
      stand = at_work.well_made;
      search = at_work.search;
    }

pub works_by : {R O : Type 0} {X : Type 0} {F : X → Type 0} {g : _} (picks : Picks O) (library : List Stored)
    (old new : Session R O X F g) (line : List ℕ) (answer : Answer)
    → IsStepOf library (shown_of old) line answer (shown_of new) (steps_of new) → WorkFits library (standing_of new) →
    AsRead line (λ read. IsLeanAnswer (worldview_at (state_of old) new.search.list) new.live.network.cells (state_of
    old)
    read answer) →
    AsRead line (λ read. Earns picks library (state_of old) (work_of old) (work_of new) read answer (steps_of new))
    → AsRead line (λ read. Wakes (state_of old) (state_of new) (work_of old) (work_of new) read answer) →
    Works picks library (standing_of old) line answer (standing_of new)
works_by picks library old new line answer step fits lean earned wakes =
    record { steps = steps_of new; step = step; fits = λ before. fits; lean = lean; earned = earned; wakes = wakes }

-- what it shows of it
pub works_shows : {O : Type 0} (picks : Picks O) (library : List Stored) (old : Standing O) (line : List ℕ)
    (answer : Answer) (new : Standing O) → Works picks library old line answer new
    → Shows library old.shown line answer new.shown
works_shows picks library old line answer new w = record { steps = w.steps; step = w.step }

-- ---- from a new session on

-- a new session holds nothing
new_fits : {O : Type 0} (library : List Stored) (limit : ℕ) (order : O) → WorkFits library (new_standing limit order)
new_fits library limit order = record {
  premises = refl;
  learned = refl;
  kinds = refl;
  statements = refl;
  instances = refl;
  under_way = record {
    kept = record {
      made = record {
        contents_length = refl;
        within = λ k d l. absurd (omega (arith, l));
        of_kinds = λ cell k d l. absurd (omega (arith, l));
        stated = λ k d l. absurd (omega (arith, l));
      };
      fits = λ k d l. absurd (omega (arith, l));
      founded = λ cell k d l. absurd (omega (arith, l));
    };
    line_below = λ k d l. absurd (omega (arith, l));
    met = record { met = λ j x at idle. absurd (none-some _ at) };
  };
  stand = no_stand_made;
  search = no_stand_search _;
}

-- and each line leaves work that fits
run_fits : {O : Type 0} (picks : Picks O) (library : List Stored) (old new : Standing O) (lines : List (List ℕ))
    (answers : List Answer) → WorkFits library old → Run (working picks library) old lines answers new
    → WorkFits library new
run_fits picks library old new [] [] fits same = rw same fits
run_fits picks library old new [] (answer ∷ answers) fits r = absurd r
run_fits picks library old new (line ∷ lines) [] fits r = absurd r
run_fits picks library old new (line ∷ lines) (answer ∷ answers) fits (mid, works, rest) =
    run_fits picks library mid new lines answers (works.fits fits) rest

pub runs_fit : {O : Type 0} (picks : Picks O) (library : List Stored) (limit : ℕ) (order : O) (lines : List (List ℕ))
    (answers : List Answer) (new : Standing O)
    → Run (working picks library) (new_standing limit order) lines answers new → WorkFits library new
runs_fit picks library limit order lines answers new r =
    run_fits picks library (new_standing limit order) new lines answers (new_fits library limit order) r
