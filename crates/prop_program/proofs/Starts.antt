-- How a session begins.
use Rattle.std.proofs.Common.{◌≡◌, ℕ, ◌^◌, List, [], ◌∷◌, refl, subst, sym, false}
use Rattle.std.proofs.lemmas.List.Elements.{All-nil}
use Rattle.std.specs.Prelude.{Result, Ok, Err}
use Rattle.std.specs.List.{list_any}
use Rattle.prop_procedures.specs.Stored.{Stored}
use Rattle.prop_engine.specs.declared.outcome.Counts.{Counts}
use Rattle.prop_engine.specs.declared.outcome.EngineFault.{EngineFault}
use Rattle.prop_engine.specs.Answers.{Answer, is_refusal}
use Rattle.prop_engine.specs.Calls.{Call}
use Rattle.prop_engine.specs.Dialogues.{Speaks}
use Rattle.prop_engine.specs.Transcripts.{Machine, Run}
use Rattle.prop_workbench.specs.Machine.{new_state}
use Rattle.prop_workbench.specs.inner.Machine.{naming}
use Rattle.prop_workbench.specs.Steps.{new_shown}
use Rattle.prop_workbench.specs.Loading.{Loads}
use Rattle.prop_workbench.specs.Engine.{Standing, new_standing, workbench, learning, working}
use Rattle.prop_workbench.specs.Questions.{Picks}
use Rattle.prop_workbench.proofs.WorkLemmas.{works_shows}
use Rattle.prop_engine.proofs.Simulating.{run_seen, dialogue_seen}
use Rattle.prop_scheduler.specs.Orders.{picks_first, picks_last, picks_mixed}
use Rattle.prop_workbench.proofs.NamedLaws.{run_named, dialogue_named}
use Rattle.prop_program.specs.declared.fault.Fault.{Fault}
use Rattle.prop_program.specs.declared.fault.Fault.TheVariants.{Engine, Memory}
use Rattle.prop_program.specs.declared.chosen.Pick.{Pick}
use Rattle.prop_program.specs.declared.chosen.Pick.TheVariants.{Fifo, Lifo, Mixed}
use Rattle.prop_program.specs.Answering.{LoadsAndSpeaks, Serves, IsWorked}
use Rattle.prop_program.specs.Faults.{IsMemory}

-- lines that were loaded were run, and none of them was refused
pub loads_run : {S : Type 0} (machine : Machine S) (old new : S) (lines : List (List ℕ)) → Loads machine old lines new
    → (answers : List Answer) × Run machine old lines answers new × (list_any is_refusal answers ≡ false)
loads_run machine old new [] same = ([], same, refl)
loads_run machine old new (line ∷ lines) (answer, mid, free, one, loads) =
    let rest = loads_run machine mid new lines loads in
    (answer ∷ rest.0, (mid, one, rest.1), rw (free, rest.2) refl)

module _ {D : Type 0} (may : D → Call → D → Type 0) (from to : D) where
  -- a session that loaded the prelude
  pub spoken_after : {S : Type 0} (machine : Machine S) (begun first last : S) (prelude : List (List ℕ))
      (end : Result Counts EngineFault) → Loads machine begun prelude first
      → Speaks may from to machine (2 ^ 32) first end last
      → LoadsAndSpeaks may from to machine begun prelude end
  spoken_after machine begun first last prelude end loads speaks =
      let before = loads_run machine begun first prelude loads in
      (before.0, first, last, before.1, before.2, speaks)

  -- ---- a session as the machine, which knows nothing of its work

  module _ {O : Type 0} (picks : Picks O) (order : O) (library : List Stored) (prelude : List (List ℕ))
      (limit : ℕ) where
    spoken_by_work : (end : Result Counts EngineFault)
        → LoadsAndSpeaks may from to (working picks library) (new_standing limit order) prelude end
        → LoadsAndSpeaks may from to (workbench library) (new_state limit) prelude end
    spoken_by_work end (loaded, first, last, run, free, (calls, leads, d)) =
        let seen = run_seen (working picks library) (learning library) (λ (s : Standing O). s.shown)
        (works_shows picks library) (new_standing limit order) first prelude loaded run in
        let named = run_named library (new_shown limit) first.shown prelude loaded seen [] (All-nil _) in
        let shown = dialogue_seen (working picks library) (learning library) (λ (s : Standing O). s.shown)
        (works_shows picks library) (2 ^ 32) first end calls last d in
        let now = dialogue_named library (2 ^ 32) first.shown end calls last.shown shown named.0 named.1 in (
          loaded,
          naming first.shown.state named.0,
          naming last.shown.state now.0,
          named.2,
          free,
          (calls, leads, now.1),
        )

    served_by_work : (result : Result Counts Fault)
        → Serves may from to (working picks library) (new_standing limit order) prelude result
        → Serves may from to (workbench library) (new_state limit) prelude result
    served_by_work (Ok counts) h = spoken_by_work (Ok counts) h
    served_by_work (Err (Engine fault)) h = spoken_by_work (Err fault) h
    served_by_work (Err (Memory e)) h = h

  -- what is known of it in the order that was chosen
  pub worked_answered : (pick : Pick) (seed : ℕ) (library : List Stored) (prelude : List (List ℕ)) (limit : ℕ)
      (result : Result Counts Fault) → IsWorked pick seed library prelude limit may from to result
      → Serves may from to (workbench library) (new_state limit) prelude result
  worked_answered Fifo seed library prelude limit result h =
      served_by_work picks_first (record {}) library prelude limit result h
  worked_answered Lifo seed library prelude limit result h =
      served_by_work picks_last (record {}) library prelude limit result h
  worked_answered Mixed seed library prelude limit result h =
      served_by_work picks_mixed (record { number = seed }) library prelude limit result h

  -- a session with this library, from where a new one stands
  pub worked_by : {O : Type 0} (picks : Picks O) (order : O) (library known : List Stored) (prelude : List (List ℕ))
      (begun : Standing O) (limit : ℕ) (result : Result Counts Fault) → library ≡ known
      → begun ≡ new_standing limit order
      → Serves may from to (working picks library) begun prelude result
      → Serves may from to (working picks known) (new_standing limit order) prelude result
  worked_by picks order library known prelude begun limit result same new h =
      subst (λ (P : Type 0). P) (λ i. Serves may from to (working picks (same i)) (new i) prelude result) h

-- where memory was refused first
pub nothing_served : {D S : Type 0} (may : D → Call → D → Type 0) (d : D) (machine : Machine S) (begun : S)
    (prelude : List (List ℕ)) (fault : Fault) → IsMemory fault → Serves may d d machine begun prelude (Err fault)
nothing_served may d machine begun prelude (Engine fault) h = absurd h
nothing_served may d machine begun prelude (Memory e) h = refl

pub nothing_worked : {D : Type 0} (may : D → Call → D → Type 0) (d : D) (pick : Pick) (seed : ℕ) (library : List Stored)
    (prelude : List (List ℕ)) (limit : ℕ) (fault : Fault) → IsMemory fault
    → IsWorked pick seed library prelude limit may d d (Err fault)
nothing_worked may d Fifo seed library prelude limit fault h = nothing_served may d _ _ prelude fault h
nothing_worked may d Lifo seed library prelude limit fault h = nothing_served may d _ _ prelude fault h
nothing_worked may d Mixed seed library prelude limit fault h = nothing_served may d _ _ prelude fault h

-- the same of a result that is a fault
pub served_by_fault : {D S : Type 0} (may : D → Call → D → Type 0) (d : D) (machine : Machine S) (begun : S)
    (prelude : List (List ℕ)) (result : Result Counts Fault) (fault : Fault) → result ≡ Err fault → IsMemory fault
    → Serves may d d machine begun prelude result
served_by_fault may d machine begun prelude result fault e h =
    subst (λ (r : Result Counts Fault). Serves may d d machine begun prelude r) (sym e)
    (nothing_served may d machine begun prelude fault h)

pub worked_by_fault : {D : Type 0} (may : D → Call → D
    → Type 0) (d : D) (pick : Pick) (seed : ℕ) (library : List Stored)
    (prelude : List (List ℕ)) (limit : ℕ) (result : Result Counts Fault) (fault : Fault) → result ≡ Err fault
    → IsMemory fault → IsWorked pick seed library prelude limit may d d result
worked_by_fault may d pick seed library prelude limit result fault e h =
    subst (λ (r : Result Counts Fault). IsWorked pick seed library prelude limit may d d r) (sym e)
    (nothing_worked may d pick seed library prelude limit fault h)
