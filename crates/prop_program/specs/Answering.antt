-- What a session of a program does, with its procedures and its prelude.
use Rattle.std.specs.Prelude.{◌≡◌, ℕ, ◌^◌, List, false, Result, Ok, Err}
use Rattle.std.specs.List.{list_any}
use Rattle.prop_procedures.specs.Stored.{Stored}
use Rattle.prop_engine.specs.declared.outcome.Counts.{Counts}
use Rattle.prop_engine.specs.declared.outcome.EngineFault.{EngineFault}
use Rattle.prop_engine.specs.Answers.{Answer, is_refusal}
use Rattle.prop_engine.specs.Calls.{Call}
use Rattle.prop_engine.specs.Dialogues.{Speaks}
use Rattle.prop_engine.specs.Transcripts.{Machine, Run}
use Rattle.prop_scheduler.specs.Orders.{picks_first, picks_last, picks_mixed}
use Rattle.prop_workbench.specs.Engine.{working, new_standing}
use Rattle.prop_workbench.specs.Questions.{Picks}
use Rattle.prop_program.specs.declared.chosen.Pick.{Pick}
use Rattle.prop_program.specs.declared.chosen.Pick.TheVariants.{Fifo, Lifo, Mixed}
use Rattle.prop_program.specs.declared.fault.Fault.{Fault}
use Rattle.prop_program.specs.declared.fault.Fault.TheVariants.{Engine, Memory}

-- First the machine, from where it begins, carries out the lines of the prelude and refuses none.
-- Then a session over it leads the devices from one state to another, by at most 2^32 reads, and
-- ends so.
abbrev pub LoadsAndSpeaks : {D S : Type 0} → (D → Call → D → Type 0) → D → D → Machine S → S
    → List (List ℕ) → Result Counts EngineFault → Type 0
LoadsAndSpeaks {S = S} may from to machine begun prelude end =
    (loaded : List Answer) × (first last : S) × Run machine begun prelude loaded first
    × (list_any is_refusal loaded ≡ false) × Speaks may from to machine (2 ^ 32) first end last

-- How the program served. It loaded its prelude, and a session came to this end, which may be a
-- fault. Or memory was refused before the session, and no device was called.
abbrev pub Serves : {D S : Type 0} → (D → Call → D → Type 0) → D → D → Machine S → S
    → List (List ℕ) → Result Counts Fault → Type 0
Serves may from to machine begun prelude (Ok counts) =
    LoadsAndSpeaks may from to machine begun prelude (Ok counts)
Serves may from to machine begun prelude (Err (Engine fault)) =
    LoadsAndSpeaks may from to machine begun prelude (Err fault)
Serves may from to machine begun prelude (Err (Memory e)) = to ≡ from

-- This holds of the order that was chosen and of where it begins; the order that mixes begins with
-- the seed.
abbrev pub InOrder : Pick → ℕ → ((O : Type 0) → Picks O → O → Type 0) → Type 0
InOrder Fifo seed holds = holds _ picks_first (record {})
InOrder Lifo seed holds = holds _ picks_last (record {})
InOrder Mixed seed holds = holds _ picks_mixed (record { number = seed })

-- A session with these procedures served, in the order that was chosen. Behind each text is a run
-- of just so many steps as were taken.
abbrev pub IsWorked : {D : Type 0} → Pick → ℕ → List Stored → List (List ℕ) → ℕ
    → (D → Call → D → Type 0) → D → D → Result Counts Fault → Type 0
IsWorked order seed library prelude limit may from to result =
    InOrder order seed (λ O picks begun.
    Serves may from to (working picks library) (new_standing limit begun) prelude result)
