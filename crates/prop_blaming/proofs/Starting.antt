-- How a session with a blamer around it begins.
use Rattle.std.proofs.Common.{◌≡◌, ℕ, List, Result, Ok, Err, None, sym, subst}
use Rattle.prop_procedures.specs.Stored.{Stored}
use Rattle.prop_engine.specs.declared.outcome.Counts.{Counts}
use Rattle.prop_engine.specs.Calls.{Call}
use Rattle.prop_workbench.specs.Engine.{Standing, new_standing}
use Rattle.prop_workbench.specs.Questions.{Picks}
use Rattle.prop_program.specs.Answering.{Serves}
use Rattle.prop_program.specs.Faults.{IsMemory}
use Rattle.prop_program.specs.declared.chosen.Pick.{Pick}
use Rattle.prop_program.specs.declared.chosen.Pick.TheVariants.{Fifo, Lifo, Mixed}
use Rattle.prop_program.specs.declared.fault.Fault.{Fault}
use Rattle.prop_program.proofs.Starts.{nothing_served}
use Rattle.prop_notes.specs.Notes.{no_notes}
use Rattle.prop_telling.specs.Telling.{Told}
use Rattle.prop_seeking.specs.Seeking.{Sought, new_sought}
use Rattle.prop_blaming.specs.Answering.{IsBlamed}
use Rattle.prop_blaming.specs.Blaming.{blaming}

-- before anything was asked
nothing_blamed : {D : Type 0} (may : D → Call → D → Type 0) (d : D) (library : List Stored) (lines : List (List ℕ))
    (pick : Pick) (seed limit : ℕ) (fault : Fault) → IsMemory fault
    → IsBlamed library lines pick seed limit may d d (Err fault)
nothing_blamed may d library lines Fifo seed limit fault h = nothing_served may d _ _ lines fault h
nothing_blamed may d library lines Lifo seed limit fault h = nothing_served may d _ _ lines fault h
nothing_blamed may d library lines Mixed seed limit fault h = nothing_served may d _ _ lines fault h

pub blamed_by_fault : {D : Type 0} (may : D → Call → D → Type 0) (d : D) (library : List Stored)
    (lines : List (List ℕ)) (pick : Pick) (seed limit : ℕ) (result : Result Counts Fault) (fault : Fault)
    → result ≡ Err fault → IsMemory fault → IsBlamed library lines pick seed limit may d d result
blamed_by_fault may d library lines pick seed limit result fault e h =
    subst (λ (r : Result Counts Fault). IsBlamed library lines pick seed limit may d d r) (sym e)
    (nothing_blamed may d library lines pick seed limit fault h)

-- where a blamer of such a session stands, which was told and asked nothing
abbrev noting : {O : Type 0} → Standing O → Sought O
noting begun = record { told = record { standing = begun; notes = no_notes }; inquiry = None }

-- a session with this library, from where a new one stands
pub blamed_by : {D O : Type 0} (may : D → Call → D → Type 0) (from to : D) (picks : Picks O) (order : O)
    (library known : List Stored) (begun : Standing O) (prelude : List (List ℕ)) (limit : ℕ) (result : Result Counts
    Fault)
    → library ≡ known → begun ≡ new_standing limit order
    → Serves may from to (blaming picks library) (noting begun) prelude result
    → Serves may from to (blaming picks known) (new_sought limit order) prelude result
blamed_by may from to picks order library known begun prelude limit result same new h =
    subst (λ (P : Type 0). P) (λ i. Serves may from to (blaming picks (same i)) (noting (new i)) prelude result) h

-- a blamer of a session serves as it does
pub blamer_serves : {D O : Type 0} (may : D → Call → D → Type 0) (from to : D) (picks : Picks O)
    (library known : List Stored) (sought begun : Sought O) (prelude : List (List ℕ)) (result : Result Counts Fault)
    → library ≡ known → sought ≡ begun → Serves may from to (blaming picks library) sought prelude result
    → Serves may from to (blaming picks known) begun prelude result
blamer_serves may from to picks library known told begun prelude result same stands h =
    subst (λ (P : Type 0). P) (λ i. Serves may from to (blaming picks (same i)) (stands i) prelude result) h
