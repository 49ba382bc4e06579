-- How a session with a requirer around it begins.
use Rattle.std.proofs.Common.{◌≡◌, ℕ, List, Result, Err, None, sym, subst}
use Rattle.prop_procedures.specs.Stored.{Stored}
use Rattle.prop_engine.specs.declared.outcome.Counts.{Counts}
use Rattle.prop_engine.specs.Calls.{Call}
use Rattle.prop_workbench.specs.Engine.{Standing, new_standing}
use Rattle.prop_workbench.specs.Questions.{Picks}
use Rattle.prop_program.specs.Answering.{Serves}
use Rattle.prop_program.specs.Faults.{IsMemory}
use Rattle.prop_program.specs.declared.chosen.Pick.{Pick}
use Rattle.prop_program.specs.declared.chosen.Pick.TheVariants.{Fifo, Lifo, Mixed}
use Rattle.prop_program.specs.declared.fault.Fault.{Fault}
use Rattle.prop_program.proofs.Starts.{nothing_served}
use Rattle.prop_notes.specs.Notes.{no_notes}
use Rattle.prop_seeking.specs.Seeking.{Sought, new_sought}
use Rattle.prop_requiring.specs.Answering.{IsRequired}
use Rattle.prop_requiring.specs.Requiring.{requiring}

-- before anything was asked
nothing_required : {D : Type 0} (may : D → Call → D → Type 0) (d : D) (library : List Stored) (lines : List (List ℕ))
    (pick : Pick) (seed limit : ℕ) (fault : Fault) → IsMemory fault
    → IsRequired library lines pick seed limit may d d (Err fault)
nothing_required may d library lines Fifo seed limit fault h = nothing_served may d _ _ lines fault h
nothing_required may d library lines Lifo seed limit fault h = nothing_served may d _ _ lines fault h
nothing_required may d library lines Mixed seed limit fault h = nothing_served may d _ _ lines fault h

pub required_by_fault : {D : Type 0} (may : D → Call → D → Type 0) (d : D) (library : List Stored)
    (lines : List (List ℕ)) (pick : Pick) (seed limit : ℕ) (result : Result Counts Fault) (fault : Fault)
    → result ≡ Err fault → IsMemory fault → IsRequired library lines pick seed limit may d d result
required_by_fault may d library lines pick seed limit result fault e h =
    subst (λ (r : Result Counts Fault). IsRequired library lines pick seed limit may d d r) (sym e)
    (nothing_required may d library lines pick seed limit fault h)

-- where a requirer of such a session stands, which was told and asked nothing
abbrev noting : {O : Type 0} → Standing O → Sought O
noting begun = record { told = record { standing = begun; notes = no_notes }; inquiry = None }

-- a session with this library, from where a new one stands
pub required_by : {D O : Type 0} (may : D → Call → D → Type 0) (from to : D) (picks : Picks O) (order : O)
    (library known : List Stored) (begun : Standing O) (prelude : List (List ℕ)) (limit : ℕ) (result : Result Counts
    Fault)
    → library ≡ known → begun ≡ new_standing limit order
    → Serves may from to (requiring picks library) (noting begun) prelude result
    → Serves may from to (requiring picks known) (new_sought limit order) prelude result
required_by may from to picks order library known begun prelude limit result same new h =
    subst (λ (P : Type 0). P) (λ i. Serves may from to (requiring picks (same i)) (noting (new i)) prelude result) h

-- a requirer of a session serves as it does
pub requirer_serves : {D O : Type 0} (may : D → Call → D → Type 0) (from to : D) (picks : Picks O)
    (library known : List Stored) (sought begun : Sought O) (prelude : List (List ℕ)) (result : Result Counts Fault)
    → library ≡ known → sought ≡ begun → Serves may from to (requiring picks library) sought prelude result
    → Serves may from to (requiring picks known) begun prelude result
requirer_serves may from to picks library known told begun prelude result same stands h =
    subst (λ (P : Type 0). P) (λ i. Serves may from to (requiring picks (same i)) (stands i) prelude result) h
