-- What is known of a step that is told, and of a line that may lack memory.
use Rattle.std.specs.Prelude.{◌<◌, ℕ, List, All, length, ⊤}
use Rattle.prop_refusals.specs.declared.refusal.Refusal.TheVariants.{Memory}
use Rattle.prop_procedures.specs.Stored.{Stored}
use Rattle.prop_amb.specs.Going.{Work}
use Rattle.prop_amb.specs.declared.stepping.Step.{Step}
use Rattle.prop_amb.specs.declared.stepping.Step.TheVariants.{Called, Moved, Settled, Contradiction}
use Rattle.prop_language.specs.Reading.{AsRead}
use Rattle.prop_engine.specs.Answers.{Refused}
use Rattle.prop_workbench.specs.Engine.{standing_of}
use Rattle.prop_workbench.specs.Machine.{State}
use Rattle.prop_workbench.specs.Steps.{Follows}
use Rattle.prop_telling.specs.declared.telling.Teller.{Teller}
use Rattle.prop_telling.specs.Telling.{Told}

-- what it names is there
abbrev pub IsNamed : {O : Type 0} → Work O → Step → Type 0
IsNamed w (Called i) = i < length w.cells.instances
IsNamed w (Moved m) = (m.side < length w.search.premises)
    × All (λ p. p < length w.search.premises) m.nogood
IsNamed w Settled = ⊤
IsNamed w (Contradiction n) = All (λ p. p < length w.search.premises) n

-- where a teller stands
abbrev pub told_of : {R O : Type 0} {X : Type 0} {F : X → Type 0} {g : _} → Teller R O X F g
    → Told O
told_of t = record { standing = standing_of t.session; notes = t.notes }

-- the line asks for something, or is refused: memory may be wanting for it
abbrev pub LacksMemory : List ℕ → Type 0
LacksMemory line = AsRead line (λ read. (library : List Stored) (old : State)
    → Follows library old read (Refused Memory) old 0)
