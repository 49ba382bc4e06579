-- What a session of a program with a requirer around it does, with its procedures and its prelude.
use Rattle.std.specs.Prelude.{ℕ, List, Result}
use Rattle.prop_procedures.specs.Stored.{Stored}
use Rattle.prop_engine.specs.declared.outcome.Counts.{Counts}
use Rattle.prop_engine.specs.Calls.{Call}
use Rattle.prop_program.specs.Answering.{Serves, InOrder}
use Rattle.prop_program.specs.declared.chosen.Pick.{Pick}
use Rattle.prop_program.specs.declared.fault.Fault.{Fault}
use Rattle.prop_seeking.specs.Seeking.{new_sought}
use Rattle.prop_requiring.specs.Requiring.{requiring}

-- A session of these procedures with a requirer around it served, in the order that was chosen.
-- These lines are its prelude, and the order that mixes begins with the seed.
abbrev pub IsRequired : {D : Type 0} → List Stored → List (List ℕ) → Pick → ℕ → ℕ
    → (D → Call → D → Type 0) → D → D → Result Counts Fault → Type 0
IsRequired library lines order seed limit may from to result = InOrder order seed (λ O picks begun.
    Serves may from to (requiring picks library) (new_sought limit begun) lines result)
