-- How a command that runs the network may end, and what it may answer then: short names for parts.
use Rattle.std.specs.Prelude.{◌≡◌, ◌<◌, ◌+◌, ◌*◌, ℕ, All, List, length, ◌⊎◌}
use Rattle.std.specs.List.Sorted.{IsStrictlyIncreasing}
use Rattle.prop_lattice.specs.declared.info.Info.{Info}
use Rattle.prop_numbers.specs.Sets.{Members, set_of}
use Rattle.prop_procedures.specs.Stored.{Stored}
use Rattle.prop_cells.specs.Reach.{Explains}
use Rattle.prop_refusals.specs.declared.refusal.Refusal.TheVariants.{Memory}
use Rattle.prop_engine.specs.Answers.{Answer, Text, Refused}
use Rattle.prop_amb.specs.Refuted.{IsCovered}
use Rattle.prop_scheduler.specs.Potential.{most_steps}
use Rattle.prop_workbench.specs.Machine.{State, problem_in, choices_in}
use Rattle.prop_workbench.specs.inner.Points.{HoldsPoints}
use Rattle.prop_workbench.specs.Running.{Outcome, Settled, Unsettled, IsValue, worldview_of}
use Rattle.prop_workbench.specs.Running.{steps_in_all}
use Rattle.prop_workbench.specs.inner.Machine.{text_at}
use Rattle.prop_texts.specs.Texts.{equation, because}

-- the value may be given for the cell, and whichever points satisfy the worldview, the cell's lies
-- in it
abbrev pub IsHeldValue : List Stored → State → Outcome → ℕ → Info → Type 0
IsHeldValue library s outcome cell v = IsValue library s outcome cell v
    × HoldsPoints library s (worldview_of s outcome) cell v

abbrev pub IsSettledValue : List Stored → State → List ℕ → ℕ → Info → Type 0
IsSettledValue library s list cell v = IsHeldValue library s (Settled list) cell v

abbrev pub IsUnsettledValue : List Stored → State → List ℕ → ℕ → Info → Type 0
IsUnsettledValue library s list cell v = IsHeldValue library s (Unsettled list) cell v

-- the limit is less than what all lists, and a try of each premise, may take
abbrev pub IsTooFewToReduce : List Stored → State → Type 0
IsTooFewToReduce library s =
    s.limit < steps_in_all library s + length s.premises * most_steps (problem_in library s)

-- each of these sets is covered: with every choice list, some listed set is part of it together
-- with the list's hypothetical premises
abbrev pub AreCovered : State → List (List ℕ) → List (List ℕ) → Type 0
AreCovered s listed named = All (λ m. IsCovered (choices_in s) listed (set_of m)) named

-- The answer is a text with the value of the cell, the mark, and premises of the worldview that
-- explain the value. Or it is that memory was refused.
abbrev pub Explained : List Stored → State → Members → ℕ → Info → List ℕ → List ℕ → Answer → Type 0
Explained library s believed cell v name mark answer =
    ((ps : List ℕ) × IsStrictlyIncreasing ps
    × Explains (problem_in library s) believed cell v (set_of ps)
    × (answer ≡ Text (equation name (text_at s cell v) (because s.premises mark ps))))
    ⊎ (answer ≡ Refused Memory)
