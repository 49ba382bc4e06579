-- Frames: definitions that are under way while a use is expanded. All but one of them wait for the
-- definition that their last step uses.
use Rattle.std.specs.Prelude.{◌≡◌, ◌<◌, ℕ, List, [], ◌∷◌, Option, Some, None, drop, length, ⊤}
use Rattle.prop_procedures.specs.declared.shape.Param.{Param}
use Rattle.prop_procedures.specs.Flats.{param_at}
use Rattle.prop_vocabulary.specs.Vocabulary.{Vocabulary}
use Rattle.prop_compound.specs.declared.definition.KeptDefinition.{KeptDefinition}
use Rattle.prop_compound.specs.declared.definition.NumberedStep.{NumberedStep}
use Rattle.prop_compound.specs.declared.definition.NumberedStep.TheVariants.{Use}
use Rattle.prop_compound.specs.declared.definition.Passing.{Passing}
use Rattle.prop_compound.specs.declared.definition.Used.TheVariants as uses
use Rattle.prop_compound.specs.declared.expanding.Frame.{Frame}
use Rattle.prop_compound.specs.declared.walk.Walk as walks
use Rattle.prop_compound.specs.Definitions.{Definition}
use Rattle.prop_compound.specs.Expansion.{Walk, param_passed, expanded_in}
use Rattle.prop_compound.specs.Kept.{all_bare}
use Rattle.prop_compound.specs.inner.Expansion.{steps_in}
use Rattle.prop_compound.specs.inner.Flattened.{walk_of, IsPlaceIn}
use Rattle.prop_compound.specs.inner.Kept.{AreInScope}
use Rattle.prop_compound.specs.inner.Shortcuts.{plan_of}

-- what was expanded before, and behind it the definition of the frame `used`, where there is one
abbrev pub used_expanded : Vocabulary → List Definition → List Param → Option Frame → Walk → Walk
used_expanded words definitions params None e = e
used_expanded words definitions params (Some used) e =
    expanded_in (param_passed words) definitions (uses.Definition used.number) used.cells.items
    (param_at params used.given) e

-- the step uses no procedure, or one on one cell at least
abbrev pub IsOnCells : NumberedStep → Type 0
IsOnCells (Use (uses.Procedure n) cells passing) = 0 < length cells
IsOnCells step = ⊤

-- The step was taken. Whatever definitions there are and whatever steps follow, the old frame adds
-- by this step and those what comes of two things: the definition that the step uses, where it uses
-- one, is expanded, and then the new frame goes on with those steps.
abbrev pub IsStepTaken : Vocabulary → NumberedStep → Frame → walks.Walk → Frame → walks.Walk
    → Option Frame → Type 0
IsStepTaken words step old walk new walk' used =
    (definitions : List Definition) (steps : List NumberedStep) →
    steps_in (param_passed words) definitions (param_at walk.params.items old.given) old.cells.items
    (step ∷ steps) (walk_of walk) ≡
    steps_in (param_passed words) definitions (param_at walk.params.items old.given) new.cells.items
    steps (used_expanded words definitions walk'.params.items used (walk_of walk'))

-- the frame is that of the definition that the step uses, before its first step
pub record IsBegun (step : NumberedStep) (walk : walks.Walk) (used : Frame) : Type 0 where
  pub places : List ℕ
  pub passing : Passing
  pub is : step ≡ Use (uses.Definition used.number) places passing
  pub count : length used.cells.items ≡ length places
  pub next : used.next ≡ 0
  pub given : IsPlaceIn walk.params.items used.given

-- The frame's definition is there. Its further steps name places that are there, and the parameter
-- that it is given, if any, is one of these.
pub record IsUnderWay (definitions : List KeptDefinition) (params : List Param) (frame : Frame) :
    Type 0 where
  pub number : frame.number < length definitions
  pub in_scope : AreInScope (length frame.cells.items)
      (drop frame.next (plan_of definitions frame.number))
  pub given : IsPlaceIn params frame.given

-- what the further steps of a frame add
abbrev pub rest_added : Vocabulary → List KeptDefinition → List Param → Frame → Walk → Walk
rest_added words definitions params frame e =
    steps_in (param_passed words) (all_bare definitions) (param_at params frame.given)
    frame.cells.items (drop frame.next (plan_of definitions frame.number)) e

-- what the further steps of all frames add; those of the last frame come first
abbrev pub all_added : Vocabulary → List KeptDefinition → List Param → List Frame → Walk → Walk
all_added words definitions params [] e = e
all_added words definitions params (frame ∷ frames) e =
    rest_added words definitions params frame (all_added words definitions params frames e)
