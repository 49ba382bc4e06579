-- What a definition in words means by what each step uses, and why it is refused: for its name, or
-- for its steps.
use Rattle.std.specs.Prelude.{◌≡◌, ◌⊎◌, ℕ, List, ◌++◌, Bool, true, false, Option, None, is_none}
use Rattle.std.specs.Prelude.{unwrap_or}
use Rattle.prop_refusals.specs.Refusals.{first_of}
use Rattle.prop_refusals.specs.declared.refusal.Refusal.{Refusal}
use Rattle.prop_refusals.specs.declared.refusal.Refusal.TheVariants.{NameTaken, Memory}
use Rattle.prop_procedures.specs.Stored.{Stored, span_kind}
use Rattle.prop_vocabulary.specs.Names.{number_in, numbers_in}
use Rattle.prop_vocabulary.specs.Vocabulary.{Vocabulary}
use Rattle.prop_language.specs.Commands.{Step}
use Rattle.prop_compound.specs.declared.definition.Used.{Used}
use Rattle.prop_compound.specs.declared.definition.Used.TheVariants as uses
use Rattle.prop_compound.specs.declared.definition.NumberedStep.{NumberedStep}
use Rattle.prop_compound.specs.declared.definition.NumberedStep.TheVariants as numbered
use Rattle.prop_compound.specs.Definitions.{Definitions, used_named}
use Rattle.prop_compound.specs.Defining.{uses_refusals, words_refusals, passing_named}
use Rattle.prop_compound.specs.Kinds.{kind_named}

-- ---- by what each step uses

-- what the step uses
abbrev pub used_by : List Stored → Definitions → Step → Option Used
used_by library definitions (Step.Use name cells passed) = used_named library definitions name
used_by library definitions step = None

-- the step uses what is neither a procedure nor a definition, where it uses this
abbrev pub is_unknown_by : Option Used → Step → Bool
is_unknown_by used (Step.Use name cells passed) = is_none used
is_unknown_by used step = false

-- the step with numbers and places for its names, where it uses this
abbrev pub numbered_by : Vocabulary → List (List ℕ) → Option Used → Step → NumberedStep
numbered_by words scope used (Step.Local name kind) =
    numbered.Local (unwrap_or (kind_named words kind) span_kind)
numbered_by words scope used (Step.Like name like) =
    numbered.Like (unwrap_or (number_in scope like) 0)
numbered_by words scope used (Step.Use name cells passed) =
    numbered.Use (unwrap_or used (uses.Procedure 0)) (numbers_in scope cells)
    (passing_named words passed)

-- ---- for what it is refused

-- the refusal is that a name is taken, and one is; or it is that memory was refused
abbrev pub IsNameReason : Bool → Refusal → Type 0
IsNameReason taken refusal = ((refusal ≡ NameTaken) × (taken ≡ true)) ⊎ (refusal ≡ Memory)

-- why the steps may not be defined, whatever the definition's name
abbrev pub steps_refusal : List Stored → Vocabulary → Definitions → List (List ℕ) → List Step
    → Option Refusal
steps_refusal library words definitions params steps =
    first_of (words_refusals words params steps ++ uses_refusals library definitions steps)
