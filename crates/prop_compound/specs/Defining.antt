-- What a definition in words means, as one by numbers, and why it is refused: each reason by
-- itself, and which of them comes first.
use Rattle.std.specs.Prelude.{ℕ, List, [], ◌∷◌, ◌++◌, Bool, false, ◌||◌, nat_le, Option, length}
use Rattle.std.specs.Prelude.{map, is_none, is_some, unwrap_or}
use Rattle.std.specs.List.{list_any, flat_map}
use Rattle.std.specs.Option.{option_map_or}
use Rattle.prop_refusals.specs.Refusals.{most, when, first_of}
use Rattle.prop_refusals.specs.declared.refusal.Limit.TheVariants.{Definitions as TooMany}
use Rattle.prop_refusals.specs.declared.refusal.Refusal.{Refusal}
use Rattle.prop_refusals.specs.declared.refusal.Refusal.TheVariants.{NameTaken, NoSuchDomain}
use Rattle.prop_refusals.specs.declared.refusal.Refusal.TheVariants.{NoSuchRelation, NoSuchCell}
use Rattle.prop_refusals.specs.declared.refusal.Refusal.TheVariants.{NoSuchProcedure, WrongCount}
use Rattle.prop_refusals.specs.declared.refusal.Refusal.TheVariants.{LimitReached}
use Rattle.prop_sets.specs.Names.{has_repeat}
use Rattle.prop_procedures.specs.Stored.{Stored, span_kind, procedure_number}
use Rattle.prop_vocabulary.specs.Names.{number_in, numbers_in, is_missing}
use Rattle.prop_vocabulary.specs.Vocabulary.{Vocabulary}
use Rattle.prop_language.specs.Commands.{By, Passed, Step}
use Rattle.prop_compound.specs.declared.definition.Passing.{Passing}
use Rattle.prop_compound.specs.declared.definition.Passing.TheVariants as passings
use Rattle.prop_compound.specs.declared.definition.Used.TheVariants as uses
use Rattle.prop_compound.specs.declared.definition.NumberedStep.{NumberedStep}
use Rattle.prop_compound.specs.declared.definition.NumberedStep.TheVariants as numbered
use Rattle.prop_compound.specs.Definitions.{Definition, Definitions, used_named, is_miscounted}
use Rattle.prop_compound.specs.Kinds.{kind_named}

-- ---- what the words mean

abbrev pub said_passing : Vocabulary → By → Passing
said_passing words By.Nothing = passings.Nothing
said_passing words (By.Number scale) = option_map_or passings.Scale scale passings.Nothing
said_passing words (By.Relation name) =
    passings.Relation (unwrap_or (number_in words.relation_names name) 0)

abbrev pub passing_named : Vocabulary → Passed → Passing
passing_named words (Passed.Said by) = said_passing words by
passing_named words Passed.Own = passings.Own

-- the local that the step makes, where it makes one
abbrev pub locals_of : Step → List (List ℕ)
locals_of (Step.Local name kind) = name ∷ []
locals_of (Step.Like name like) = name ∷ []
locals_of (Step.Use name cells passed) = []

-- the names of a definition's cells, in order: the parameters, and behind them the locals; the
-- place of a cell is its place here
abbrev pub scope_of : List (List ℕ) → List Step → List (List ℕ)
scope_of params steps = params ++ flat_map locals_of steps

-- the step with numbers and places for its names
abbrev pub step_numbered : List Stored → Vocabulary → Definitions → List (List ℕ) → Step
    → NumberedStep
step_numbered library words definitions scope (Step.Local name kind) =
    numbered.Local (unwrap_or (kind_named words kind) span_kind)
step_numbered library words definitions scope (Step.Like name like) =
    numbered.Like (unwrap_or (number_in scope like) 0)
step_numbered library words definitions scope (Step.Use name cells passed) =
    numbered.Use (unwrap_or (used_named library definitions name) (uses.Procedure 0))
    (numbers_in scope cells) (passing_named words passed)

abbrev pub definition_of : List Stored → Vocabulary → Definitions → List (List ℕ) → List Step
    → Definition
definition_of library words definitions params steps =
    record {
      params = length params;
      steps = map (step_numbered library words definitions (scope_of params steps)) steps;
    }

-- the definitions with one more
abbrev pub with_definition : List Stored → Vocabulary → Definitions → List ℕ → List (List ℕ)
    → List Step → Definitions
with_definition library words definitions name params steps = record {
  names = definitions.names ++ name ∷ [];
  definitions = definitions.definitions ++ definition_of library words definitions params
      steps ∷ [];
}

-- ---- for what it is refused

-- a procedure or a definition has the name already, or one name stands twice among the parameters
-- and locals
abbrev pub is_name_taken : List Stored → Definitions → List ℕ → List (List ℕ) → List Step → Bool
is_name_taken library definitions name params steps =
    is_some (procedure_number library name) || (is_some
    (number_in definitions.names name) || has_repeat (scope_of params steps))

-- the step makes a local of a domain that isn't there
abbrev pub is_domain_missing : Vocabulary → Step → Bool
is_domain_missing words (Step.Local name kind) = is_none (kind_named words kind)
is_domain_missing words step = false

-- the step passes a relation that isn't there
abbrev pub is_relation_missing : Vocabulary → Step → Bool
is_relation_missing words (Step.Use name cells (Passed.Said (By.Relation relation))) =
    is_none (number_in words.relation_names relation)
is_relation_missing words step = false

-- the cells that the step names
abbrev pub cells_in : Step → List (List ℕ)
cells_in (Step.Local name kind) = []
cells_in (Step.Like name like) = like ∷ []
cells_in (Step.Use name cells passed) = cells

-- some step names a cell that is neither one of these nor a local of an earlier step
abbrev pub is_cell_missing : List (List ℕ) → List Step → Bool
is_cell_missing cells [] = false
is_cell_missing cells (step ∷ steps) =
    is_missing cells (cells_in step) || is_cell_missing (cells ++ locals_of step) steps

-- the step uses what is neither a procedure nor a definition
abbrev pub is_unknown : List Stored → Definitions → Step → Bool
is_unknown library definitions (Step.Use name cells passed) =
    is_none (used_named library definitions name)
is_unknown library definitions step = false

-- the step uses a procedure or a definition on another number of cells than it wants
abbrev pub is_count_wrong : List Stored → Definitions → Step → Bool
is_count_wrong library definitions (Step.Use name cells passed) =
    is_miscounted library definitions name (length cells)
is_count_wrong library definitions step = false

-- each reason, in order of rank, for which the steps are refused by their words alone, where these
-- are the parameters
abbrev pub words_refusals : Vocabulary → List (List ℕ) → List Step → List (Option Refusal)
words_refusals words params steps =
    when NoSuchDomain (list_any (is_domain_missing words) steps)
    ∷ when NoSuchRelation (list_any (is_relation_missing words) steps)
    ∷ when NoSuchCell (is_cell_missing params steps)
    ∷ []

-- each reason, in order of rank, for which they are refused by what they use; and that there are as
-- many definitions as there may be
abbrev pub uses_refusals : List Stored → Definitions → List Step → List (Option Refusal)
uses_refusals library definitions steps =
    when NoSuchProcedure (list_any (is_unknown library definitions) steps)
    ∷ when WrongCount (list_any (is_count_wrong library definitions) steps)
    ∷ when (LimitReached TooMany) (nat_le (most TooMany) (length definitions.definitions))
    ∷ []

-- why the definition may not be made: the first of all these reasons
abbrev pub define_refusal : List Stored → Vocabulary → Definitions → List ℕ → List (List ℕ)
    → List Step → Option Refusal
define_refusal library words definitions name params steps =
    first_of (when NameTaken (is_name_taken library definitions name params steps) ∷ words_refusals
    words params steps ++ uses_refusals library definitions steps)
