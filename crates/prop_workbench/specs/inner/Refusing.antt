-- Why uses, statements and choices are refused, as the methods of a session find it: what a value
-- means at a cell, and which limits are met.
use Rattle.std.specs.Prelude.{ℕ, List, [], ◌∷◌, Bool, false, ◌+◌, ◌-◌, ◌&&◌, ◌||◌, nat_le, nat_lt}
use Rattle.std.specs.Prelude.{Option}
use Rattle.std.specs.List.{list_any}
use Rattle.std.specs.Prelude.{◌++◌, Some, None, Result, length, is_none, Ok, Err, ◌==◌}
use Rattle.std.specs.Option.{option_or}
use Rattle.prop_lattice.specs.declared.info.Kind.{Kind}
use Rattle.prop_refusals.specs.declared.refusal.Limit.{Limit}
use Rattle.prop_refusals.specs.declared.refusal.Limit.TheVariants.{Cells, Instances, Premises}
use Rattle.prop_refusals.specs.declared.refusal.Limit.TheVariants.{Choices, Statements}
use Rattle.prop_refusals.specs.declared.refusal.Refusal.{Refusal}
use Rattle.prop_refusals.specs.declared.refusal.Refusal.TheVariants.{LimitReached, NoSuchProcedure}
use Rattle.prop_refusals.specs.declared.refusal.Refusal.TheVariants.{WrongCount, WrongKind}
use Rattle.prop_refusals.specs.declared.refusal.Refusal.TheVariants.{WrongParameter}
use Rattle.prop_refusals.specs.Refusals.{number_of, most, when, first_of}
use Rattle.prop_premises.specs.Origins.{premise_number, is_choice, choices_of}
use Rattle.prop_language.specs.Commands.{By, Value}
use Rattle.prop_procedures.specs.Stored.{Stored}
use Rattle.prop_compound.specs.Expanding.{is_kind_wrong, is_param_wrong}
use Rattle.prop_compound.specs.Compounds.{compound_named, is_miscounted}
use Rattle.prop_scheduler.specs.Making.{room_refusal}
use Rattle.prop_vocabulary.specs.Values.{Meant, Known, Name, value_said}
use Rattle.prop_vocabulary.specs.Vocabulary.{Vocabulary, relation_named, with_symbol}
use Rattle.prop_vocabulary.specs.Texts.{elements_of_kind}
use Rattle.prop_vocabulary.specs.Refusing.{symbol_refusal}
use Rattle.prop_workbench.specs.Machine.{State}
use Rattle.prop_workbench.specs.Effects.{used}

-- this limit is passed: there would be more than before, and more than there may be
abbrev pub grows : Limit → ℕ → ℕ → Option Refusal
grows limit before after =
    when (LimitReached limit) (nat_lt before after && nat_lt (most limit) after)

-- a relation is given that isn't there
abbrev pub is_unknown : Vocabulary → By → Bool
is_unknown words By.Nothing = false
is_unknown words (By.Number k) = false
is_unknown words (By.Relation name) = is_none (relation_named words name)

-- each reason, in order of rank, for which a use of the name on these cells is refused by itself
abbrev pub use_reasons : List Stored → State → List ℕ → List ℕ → By → List (Option Refusal)
use_reasons library s name cells by =
    let e = used library s name cells by in
    when NoSuchProcedure (is_none (compound_named library s.definitions name))
    ∷ when WrongCount (is_miscounted (compound_named library s.definitions name) (length cells))
    ∷ when (LimitReached Cells) (nat_lt (most Cells) (length e.kinds - length cells))
    ∷ when (LimitReached Instances) (nat_lt (most Instances) (length e.placed))
    ∷ when WrongKind (list_any (is_kind_wrong library e.kinds) e.placed)
    ∷ when WrongParameter (e.spare || list_any (is_param_wrong library) e.placed)
    ∷ []

-- why the use is refused: the first of these reasons, or that there would be too many cells or
-- instances
abbrev pub use_refusal : List Stored → State → List ℕ → List ℕ → By → Option Refusal
use_refusal library s name cells by =
    let e = used library s name cells by in
    first_of (use_reasons library s name cells by ++ room_refusal
    (length s.kinds + (length e.kinds - length cells)) (length s.instances + length e.placed) ∷ [])

-- what the value means at a cell of the kind, or why it is refused there
abbrev pub meaning_at : Vocabulary → Kind → Value → Result Meant Refusal
meaning_at words kind value = value_said kind (elements_of_kind words kind) value

abbrev pub is_error : Refusal → Result Meant Refusal → Bool
is_error refusal (Ok meant) = false
is_error refusal (Err other) = number_of other == number_of refusal

-- the vocabulary with the symbol that the meaning names, if it names one
abbrev pub with_meant : Vocabulary → Meant → Vocabulary
with_meant words (Known info) = words
with_meant words (Name symbol) = with_symbol words symbol

-- no room is left for a premise with the name, where that is new, or for one statement more
abbrev pub telling_limit : State → List ℕ → Option Refusal
telling_limit s premise =
    first_of (
    when (LimitReached Premises) (is_none (premise_number s.premises premise) && nat_le
    (most Premises) (length s.premises))
    ∷ when (LimitReached Statements) (nat_le (most Statements) (length s.statements))
    ∷ []
    )

-- the same of a statement that may be under no premise: then only statements need room
abbrev pub statement_limit : State → Option (List ℕ) → Option Refusal
statement_limit s None = when (LimitReached Statements)
    (nat_le (most Statements) (length s.statements))
statement_limit s (Some premise) = telling_limit s premise

-- no room is left for the symbol that the meaning names, where that is new
abbrev pub naming_limit : Vocabulary → Meant → Option Refusal
naming_limit words (Name symbol) = symbol_refusal words symbol
naming_limit words (Known info) = None

-- no room is left for a statement of this meaning: its premise, itself, or its symbol
abbrev pub stating_limit : State → Option (List ℕ) → Meant → Option Refusal
stating_limit s premise meant =
    first_of (statement_limit s premise ∷ naming_limit s.words meant ∷ [])

-- no room is left for so many premises, for one choice more, or for so many statements
abbrev pub choosing_limit : State → ℕ → Option Refusal
choosing_limit s sides =
    first_of (
    when (LimitReached Premises) (nat_lt (most Premises) (length s.premises + sides))
    ∷ when (LimitReached Choices) (nat_le (most Choices) (length (choices_of s.premises)))
    ∷ when (LimitReached Statements) (nat_lt (most Statements) (length s.statements + sides))
    ∷ []
    )

-- no room is left for the symbols that the meanings name, which join the vocabulary one after
-- another
abbrev pub all_naming_limit : Vocabulary → List Meant → Option Refusal
all_naming_limit words [] = None
all_naming_limit words (meant ∷ more) =
    option_or (naming_limit words meant) (all_naming_limit (with_meant words meant) more)

-- no room is left for a choice between these meanings
abbrev pub choosing_limit_of : State → List Meant → Option Refusal
choosing_limit_of s meants =
    first_of (choosing_limit s (length meants) ∷ all_naming_limit s.words meants ∷ [])

-- a name is given, and a choice has it
abbrev pub is_choice_told : State → Option (List ℕ) → Bool
is_choice_told s None = false
is_choice_told s (Some name) = is_choice s.premises name
