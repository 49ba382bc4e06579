-- Why a command is refused in a state: each reason by itself, and which of them comes first.
use Rattle.std.specs.Prelude.{ℕ, List, [], ◌∷◌, false, ◌==◌, ◌&&◌, ◌||◌, nat_lt, ◌++◌}
use Rattle.std.specs.Prelude.{Option, Some, length, is_some, is_none, map, ◌-◌, unwrap_or}
use Rattle.std.specs.List.{list_any}
use Rattle.std.specs.Option.{option_map_or}
use Rattle.std.specs.Result.{result_err}
use Rattle.prop_refusals.specs.declared.refusal.Limit.{Limit}
use Rattle.prop_refusals.specs.declared.refusal.Limit.TheVariants.{Cells, Instances, Premises}
use Rattle.prop_refusals.specs.declared.refusal.Limit.TheVariants.{Choices, Statements, Domains}
use Rattle.prop_refusals.specs.declared.refusal.Limit.TheVariants.{Elements, Relations, Symbols}
use Rattle.prop_refusals.specs.declared.refusal.Limit.TheVariants.{Definitions}
use Rattle.prop_refusals.specs.declared.refusal.Refusal.{Refusal}
use Rattle.prop_refusals.specs.declared.refusal.Refusal.TheVariants.{NotAName, NotANumber}
use Rattle.prop_refusals.specs.declared.refusal.Refusal.TheVariants.{NameTaken, NoSuchDomain}
use Rattle.prop_refusals.specs.declared.refusal.Refusal.TheVariants.{NoSuchRelation, NoSuchCell}
use Rattle.prop_refusals.specs.declared.refusal.Refusal.TheVariants.{NoSuchPremise, WrongKind}
use Rattle.prop_refusals.specs.declared.refusal.Refusal.TheVariants.{NotInTheDomain, EmptyValue}
use Rattle.prop_refusals.specs.declared.refusal.Refusal.TheVariants.{IsAChoice, LimitReached}
use Rattle.prop_refusals.specs.declared.refusal.Refusal.TheVariants.{NoSuchProcedure, WrongCount}
use Rattle.prop_refusals.specs.declared.refusal.Refusal.TheVariants.{WrongParameter}
use Rattle.prop_refusals.specs.Refusals.{number_of, most, when, first_of}
use Rattle.prop_sets.specs.Names.{has_repeat}
use Rattle.prop_premises.specs.Origins.{premise_number, is_choice}
use Rattle.prop_procedures.specs.Fitting.{kind_at}
use Rattle.prop_procedures.specs.Stored.{Stored}
use Rattle.prop_language.specs.Commands.{By, Value, Command}
use Rattle.prop_vocabulary.specs.Cells.{cell_named, cells_named, is_cell_missing}
use Rattle.prop_vocabulary.specs.Names.{number_in}
use Rattle.prop_vocabulary.specs.Pairs.{is_outside}
use Rattle.prop_vocabulary.specs.Vocabulary.{domain_number, elements_of}
use Rattle.prop_vocabulary.specs.Vocabulary.{relation_named}
use Rattle.prop_compound.specs.Expanding.{is_kind_wrong, is_param_wrong}
use Rattle.prop_compound.specs.Compounds.{compound_named, is_miscounted, compound_refusal}
use Rattle.prop_compound.specs.Kinds.{kind_named}
use Rattle.prop_workbench.specs.Machine.{State, choices_in}
use Rattle.prop_workbench.specs.Effects.{said, used, effect}

-- ---- what there would be too much of

-- this limit is passed: there would be more than before, and more than there may be
abbrev pub grown : {X : Type 0} → Limit → List X → List X → Option Refusal
grown limit was is =
    when (LimitReached limit) (nat_lt (length was) (length is) && nat_lt (most limit) (length is))

-- each limit that a change from the old state to the new would pass, in order
abbrev pub passed : State → State → List (Option Refusal)
passed old new =
    grown Cells old.kinds new.kinds ∷ grown Instances old.instances new.instances
    ∷ grown Premises old.premises new.premises ∷ grown Choices (choices_in old) (choices_in new)
    ∷ grown Statements old.statements new.statements
    ∷ grown Domains old.words.domain_names new.words.domain_names
    ∷ grown Elements [] (elements_of new.words (length old.words.domains))
    ∷ grown Relations old.words.relation_names new.words.relation_names
    ∷ grown Definitions old.definitions new.definitions
    ∷ grown Symbols old.words.symbols new.words.symbols ∷ []

-- ---- values

-- why the value may not be stated of the cell with the name, where it may not
abbrev pub refused_at : State → List ℕ → Value → Option Refusal
refused_at s name value =
    option_map_or (λ n. result_err (said s.words (kind_at s.kinds n).kind value))
    (cell_named s.names name) (Some NoSuchCell)

-- this refusal, where it is why one of the values may not be stated
abbrev pub when_refused : State → List ℕ → List Value → Refusal → Option Refusal
when_refused s cell values refusal =
    when refusal (list_any (λ value. option_map_or (λ why. number_of why == number_of refusal)
    (refused_at s cell value) false) values)

-- ---- commands

-- why the premise with the name may not be kicked out, brought back or forgotten: it is a choice
-- that has the name, or nothing has it
abbrev pub belief_reasons : State → List ℕ → List (Option Refusal)
belief_reasons s premise =
    when IsAChoice (is_choice s.premises premise)
    ∷ when NoSuchPremise (is_none (premise_number s.premises premise)) ∷ []

-- each reason, in order of rank, for which the command itself is refused in the state
abbrev pub reasons : List Stored → State → Command → List (Option Refusal)
reasons library s (Command.Domain name elements) =
    when NameTaken (is_some (number_in s.words.domain_names name) || has_repeat elements) ∷ []
reasons library s (Command.Relation name from to pairs) =
    let of = λ (name : List ℕ). elements_of s.words (unwrap_or (domain_number s.words name) 0) in
    when NameTaken (is_some (number_in s.words.relation_names name))
    ∷ when NoSuchDomain (is_none (domain_number s.words from) || is_none
    (domain_number s.words to))
    ∷ when NotInTheDomain (is_outside (of from) (of to) pairs) ∷ []
reasons library s (Command.Cell name kind) =
    when NameTaken (is_some (cell_named s.names name))
    ∷ when NoSuchDomain (is_none (kind_named s.words kind)) ∷ []
reasons library s (Command.Define name params steps) =
    compound_refusal library s.words s.definitions name params steps ∷ []
reasons library s (Command.Attach name cells by) =
    let on = cells_named s.names cells in
    let e = used library s name on by in
    when NoSuchRelation (elim by [ By.Relation r ↦ is_none (relation_named s.words r) | _ ↦ false ])
    ∷ when NoSuchCell (is_cell_missing s.names cells)
    ∷ when NoSuchProcedure (is_none (compound_named library s.definitions name))
    ∷ when WrongCount (is_miscounted (compound_named library s.definitions name) (length on))
    ∷ when (LimitReached Cells) (nat_lt (most Cells) (length e.kinds - length on))
    ∷ when (LimitReached Instances) (nat_lt (most Instances) (length e.placed))
    ∷ when WrongKind (list_any (is_kind_wrong library e.kinds) e.placed)
    ∷ when WrongParameter (e.spare || list_any (is_param_wrong library) e.placed) ∷ []
reasons library s (Command.Fix cell value) = refused_at s cell value ∷ []
reasons library s (Command.Tell premise cell value) =
    refused_at s cell value ∷ when IsAChoice (is_choice s.premises premise) ∷ []
reasons library s (Command.Choose name cell values) =
    when_refused s cell values NotAName ∷ when_refused s cell values NotANumber
    ∷ when NameTaken (is_some (premise_number s.premises name) || is_choice s.premises name)
    ∷ map (when_refused s cell values) (NoSuchCell ∷ WrongKind ∷ NotInTheDomain ∷ EmptyValue ∷ [])
reasons library s (Command.Kick premise) = belief_reasons s premise
reasons library s (Command.Bring premise) = belief_reasons s premise
reasons library s (Command.Forget premise) = belief_reasons s premise
reasons library s (Command.Ask cell) = when NoSuchCell (is_none (cell_named s.names cell)) ∷ []
reasons library s (Command.Why cell) = when NoSuchCell (is_none (cell_named s.names cell)) ∷ []
reasons library s (Command.Core cell) = when NoSuchCell (is_none (cell_named s.names cell)) ∷ []
reasons library s command = []

-- why the command is refused in the state, where it is: the first of its reasons, and if it has
-- none, the first limit that its effect would pass
abbrev pub refusal_of : List Stored → State → Command → Option Refusal
refusal_of library s command =
    first_of (reasons library s command ++ passed s (effect library s command))
