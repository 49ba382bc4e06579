-- Compounds that are used by name, in the form that definitions by numbers have.
use Rattle.std.specs.Prelude.{ℕ, ◌+◌, List, [], ◌∷◌, Bool, true, false, length, nat_le, Option}
use Rattle.std.specs.Prelude.{slice_get, fold}
use Rattle.std.specs.List.{list_any}
use Rattle.std.specs.Option.{option_map_or}
use Rattle.prop_refusals.specs.declared.refusal.Limit.TheVariants.{Definitions as TooMany}
use Rattle.prop_refusals.specs.declared.refusal.Refusal.{Refusal}
use Rattle.prop_refusals.specs.declared.refusal.Refusal.TheVariants.{LimitReached}
use Rattle.prop_refusals.specs.Refusals.{most, when, first_of}
use Rattle.prop_procedures.specs.declared.shape.Param.{Param}
use Rattle.prop_procedures.specs.Stored.{Stored}
use Rattle.prop_vocabulary.specs.Cells.{CellNames}
use Rattle.prop_vocabulary.specs.Vocabulary.{Vocabulary}
use Rattle.prop_language.specs.Commands.{Passed, Step}
use Rattle.prop_compound.specs.Compounds.{Compound, compound_named, compound_refusal, given_by}
use Rattle.prop_compound.specs.Compounds.{is_wrong, step_added, scoped}
use Rattle.prop_compound.specs.Expansion.{Walk, with_placed}

-- the procedure with this number: a use of it adds one instance
abbrev pub procedure_at : List Stored → ℕ → Compound
procedure_at library n = record {
  name = option_map_or (λ p. p.name) (slice_get library n) [];
  wants = option_map_or (λ p. length p.ins + 1) (slice_get library n) 0;
  adds = λ cells given e. with_placed e (record { procedure = n; given = given; cells = cells });
}

-- what the use in a step is given, where its definition is given `given`
abbrev pub passed_by : Vocabulary → Option Param → Passed → Option Param
passed_by words given (Passed.Said by) = given_by words by
passed_by words given Passed.Own = given

-- what steps add, in order, where the cells that are there have these names
abbrev pub steps_added : List Stored → Vocabulary → List Compound → Option Param → CellNames
    → List Step → Walk → Walk
steps_added library words compounds given names steps e =
    (fold (step_added library words compounds given) (names, e) steps).1

-- the step hands on the parameter that a use of its definition is given
abbrev pub hands_on : Step → Bool
hands_on (Step.Use name cells Passed.Own) = true
hands_on step = false

-- one of the steps may not stand for this reason
abbrev pub is_some_wrong : List Stored → Vocabulary → List Compound → List (List ℕ) → List Step
    → Refusal → Bool
is_some_wrong library words compounds names steps reason =
    list_any (is_wrong words (compound_named library compounds) reason) (scoped names steps)

-- why the definition may not be made: for a reason of its own, or since there are as many
-- definitions as there may be
abbrev pub compound_refused : List Stored → Vocabulary → List Compound → List ℕ → List (List ℕ)
    → List Step → Option Refusal
compound_refused library words compounds name params steps =
    first_of (
    compound_refusal library words compounds name params steps
    ∷ when (LimitReached TooMany) (nat_le (most TooMany) (length compounds))
    ∷ []
    )
