-- Definitions of compounds, with numbers for their words.
use Rattle.std.specs.Prelude.{ℕ, ◌+◌, List, [], Bool, true, false, not, ◌==◌, Option, length}
use Rattle.std.specs.Prelude.{slice_get}
use Rattle.std.specs.List.{list_any}
use Rattle.std.specs.Option.{option_map, option_map_or, option_or}
use Rattle.prop_procedures.specs.Stored.{Stored, procedure_number}
use Rattle.prop_vocabulary.specs.Names.{number_in}
use Rattle.prop_compound.specs.declared.definition.Passing.TheVariants as passings
use Rattle.prop_compound.specs.declared.definition.Used.{Used}
use Rattle.prop_compound.specs.declared.definition.Used.TheVariants as uses
use Rattle.prop_compound.specs.declared.definition.NumberedStep.{NumberedStep}
use Rattle.prop_compound.specs.declared.definition.NumberedStep.TheVariants.{Use}

-- a definition: how many cells a use of it names, and its steps in order
pub record Definition : Type 0 where
  pub params : ℕ
  pub steps : List NumberedStep

-- the definitions in the order in which they were made, and their names
pub record Definitions : Type 0 where
  pub names : List (List ℕ)
  pub definitions : List Definition

abbrev pub no_definitions : Definitions
no_definitions = record { names = []; definitions = [] }

-- the step hands on the parameter that a use of its definition is given
abbrev pub is_passing_on : NumberedStep → Bool
is_passing_on (Use used cells passings.Own) = true
is_passing_on step = false

-- a definition takes a parameter if one of its steps hands it on
abbrev pub is_taking : Definition → Bool
is_taking d = list_any is_passing_on d.steps

-- what the name stands for in a use: a procedure or a definition
abbrev pub used_named : List Stored → Definitions → List ℕ → Option Used
used_named library definitions name =
    option_or (option_map uses.Procedure (procedure_number library name))
    (option_map uses.Definition (number_in definitions.names name))

-- how many cells a use of this has to name
abbrev pub cells_wanted : List Stored → Definitions → Used → ℕ
cells_wanted library definitions (uses.Procedure n) =
    option_map_or (λ p. length p.ins + 1) (slice_get library n) 0
cells_wanted library definitions (uses.Definition n) =
    option_map_or (λ d. d.params) (slice_get definitions.definitions n) 0

-- the name stands for something that wants another number of cells than this
abbrev pub is_miscounted : List Stored → Definitions → List ℕ → ℕ → Bool
is_miscounted library definitions name count =
    option_map_or (λ used. not (count == cells_wanted library definitions used))
    (used_named library definitions name) false
