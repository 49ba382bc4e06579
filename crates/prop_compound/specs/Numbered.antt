-- Definitions by numbers as compounds, which can be used by name.
use Rattle.std.specs.Prelude.{ℕ, List, [], ◌∷◌, Bool, ◌||◌, Option, Some, None, is_some, length}
use Rattle.std.specs.Prelude.{slice_get}
use Rattle.std.specs.Option.{option_map}
use Rattle.prop_procedures.specs.declared.shape.Param.{Param}
use Rattle.prop_procedures.specs.declared.shape.Param.TheVariants as params
use Rattle.prop_sets.specs.Relation.{Relation}
use Rattle.prop_compound.specs.declared.definition.Passing.{Passing}
use Rattle.prop_compound.specs.declared.definition.Passing.TheVariants as passings
use Rattle.prop_compound.specs.Definitions.{Definition, Definitions}
use Rattle.prop_compound.specs.Expansion.{Walk, definition_expanded, spare_in}
use Rattle.prop_compound.specs.Compounds.{Compound}

-- the parameter that a step passes to what it uses, where these are the relations and its
-- definition is given `given`
abbrev pub passed_among : List Relation → Option Param → Passing → Option Param
passed_among relations given passings.Nothing = None
passed_among relations given (passings.Scale k) = Some (params.Scale k)
passed_among relations given (passings.Relation n) = option_map params.Rows (slice_get relations n)
passed_among relations given passings.Own = given

-- what was expanded before, marked as having a spare parameter if it has or if b says so
abbrev pub with_spare : Walk → Bool → Walk
with_spare e b = record e { spare = e.spare || b }

-- what a use of the definition with the number adds; the definitions are listed from the latest to
-- the earliest
abbrev pub added_in : (Option Param → Passing → Option Param) → List Definition → ℕ → List ℕ
    → Option Param → Walk → Walk
added_in pass latest n cells given e =
    definition_expanded pass latest n cells given (with_spare e (spare_in latest n (is_some given)))

-- the compounds of these definitions and their names; those before them are listed from the latest
-- to the earliest
abbrev pub compounds_from : (Option Param → Passing → Option Param) → List Definition
    → List (List ℕ) → List Definition → List Compound
compounds_from pass earlier (name ∷ names) (d ∷ ds) =
    record {
      name = name;
      wants = d.params;
      adds = added_in pass (d ∷ earlier) (length earlier);
    } ∷ compounds_from pass (d ∷ earlier) names ds
compounds_from pass earlier names ds = []

-- the compounds of all definitions, where these are the relations
abbrev pub compounds_of : List Relation → Definitions → List Compound
compounds_of relations d = compounds_from (passed_among relations) [] d.names d.definitions
