-- What a use of a procedure or of a definition expands to: instances and fresh cells.
use Rattle.std.specs.Prelude.{ℕ, List, [], ◌∷◌, ◌++◌, Bool, true, false, cond, not, ◌||◌, ◌&&◌}
use Rattle.std.specs.Prelude.{◌==◌, Option, Some, None, length, map, reverse, is_some, slice_get}
use Rattle.std.specs.Prelude.{slice_index_or}
use Rattle.std.specs.List.{list_any, range_with_len}
use Rattle.std.specs.Option.{option_map, option_map_or}
use Rattle.prop_procedures.specs.declared.shape.Kinded.{Kinded}
use Rattle.prop_procedures.specs.declared.shape.Param.{Param}
use Rattle.prop_procedures.specs.declared.shape.Param.TheVariants as params
use Rattle.prop_procedures.specs.Stored.{Stored}
use Rattle.prop_procedures.specs.Fitting.{kind_at}
use Rattle.prop_vocabulary.specs.Vocabulary.{Vocabulary}
use Rattle.prop_compound.specs.declared.definition.Passing.{Passing}
use Rattle.prop_compound.specs.declared.definition.Passing.TheVariants as passings
use Rattle.prop_compound.specs.declared.definition.Used.{Used}
use Rattle.prop_compound.specs.declared.definition.Used.TheVariants as uses
use Rattle.prop_compound.specs.declared.definition.NumberedStep.{NumberedStep}
use Rattle.prop_compound.specs.declared.definition.NumberedStep.TheVariants.{Local, Like, Use}
use Rattle.prop_compound.specs.Definitions.{Definition, Definitions, is_taking, used_named}

-- an instance: a procedure by its number, what it is given, and its cells, the output last
pub record Placed (G : Type 0) : Type 0 where
  pub procedure : ℕ
  pub given : G
  pub cells : List ℕ

-- The kinds of the given cells and, after them, of the fresh ones; the instances, in order; and
-- whether a definition was given a parameter that it doesn't take.
pub record Expansion (G : Type 0) : Type 0 where
  pub kinds : List Kinded
  pub placed : List (Placed G)
  pub spare : Bool

-- what was expanded so far, where instances are given parameters
abbrev pub Walk : Type 0
Walk = Expansion (Option Param)

-- cells of these kinds, on which nothing is expanded yet
abbrev pub start : {G : Type 0} → List Kinded → Bool → Expansion G
start kinds spare = record { kinds = kinds; placed = []; spare = spare }

abbrev pub cell_at : List ℕ → ℕ → ℕ
cell_at cells place = slice_index_or cells place 0

abbrev pub cells_at : List ℕ → List ℕ → List ℕ
cells_at cells places = map (cell_at cells) places

-- one fresh cell more, whose number is the next one
abbrev pub with_fresh : {G : Type 0} → Expansion G → Kinded → Expansion G
with_fresh e kind = record e { kinds = e.kinds ++ kind ∷ [] }

abbrev pub with_placed : {G : Type 0} → Expansion G → Placed G → Expansion G
with_placed e p = record e { placed = e.placed ++ p ∷ [] }

-- ---- cells and instances

-- the parameter that a step passes to what it uses, where its definition is given `given`
abbrev pub param_passed : Vocabulary → Option Param → Passing → Option Param
param_passed words given passings.Nothing = None
param_passed words given (passings.Scale k) = Some (params.Scale k)
param_passed words given (passings.Relation n) =
    option_map params.Rows (slice_get words.relations n)
param_passed words given passings.Own = given

-- what a use adds: one instance if it is of a procedure, and else what `definition` says
abbrev pub use_expanded : {G : Type 0} → (ℕ → List ℕ → G → Expansion G → Expansion G) → Used
    → List ℕ → G → Expansion G → Expansion G
use_expanded definition (uses.Procedure n) cells given e =
    with_placed e (record { procedure = n; given = given; cells = cells })
use_expanded definition (uses.Definition n) cells given e = definition n cells given e

-- What the steps of a definition add, in order, where `cells` has the cells at the places so far. A
-- local adds a fresh cell, of its own kind or of that of the cell that it is like, and has the next
-- place. A use is given what `pass` makes of what the definition is given and of what the step
-- passes.
abbrev pub steps_expanded : {G : Type 0} → (G → Passing → G)
    → (ℕ → List ℕ → G → Expansion G → Expansion G) → G → List ℕ → List NumberedStep → Expansion G
    → Expansion G
steps_expanded pass definition given cells [] e = e
steps_expanded pass definition given cells (Local kind ∷ steps) e =
    steps_expanded pass definition given (cells ++ length e.kinds ∷ []) steps (with_fresh e kind)
steps_expanded pass definition given cells (Like place ∷ steps) e =
    steps_expanded pass definition given (cells ++ length e.kinds ∷ []) steps
    (with_fresh e (kind_at e.kinds (cell_at cells place)))
steps_expanded pass definition given cells (Use used places passing ∷ steps) e =
    steps_expanded pass definition given cells steps
    (use_expanded definition used (cells_at cells places) (pass given passing) e)

-- What a use of the definition with the number adds: what its steps add. The definitions are listed
-- from the latest to the earliest, and steps use earlier ones alone.
abbrev pub definition_expanded : {G : Type 0} → (G → Passing → G) → List Definition → ℕ → List ℕ → G
    → Expansion G → Expansion G
definition_expanded pass [] n cells given e = e
definition_expanded pass (d ∷ earlier) n cells given e =
    cond (n == length earlier) (steps_expanded pass (definition_expanded pass earlier) given cells
    d.steps e) (definition_expanded pass earlier n cells given e)

-- what a use adds, where these are the definitions, in order
abbrev pub expanded_in : {G : Type 0} → (G → Passing → G) → List Definition → Used → List ℕ → G
    → Expansion G → Expansion G
expanded_in pass definitions used cells given e =
    use_expanded (definition_expanded pass (reverse definitions)) used cells given e

-- ---- what is spare

-- the step passes a parameter; `given` says whether its definition is given one
abbrev pub passes_something : Bool → Passing → Bool
passes_something given passings.Own = given
passes_something given passings.Nothing = false
passes_something given passing = true

-- The use gives some definition a parameter that it does not take: the one that it is of, or one
-- within. For a definition `spare` says so; `given` says whether the use is given a parameter.
abbrev pub spare_used : (ℕ → Bool → Bool) → Used → Bool → Bool
spare_used spare (uses.Procedure n) given = false
spare_used spare (uses.Definition n) given = spare n given

-- the same of a step; here `given` says whether its definition is given a parameter
abbrev pub spare_of : (ℕ → Bool → Bool) → Bool → NumberedStep → Bool
spare_of spare given (Use used places passing) =
    spare_used spare used (passes_something given passing)
spare_of spare given step = false

-- the same of a use of the definition with the number, where definitions are listed from the latest
-- to the earliest
abbrev pub spare_in : List Definition → ℕ → Bool → Bool
spare_in [] n given = false
spare_in (d ∷ earlier) n given =
    cond (n == length earlier) ((given && not (is_taking d)) || list_any
    (spare_of (spare_in earlier) given) d.steps) (spare_in earlier n given)

-- the same, where definitions are listed in order
abbrev pub is_spare : List Definition → ℕ → Bool → Bool
is_spare definitions n given = spare_in (reverse definitions) n given

-- ---- a whole use

-- what there is before a use is expanded: cells of these kinds, and whether some definition will be
-- given a parameter that it does not take
abbrev pub before : List Definition → Used → List Kinded → Option Param → Walk
before definitions used kinds given =
    start kinds (spare_used (is_spare definitions) used (is_some given))

-- what a use expands to, on cells of these kinds, which have the numbers from 0 on
abbrev pub stands_for : Vocabulary → List Definition → Used → List Kinded → Option Param → Walk
stands_for words definitions used kinds given =
    expanded_in (param_passed words) definitions used (range_with_len 0 (length kinds)) given
    (before definitions used kinds given)

-- what a use of the name expands to; nothing where the name stands for nothing
abbrev pub expanded : List Stored → Vocabulary → Definitions → List ℕ → List Kinded → Option Param
    → Walk
expanded library words definitions name kinds given =
    option_map_or (λ used. stands_for words definitions.definitions used kinds given)
    (used_named library definitions name) (start kinds false)
