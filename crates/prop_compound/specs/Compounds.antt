-- Compounds by name: what a name stands for in a use, what a use of it adds, and why a definition
-- is refused.
use Rattle.std.specs.Prelude.{ℕ, ◌+◌, List, [], ◌∷◌, ◌++◌, Bool, true, false, not, ◌||◌, ◌&&◌, ◌==◌}
use Rattle.std.specs.Prelude.{Option, None, length, map, is_none, is_some, unwrap_or, bytes_eq, zip}
use Rattle.std.specs.Prelude.{fold}
use Rattle.std.specs.List.{find, list_any, flat_map, range_with_len}
use Rattle.std.specs.Option.{option_map, option_map_or}
use Rattle.prop_refusals.specs.Refusals.{when, first_of}
use Rattle.prop_refusals.specs.declared.refusal.Refusal.{Refusal}
use Rattle.prop_refusals.specs.declared.refusal.Refusal.TheVariants.{NameTaken, NoSuchDomain}
use Rattle.prop_refusals.specs.declared.refusal.Refusal.TheVariants.{NoSuchRelation, NoSuchCell}
use Rattle.prop_refusals.specs.declared.refusal.Refusal.TheVariants.{NoSuchProcedure, WrongCount}
use Rattle.prop_sets.specs.Names.{has_repeat}
use Rattle.prop_procedures.specs.declared.shape.Param.{Param}
use Rattle.prop_procedures.specs.declared.shape.Param.TheVariants as params
use Rattle.prop_procedures.specs.declared.shape.Kinded.{Kinded}
use Rattle.prop_procedures.specs.Stored.{Stored, span_kind}
use Rattle.prop_procedures.specs.Fitting.{kind_at}
use Rattle.prop_vocabulary.specs.Names.{number_in, is_missing}
use Rattle.prop_vocabulary.specs.Cells.{CellNames, cell_named, cells_named, with_cell_name}
use Rattle.prop_vocabulary.specs.Vocabulary.{Vocabulary, relation_named}
use Rattle.prop_language.specs.Commands.{By, Said, Own, Step}
use Rattle.prop_compound.specs.Expansion.{Walk}
use Rattle.prop_compound.specs.Defining.{locals_of}
use Rattle.prop_compound.specs.Kinds.{kind_named}

-- What can be used by its name, a procedure or a definition: how many cells a use of it names, and
-- what a use on these cells, with a parameter or without one, adds to what was expanded before.
pub record Compound : Type 0 where
  pub name : List ℕ
  pub wants : ℕ
  pub adds : List ℕ → Option Param → Walk → Walk

-- the procedure with this number: a use of it adds one instance
abbrev pub procedure_as : ℕ × Stored → Compound
procedure_as (n, p) = record {
  name = p.name;
  wants = length p.ins + 1;
  adds = λ cells given e. record e {
    placed = e.placed ++ record { procedure = n; given = given; cells = cells } ∷ [];
  };
}

-- the first procedure with the name, or else the first definition
abbrev pub compound_named : List Stored → List Compound → List ℕ → Option Compound
compound_named library compounds name = find (λ c. bytes_eq c.name name)
    (map procedure_as (zip (range_with_len 0 (length library)) library) ++ compounds)

-- what a use of the name adds to what was expanded before; nothing where the name stands for
-- nothing
abbrev pub use_added : List Stored → List Compound → List ℕ → List ℕ → Option Param → Walk → Walk
use_added library compounds name cells given e =
    option_map_or (λ c. c.adds cells given e) (compound_named library compounds name) e

-- there is something to be used, and it wants another number of cells than this
abbrev pub is_miscounted : Option Compound → ℕ → Bool
is_miscounted compound count = option_map_or (λ c. not (count == c.wants)) compound false

-- ---- what a definition adds

-- the parameter that stands behind `by`, if one does
abbrev pub given_by : Vocabulary → By → Option Param
given_by words By.Nothing = None
given_by words (By.Number k) = option_map params.Scale k
given_by words (By.Relation name) = option_map params.Rows (relation_named words name)

-- one local more: its name joins those of the cells, and a fresh cell of the kind joins what was
-- expanded
abbrev pub with_local : CellNames × Walk → List ℕ → Kinded → CellNames × Walk
with_local (names, e) name kind =
    (with_cell_name names name (length e.kinds), record e { kinds = e.kinds ++ kind ∷ [] })

-- What a step of a definition adds, where a use of the definition is given `given`. A local adds a
-- fresh cell, of its own kind or of that of the cell that it is like. A use adds what its name
-- stands for; it is given what stands behind its own `by`, or the same as the definition.
abbrev pub step_added : List Stored → Vocabulary → List Compound → Option Param
    → CellNames × Walk → Step → CellNames × Walk
step_added library words compounds given (names, e) (Step.Local name kind) =
    with_local (names, e) name (unwrap_or (kind_named words kind) span_kind)
step_added library words compounds given (names, e) (Step.Like name like) =
    with_local (names, e) name (kind_at e.kinds (unwrap_or (cell_named names like) 0))
step_added library words compounds given (names, e) (Step.Use name cells passed) =
    let own : Option Param = elim passed [ Said by ↦ given_by words by | Own ↦ given ] in
    (names, use_added library compounds name (cells_named names cells) own e)

-- The compound that a definition makes. A use of it adds what its steps add, in order. If a use is
-- given a parameter and none of the steps hands it on, the parameter is spare.
abbrev pub compound_of : List Stored → Vocabulary → List Compound → List ℕ → List (List ℕ)
    → List Step → Compound
compound_of library words compounds name params steps = record {
  name = name;
  wants = length params;
  adds = λ cells given e.
      let handed = list_any (elim [ Step.Use name cells Own ↦ true | step ↦ false ]) steps in
      let names : CellNames = record { names = params; cells = cells } in
      let before = record e { spare = e.spare || (is_some given && not handed) } in
      (fold (step_added library words compounds given) (names, before) steps).1;
}

-- ---- for what a definition is refused

-- each step with the names of the cells that are there for it: the parameters, and the locals of
-- the steps before it
abbrev pub scoped : List (List ℕ) → List Step → List (List (List ℕ) × Step)
scoped names [] = []
scoped names (step ∷ steps) = (names, step) ∷ scoped (names ++ locals_of step) steps

-- The step may not stand for this reason. It comes with the names of the cells that are there for
-- it, and `named` says what a name in a use stands for.
abbrev pub is_wrong : Vocabulary → (List ℕ → Option Compound) → Refusal → List (List ℕ) × Step
    → Bool
is_wrong words named NoSuchDomain (names, Step.Local name kind) = is_none (kind_named words kind)
is_wrong words named NoSuchCell (names, Step.Like name like) = is_missing names (like ∷ [])
is_wrong words named NoSuchRelation (names, Step.Use name cells (Said (By.Relation r))) =
    is_none (number_in words.relation_names r)
is_wrong words named NoSuchCell (names, Step.Use name cells passed) = is_missing names cells
is_wrong words named NoSuchProcedure (names, Step.Use name cells passed) = is_none (named name)
is_wrong words named WrongCount (names, Step.Use name cells passed) =
    is_miscounted (named name) (length cells)
is_wrong words named reason step = false

-- why the definition may not be made: the first reason that there is
abbrev pub compound_refusal : List Stored → Vocabulary → List Compound → List ℕ → List (List ℕ)
    → List Step → Option Refusal
compound_refusal library words compounds name params steps =
    let named = compound_named library compounds in
    let all = params ++ flat_map locals_of steps in
    first_of (when NameTaken (is_some (named name) || has_repeat all)
    ∷ map (λ reason. when reason (list_any (is_wrong words named reason) (scoped params steps)))
    (NoSuchDomain ∷ NoSuchRelation ∷ NoSuchCell ∷ NoSuchProcedure ∷ WrongCount ∷ []))
