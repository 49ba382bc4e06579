-- What lines declared, as far as the session keeps no names of it.
use Rattle.std.specs.Prelude.{ℕ, suc, List, [], ◌∷◌, ◌++◌, Bool, true, false, cond, bytes_eq, codes}
use Rattle.std.specs.Prelude.{decimal, Option, Some, None, Result, Ok, map, position, slice_get}
use Rattle.std.specs.Prelude.{take, cond}
use Rattle.std.specs.Fmt.{signed_decimal}
use Rattle.std.specs.Option.{option_map_or, option_and_then}
use Rattle.prop_refusals.specs.declared.refusal.Refusal.{Refusal}
use Rattle.prop_language.specs.Commands.{By, Passed, Step, Command}
use Rattle.prop_engine.specs.Answers.{Answer, Done}

-- an instance that a use makes: which of the uses within it, and within that, and so on; and what
-- it is given: what the use is given, or what stands here as text
pub record Part : Type 0 where
  pub path : List ℕ
  pub own : Bool
  pub by : List ℕ

-- a definition by its name: the paths of the cells that a use makes, and its instances, in order
pub record Inner : Type 0 where
  pub name : List ℕ
  pub locals : List (List ℕ)
  pub parts : List Part

-- a use that was attached, or what a line required: of the definition with this number, if it is of
-- one, whether it was required, what it is given as text, and how many cells and instances there
-- were before it
pub record Use : Type 0 where
  pub of : Option ℕ
  pub required : Bool
  pub by : List ℕ
  pub cells : ℕ
  pub instances : ℕ

-- what was declared, in order: domains by name, definitions, and uses
pub record Notes : Type 0 where
  pub domains : List (List ℕ)
  pub definitions : List Inner
  pub uses : List Use

-- nothing was declared
abbrev pub no_notes : Notes
no_notes = record { domains = []; definitions = []; uses = [] }

-- ---- what is given

-- what is given, as text behind a cell
abbrev pub by_text : By → List ℕ
by_text By.Nothing = []
by_text (By.Number scale) = option_map_or (λ k. codes " by " ++ signed_decimal k) scale []
by_text (By.Relation name) = codes " by " ++ name

-- a use within a definition is given what that is given
abbrev pub is_own : Passed → Bool
is_own (Passed.Said by) = false
is_own Passed.Own = true

abbrev pub passed_text : Passed → List ℕ
passed_text (Passed.Said by) = by_text by
passed_text Passed.Own = []

-- ---- definitions

-- of a definition so many cells and so many instances are kept by their paths
abbrev pub most_paths : ℕ
most_paths = 4096

-- a path within the use of this number
abbrev pub path_within : ℕ → List ℕ → List ℕ
path_within number path = decimal number ++ (codes "." ++ path)

-- the number of the definition with this name
abbrev pub definition_named : Notes → List ℕ → Option ℕ
definition_named notes name = position (λ (d : Inner). bytes_eq d.name name) notes.definitions

-- the definition that a use is of
abbrev pub inner_at : Notes → Option ℕ → Option Inner
inner_at notes of = option_and_then (λ n. slice_get notes.definitions n) of

-- the cells that a use of this number makes within a definition
abbrev pub locals_within : ℕ → Option Inner → List (List ℕ)
locals_within number (Some inner) = map (path_within number) inner.locals
locals_within number None = []

-- a part of the use of this number, which is given this within a definition
abbrev pub part_within : ℕ → Passed → Part → Part
part_within number passed part = record {
  path = path_within number part.path;
  own = cond part.own (is_own passed) false;
  by = cond part.own (passed_text passed) part.by;
}

-- the instances that a use of this number makes, which is given this within a definition
abbrev pub parts_within : ℕ → Passed → Option Inner → List Part
parts_within number passed (Some inner) = map (part_within number passed) inner.parts
parts_within number passed None =
    record { path = decimal number; own = is_own passed; by = passed_text passed } ∷ []

-- the cells that steps make, of whose uses the first has the next number
abbrev pub locals_from : Notes → ℕ → List Step → List (List ℕ)
locals_from notes number [] = []
locals_from notes number (Step.Local name kind ∷ steps) = name ∷ locals_from notes number steps
locals_from notes number (Step.Like name like ∷ steps) = name ∷ locals_from notes number steps
locals_from notes number (Step.Use name cells passed ∷ steps) =
    locals_within (suc number) (inner_at notes (definition_named notes name)) ++ locals_from notes
    (suc number) steps

-- the instances that they make
abbrev pub parts_from : Notes → ℕ → List Step → List Part
parts_from notes number [] = []
parts_from notes number (Step.Local name kind ∷ steps) = parts_from notes number steps
parts_from notes number (Step.Like name like ∷ steps) = parts_from notes number steps
parts_from notes number (Step.Use name cells passed ∷ steps) =
    parts_within (suc number) passed (inner_at notes (definition_named notes name)) ++ parts_from
    notes (suc number) steps

-- a definition with these steps
abbrev pub inner_of : Notes → List ℕ → List Step → Inner
inner_of notes name steps = record {
  name = name;
  locals = take most_paths (locals_from notes 0 steps);
  parts = take most_paths (parts_from notes 0 steps);
}

-- ---- what a line declares

pub data Note : Type 0 where
  Domain : List ℕ → Note
  Definition : Inner → Note
  Attached : Use → Note

-- what a command declares, where there are so many cells and instances
abbrev pub note_of : Notes → ℕ → ℕ → Command → Option Note
note_of notes cells instances (Command.Domain name elements) = Some (Domain name)
note_of notes cells instances (Command.Define name params steps) =
    Some (Definition (inner_of notes name steps))
note_of notes cells instances (Command.Attach name on by) =
    Some (Attached (record {
      of = definition_named notes name;
      required = false;
      by = by_text by;
      cells = cells;
      instances = instances;
    }))
note_of notes cells instances command = None

-- what a line required, where there are so many cells and instances
abbrev pub required : ℕ → ℕ → Note
required cells instances = Attached (record {
  of = None;
  required = true;
  by = [];
  cells = cells;
  instances = instances;
})

-- one note more
abbrev pub with_note : Notes → Note → Notes
with_note notes (Domain name) = record notes { domains = notes.domains ++ name ∷ [] }
with_note notes (Definition inner) = record notes { definitions = notes.definitions ++ inner ∷ [] }
with_note notes (Attached made) = record notes { uses = notes.uses ++ made ∷ [] }

-- what a line that was read so declares
abbrev pub note_read : Notes → ℕ → ℕ → Result (Option Command) Refusal → Option Note
note_read notes cells instances (Ok (Some command)) = note_of notes cells instances command
note_read notes cells instances read = None

abbrev pub is_done : Answer → Bool
is_done Done = true
is_done answer = false

abbrev pub with_noted : Notes → Option Note → Notes
with_noted notes (Some note) = with_note notes note
with_noted notes None = notes

-- a line that is carried out is noted
abbrev pub noted : Notes → Option Note → Answer → Notes
noted notes declared answer = cond (is_done answer) (with_noted notes declared) notes
