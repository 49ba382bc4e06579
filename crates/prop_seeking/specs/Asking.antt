-- Which lines ask for plans (points that fit), and what they ask.
use Rattle.std.specs.Prelude.{ℕ, ℤ, pos, List, [], ◌∷◌, ◌++◌, Bool, not, ◌&&◌, ◌||◌, codes}
use Rattle.std.specs.Prelude.{bytes_eq, take, drop, length, Option, Some, None, Result, Ok, Err}
use Rattle.std.specs.Prelude.{if◌then◌else◌, is_none, unsigned_abs, unwrap_or, slice_index_or}
use Rattle.std.specs.List.{list_all}
use Rattle.std.specs.Option.{option_map_or}
use Rattle.std.specs.Str.Lines.{strip_carriage_return}
use Rattle.prop_lattice.specs.declared.info.Kind.TheVariants.{Span}
use Rattle.prop_refusals.specs.Refusals.{first_of, when}
use Rattle.prop_refusals.specs.declared.refusal.Refusal.{Refusal}
use Rattle.prop_refusals.specs.declared.refusal.Refusal.TheVariants.{WrongForm, NotAName}
use Rattle.prop_refusals.specs.declared.refusal.Refusal.TheVariants.{NotANumber}
use Rattle.prop_refusals.specs.declared.refusal.Refusal.TheVariants.{NoSuchCell, WrongKind}
use Rattle.prop_procedures.specs.Fitting.{kind_at}
use Rattle.prop_language.specs.Commands.{Command, Value}
use Rattle.prop_language.specs.Names.{is_name, number_in}
use Rattle.prop_vocabulary.specs.Cells.{cells_named, is_cell_missing}
use Rattle.prop_workbench.specs.Machine.{State}
use Rattle.prop_telling.specs.Asking.{is_apart}

-- the line begins with this word, at its first byte
abbrev pub begins : List ℕ → List ℕ → Bool
begins word line = bytes_eq (take (length word) line) word && is_apart (drop (length word) line)

-- the line asks for plans
abbrev pub is_question : List ℕ → Bool
is_question line = (begins (codes "solve") line || begins (codes "least") line)
    || (begins (codes "greatest") line || begins (codes "plans") line)

-- the line as a command `fix`, so that its words are read as the elements of a value are
abbrev pub as_value : List ℕ → List ℕ
as_value line = codes "fix at {" ++ (strip_carriage_return line ++ codes "}")

-- Which plans are asked for: any one, one with the least or the greatest number at the first of the
-- named cells, or several that differ at the named cells.
pub data Aim : Type 0 where
  Any Least Greatest Differing : Aim

-- which plans are asked for, and the cells that are named
pub record Question : Type 0 where
  pub aim : Aim
  pub named : List ℕ

-- Why this can't be asked for by these cells, where it can't. A least or a greatest number needs a
-- cell, and one that is for numbers. Plans that differ need a cell.
abbrev pub unfit : State → Aim → List ℕ → Option Refusal
unfit s Any cells = None
unfit s aim [] = Some WrongForm
unfit s Differing cells = None
unfit s end (c ∷ cells) = elim (kind_at s.kinds c).kind [ Span ↦ None | _ ↦ Some WrongKind ]

-- the question about the cells with these names, and how many plans are asked for at most; or the
-- first reason why it is refused
abbrev pub asking : State → Aim → Option ℤ → List (List ℕ) → Result (Question × ℕ) Refusal
asking s aim most names =
    let cells = cells_named s.names names in
    option_map_or Err (first_of (when NotAName (not (list_all is_name names))
    ∷ when NoSuchCell (is_cell_missing s.names names) ∷ unfit s aim cells
    ∷ when NotANumber (is_none most) ∷ []))
    (Ok (record { aim = aim; named = cells }, unsigned_abs (unwrap_or most (pos 0))))

-- what a first word asks with the words behind it
abbrev pub asked_by : State → List ℕ → List (List ℕ) → Result (Question × ℕ) Refusal
asked_by s w ws =
    if bytes_eq w (codes "solve") then asking s Any (Some (pos 1)) ws else
    if bytes_eq w (codes "least") then asking s Least (Some (pos 1)) ws else
    if bytes_eq w (codes "greatest") then asking s Greatest (Some (pos 1)) ws else
    asking s Differing (number_in (pos 1) (pos 1_000_000_000) (slice_index_or ws 0 [])) (drop 1 ws)

-- what a line asks, by how it was read
abbrev pub asked : State → Result (Option Command) Refusal → Result (Question × ℕ) Refusal
asked s (Ok (Some (Command.Fix cell (Value.Braces (w ∷ ws))))) = asked_by s w ws
asked s (Ok read) = Err WrongForm
asked s (Err refusal) = Err refusal
