-- What is there, line by line.
use Rattle.std.specs.Prelude.{◌≡◌, ◌⊎◌, ℕ, List, [], ◌∷◌, ◌++◌, Bool, true, false, codes}
use Rattle.std.specs.Prelude.{decimal, Option, Some, None, flat_map, length, map, slice_get}
use Rattle.std.specs.Prelude.{slice_index_or, unwrap_or, ◌+◌}
use Rattle.std.specs.List.{range_with_len}
use Rattle.std.specs.Option.{option_map_or}
use Rattle.prop_numbers.specs.Sets.{Members, set_of}
use Rattle.prop_refusals.specs.declared.refusal.Refusal.TheVariants.{Memory}
use Rattle.prop_premises.specs.Origins.{Origin, User, Side, choices_of, name_of}
use Rattle.prop_premises.specs.Origins.{believed_in}
use Rattle.prop_premises.specs.declared.choice.Choice.{Choice}
use Rattle.prop_premises.specs.ChoiceLists.{hypothetical}
use Rattle.prop_procedures.specs.Stored.{Stored}
use Rattle.prop_procedures.specs.Fitting.{kind_at}
use Rattle.prop_vocabulary.specs.Cells.{CellNames}
use Rattle.prop_cells.specs.declared.instance.Statement.{Statement}
use Rattle.prop_cells.specs.Instances.{Instance}
use Rattle.prop_amb.specs.Search.{Stand}
use Rattle.prop_amb.specs.Going.{Work}
use Rattle.prop_engine.specs.Answers.{Answer, Text, Refused}
use Rattle.prop_texts.specs.Texts.{premises_text}
use Rattle.prop_texts.specs.inner.Listed.{label_at}
use Rattle.prop_workbench.specs.Machine.{State}
use Rattle.prop_workbench.specs.inner.Machine.{text_at}
use Rattle.prop_workbench.specs.Engine.{Standing}
use Rattle.prop_notes.specs.Texts.{procedure_text}
use Rattle.prop_notes.specs.Notes.{Notes}
use Rattle.prop_notes.specs.Naming.{cell_name, cell_names, kind_text, made_at}

abbrev pub belief_text : Bool → List ℕ
belief_text true = codes "in"
belief_text false = codes "out"

-- a cell with its kind
abbrev pub cell_line : Notes → State → ℕ → List ℕ
cell_line notes s cell =
    codes "cell " ++ (cell_name notes s.names cell ++ (codes " "
    ++ kind_text notes (kind_at s.kinds cell).kind))

-- an instance by its number and the use that made it, with its procedure, its cells and what it was
-- given
abbrev pub instance_text : Notes → List Stored → CellNames → ℕ → Instance → List ℕ
instance_text notes library names i x =
    let made = made_at notes i in
    codes "instance " ++ (decimal i ++ (codes " " ++ (made.path ++ (codes " "
    ++ (procedure_text library x.procedure ++ (cell_names notes names x.inputs ++ (codes " "
    ++ (cell_name notes names x.output ++ made.by))))))))

abbrev pub instance_line : Notes → List Stored → State → ℕ → List ℕ
instance_line notes library s i =
    option_map_or (instance_text notes library s.names i) (slice_get s.instances i) []

-- how a statement under this premise begins
abbrev pub begin_text : List Origin → Option ℕ → List ℕ
begin_text premises None = codes "fix"
begin_text premises (Some p) = codes "tell " ++ label_at premises p

-- a statement
abbrev pub statement_text : Notes → State → Statement → List ℕ
statement_text notes s x =
    begin_text s.premises x.premise ++ (codes " " ++ (cell_name notes s.names x.cell ++ (codes " "
    ++ text_at s x.cell x.info)))

abbrev pub statement_line : Notes → State → ℕ → List ℕ
statement_line notes s n = option_map_or (statement_text notes s) (slice_get s.statements n) []

-- a premise of the user's, and whether it is believed
abbrev pub premise_text : List ℕ → Bool → List ℕ
premise_text name believed = codes "premise " ++ (name ++ (codes " " ++ belief_text believed))

abbrev pub premise_lines : Origin → List (List ℕ)
premise_lines (User name believed) = premise_text name believed ∷ []
premise_lines (Side choice side sides) = []

-- the same of the premise with this number
abbrev pub premise_line : List Origin → ℕ → List ℕ
premise_line premises p =
    premise_text (option_map_or name_of (slice_get premises p) []) (believed_in premises p)

-- a choice, the side on which it stands, of how many, and whether that is believed
abbrev pub choice_text : List Origin → Members → ℕ → Choice → List ℕ
choice_text premises w side c =
    codes "choice " ++ (option_map_or name_of (slice_get premises c.first) [] ++ (codes " "
    ++ (decimal side ++ (codes " of " ++ (decimal c.sides ++ (codes " "
    ++ belief_text (w (hypothetical c side))))))))

abbrev pub choice_line : List Origin → Members → List ℕ → ℕ → List ℕ
choice_line premises w list place =
    option_map_or (choice_text premises w (unwrap_or (slice_get list place) 0))
    (slice_get (choices_of premises) place) []

-- the reason against a side that a choice left, of which the first has 0
abbrev pub refuted_line : List Origin → Choice → List (List ℕ) → ℕ → List ℕ
refuted_line premises c reasons n =
    codes "refuted " ++ (option_map_or name_of (slice_get premises c.first) [] ++ (codes "="
    ++ (decimal (n + 1) ++ (codes " because" ++ premises_text premises
    (slice_index_or reasons n [])))))

abbrev pub refuted_lines : List Origin → Choice → List (List ℕ) → List (List ℕ)
refuted_lines premises c reasons =
    map (refuted_line premises c reasons) (range_with_len 0 (length reasons))

-- a choice, and the sides that it left
abbrev pub choice_lines : Stand → ℕ → List (List ℕ)
choice_lines s place =
    choice_line s.premises (set_of s.worldview) s.list place ∷ option_map_or
    (λ (c : Choice). refuted_lines s.premises c (slice_index_or s.reasons place []))
    (slice_get (choices_of s.premises) place) []

-- all lines: the cells, the instances and the statements in order, the premises, and the choices
abbrev pub lines_of : {O : Type 0} → Notes → List Stored → State → Work O → List (List ℕ)
lines_of notes library s w =
    map (cell_line notes s) (range_with_len 0 (length s.kinds))
    ++ (map (instance_line notes library s) (range_with_len 0 (length s.instances))
    ++ (map (statement_line notes s) (range_with_len 0 (length s.statements))
    ++ (flat_map premise_lines s.premises
    ++ flat_map (choice_lines w.search) (range_with_len 0 (length w.search.list)))))

-- a reply of these lines, the first of which says how many follow
abbrev pub list_text : List (List ℕ) → List ℕ
list_text lines =
    codes "list " ++ (decimal (length lines) ++ flat_map (λ line. 10 ∷ line) lines)

-- what is there is told, or memory was refused
abbrev pub SaysList : {O : Type 0} → List Stored → Notes → Standing O → Answer → Type 0
SaysList library notes at answer =
    (answer ≡ Text (list_text (lines_of notes library at.shown.state at.work)))
    ⊎ (answer ≡ Refused Memory)
