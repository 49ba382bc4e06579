-- The texts of what is told.
use Rattle.std.specs.Prelude.{ℕ, ◌+◌, ◌&&◌, List, [], ◌∷◌, ◌++◌, length, flat_map, filter, codes}
use Rattle.std.specs.Prelude.{slice_get, decimal, unwrap_or, is_some}
use Rattle.std.specs.List.{range_with_len}
use Rattle.std.specs.Option.{option_map_or}
use Rattle.prop_numbers.specs.Sets.{Members}
use Rattle.prop_premises.specs.Origins.{Origin, User, Side, side_at}
use Rattle.prop_vocabulary.specs.Cells.{CellNames, name_at}
use Rattle.prop_procedures.specs.Stored.{Stored}
use Rattle.prop_cells.specs.Instances.{Instance}
use Rattle.prop_texts.specs.Texts.{premises_text}

-- a cell by its name, or by `#` and its number where it has none
abbrev pub cell_text : CellNames → ℕ → List ℕ
cell_text names cell = unwrap_or (name_at names cell) (codes "#" ++ decimal cell)

-- cells, each with one space before it
abbrev pub cells_text : CellNames → List ℕ → List ℕ
cells_text names cells = flat_map (λ cell. 32 ∷ cell_text names cell) cells

-- the name of the procedure of a number
abbrev pub procedure_text : List Stored → ℕ → List ℕ
procedure_text library n = option_map_or (λ p. p.name) (slice_get library n) []

-- an instance by its number, with its procedure, its inputs and its output
abbrev pub call_text : CellNames → List Stored → ℕ → Instance → List ℕ
call_text names library i x =
    codes "called: " ++ (decimal i ++ (codes " " ++ (procedure_text library x.procedure
    ++ (cells_text names x.inputs ++ (codes " " ++ cell_text names x.output)))))

-- the sides of choices among these premises, each with one space before it
abbrev pub sides_text : List Origin → Members → List ℕ
sides_text premises w =
    premises_text premises
    (filter (λ p. w p && is_some (side_at premises p)) (range_with_len 0 (length premises)))

-- a side of a choice, and its next one, each with one space before it
abbrev pub sides_of : Origin → List ℕ
sides_of (User name believed) = []
sides_of (Side choice side sides) =
    codes " " ++ (choice ++ (codes "=" ++ (decimal side ++ (codes " " ++ (choice ++ (codes "="
    ++ decimal (side + 1)))))))

-- the side that a choice left, and its next one
abbrev pub moved_text : List Origin → ℕ → List ℕ
moved_text premises side = option_map_or sides_of (slice_get premises side) []
