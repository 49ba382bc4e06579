-- The names of cells that have none of their own, and of instances, by the uses that made them; and
-- the words for kinds.
use Rattle.std.specs.Prelude.{ℕ, zero, suc, ◌+◌, ◌-◌, List, [], ◌∷◌, ◌++◌, cond, nat_le, codes}
use Rattle.std.specs.Prelude.{decimal, Option, Some, None, filter, flat_map, length, slice_get}
use Rattle.std.specs.Prelude.{unwrap_or, ◌==◌}
use Rattle.std.specs.Option.{option_and_then, option_map_or}
use Rattle.prop_lattice.specs.declared.info.Kind.{Kind}
use Rattle.prop_lattice.specs.declared.info.Kind.TheVariants.{Span, Set, Symbol}
use Rattle.prop_vocabulary.specs.Cells.{CellNames, name_at}
use Rattle.prop_notes.specs.Notes.{Part, Inner, Use, Notes, inner_at, path_within}

-- how many uses began where there were no more cells, or no more instances, than these: the last of
-- them made the one of this number
abbrev pub uses_by_cell : List Use → ℕ → ℕ
uses_by_cell uses cell = length (filter (λ (u : Use). nat_le u.cells cell) uses)

abbrev pub uses_by_instance : List Use → ℕ → ℕ
uses_by_instance uses i = length (filter (λ (u : Use). nat_le u.instances i) uses)

-- the use of a number from 1 on
abbrev pub use_at : Notes → ℕ → Option Use
use_at notes zero = None
use_at notes (suc n) = slice_get notes.uses n

-- what was required is named so by the number of its use
abbrev pub required_text : ℕ → List ℕ
required_text number = codes "require:" ++ decimal number

-- ---- cells

-- a cell of which no use is known
abbrev pub unknown_text : ℕ → List ℕ
unknown_text cell = codes "#" ++ decimal cell

-- the path of a cell within the use that made it
abbrev pub local_of : Notes → ℕ → Use → Option (List ℕ)
local_of notes cell u =
    option_and_then (λ (d : Inner). slice_get d.locals (cell - u.cells)) (inner_at notes u.of)

-- a cell by the use of this number; those that were required have numbers from 1 on
abbrev pub local_by : Notes → ℕ → ℕ → Use → List ℕ
local_by notes cell number u = cond u.required
    (required_text number ++ (codes "." ++ decimal (cell - u.cells + 1)))
    (option_map_or (path_within number) (local_of notes cell u) (unknown_text cell))

-- a cell by its use, or by `#` and its number where none is known
abbrev pub local_text : Notes → ℕ → List ℕ
local_text notes cell =
    let number = uses_by_cell notes.uses cell in
    option_map_or (local_by notes cell number) (use_at notes number) (unknown_text cell)

-- a cell by its name, or by the use that made it
abbrev pub cell_name : Notes → CellNames → ℕ → List ℕ
cell_name notes names cell = unwrap_or (name_at names cell) (local_text notes cell)

-- cells, each with one space before it
abbrev pub cell_names : Notes → CellNames → List ℕ → List ℕ
cell_names notes names cells = flat_map (λ cell. 32 ∷ cell_name notes names cell) cells

-- ---- instances

-- the part that an instance is of the use that made it
abbrev pub part_of : Notes → ℕ → Use → Option Part
part_of notes i u =
    option_and_then (λ (d : Inner). slice_get d.parts (i - u.instances)) (inner_at notes u.of)

-- which of the uses made an instance, and what it is given, as text
pub record Made : Type 0 where
  pub path : List ℕ
  pub by : List ℕ

-- a part of the use of this number that is given this; a procedure's use is its own instance
abbrev pub made_by : ℕ → List ℕ → Option Part → Made
made_by number given (Some part) =
    record { path = path_within number part.path; by = cond part.own given part.by }
made_by number given None = record { path = decimal number; by = given }

-- an instance of the use of this number
abbrev pub made_in : Notes → ℕ → ℕ → Use → Made
made_in notes i number u = cond u.required (record { path = required_text number; by = [] })
    (made_by number u.by (part_of notes i u))

-- an instance by its use
abbrev pub made_at : Notes → ℕ → Made
made_at notes i =
    let number = uses_by_instance notes.uses i in
    option_map_or (made_in notes i number) (use_at notes number)
    (record { path = unknown_text i; by = [] })

-- ---- kinds

-- the name of the domain with this number, of which the first has 1
abbrev pub domain_text : Notes → ℕ → List ℕ
domain_text notes number = unwrap_or (slice_get notes.domains (number - 1)) []

-- the word for a kind
abbrev pub kind_text : Notes → Kind → List ℕ
kind_text notes Span = codes "span"
kind_text notes Symbol = codes "symbol"
kind_text notes (Set number) = cond (number == 0) (codes "truth") (domain_text notes number)
