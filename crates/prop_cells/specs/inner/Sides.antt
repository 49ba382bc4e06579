-- How the sides of a choice are stated at a cell, all or none: what one adds, and what is taken
-- back.
use Rattle.std.specs.Prelude.{ℕ, take}
use Rattle.prop_contents.specs.Changes.{entries_below}
use Rattle.prop_cells.specs.Data.{Data}

-- the data with only the statements below this number, where the cell has only its entries with
-- premises below this one
abbrev pub statements_back : ℕ → ℕ → ℕ → Data → Data
statements_back count cell premise d =
    record d {
      statements = take count d.statements;
      contents = entries_below premise d.contents cell;
    }
