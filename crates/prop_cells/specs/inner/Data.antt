-- How data is stored: beside it there are, for each cell, its readers, its writers, and the
-- premises under which something is stated of it.
use Rattle.std.specs.Prelude.{◌≡◌, ◌<◌, ℕ, IsTrue, List, [], All, length, slice_get, slice_index_or}
use Rattle.std.specs.Prelude.{Some, Contains}
use Rattle.prop_numbers.specs.Sets.{set_of}
use Rattle.prop_cells.specs.Instances.{Instance, readers_of, writers_of}
use Rattle.prop_cells.specs.Data.{Data, IsWellMade}

-- all instances that read the cell are among these, and these are instances
pub record AreReaders (instances : List Instance) (cell : ℕ) (row : List ℕ) : Type 0 where
  pub covers : (j : ℕ) (x : Instance) → slice_get instances j ≡ Some x → Contains x.inputs cell
      → Contains row j
  pub below : All (λ j. j < length instances) row

-- ---- how cells are stored

-- there is a row for each of n cells, and each cell has the row that `row_of` says
pub record AreRows (n : ℕ) (row_of : ℕ → List ℕ) (rows : List (List ℕ)) : Type 0 where
  pub count : length rows ≡ n
  pub each : (cell : ℕ) → slice_index_or rows cell [] ≡ row_of cell

-- there is a set for each cell, and it has the premise of each statement of the cell
pub record AreTold (d : Data) (told : List (List ℕ)) : Type 0 where
  pub count : length told ≡ length d.kinds
  pub each : All (λ x. (p : ℕ) → x.premise ≡ Some p
      → IsTrue (set_of (slice_index_or told x.cell []) p)) d.statements

-- the data is well made; beside it are the readers and the writers of each cell, and the premises
-- under which something is stated of it
pub record IsStored (d : Data) (reading writing telling : List (List ℕ)) : Type 0 where
  pub made : IsWellMade d
  pub readers : AreRows (length d.kinds) (readers_of d.instances) reading
  pub writers : AreRows (length d.kinds) (writers_of d.instances) writing
  pub told : AreTold d telling
