-- Which cells are watched: those that are to be looked at for contradictions.
use Rattle.std.specs.Prelude.{◌≡◌, ◌<◌, ℕ, List, All, Contains, length}
use Rattle.prop_lattice.specs.declared.info.Info.TheVariants.{Contradiction}
use Rattle.prop_contents.specs.Contents.{beliefs}
use Rattle.prop_cells.specs.inner.Problems.{Premises}
use Rattle.prop_cells.specs.Data.{Data}

-- each watched number is that of a cell, and each cell that is believed to hold a contradiction is
-- watched
pub record IsWatched (s : Premises) (d : Data) (watched : List ℕ) : Type 0 where
  pub below : All (λ cell. cell < length d.kinds) watched
  pub holds : (cell : ℕ) → beliefs s d.contents cell ≡ Contradiction → Contains watched cell
