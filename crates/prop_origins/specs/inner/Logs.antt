-- Parts, and beside them what they say of each cell.
use Rattle.std.specs.Prelude.{◌≡◌, ◌≢◌, ◌<◌, ℕ, List, [], All, length, slice_index_or}
use Rattle.prop_lattice.specs.declared.info.Info.{Info}
use Rattle.prop_lattice.specs.declared.info.Info.TheVariants.{Nothing}
use Rattle.prop_numbers.specs.Sets.{set_of, union, IsSame}
use Rattle.prop_origins.specs.Parts.{Part, made, rests_on}

-- parts at cells below a number
pub record Logged : Type 0 where
  pub cells : ℕ
  pub parts : List Part

-- the part's cell and its inputs are below a number
pub record IsPartWithin (n : ℕ) (p : Part) : Type 0 where
  pub cell : p.cell < n
  pub inputs : All (λ input. input < n) p.inputs

-- for each cell what the parts say of it, and on which premises they rest there; the cells of all
-- parts are among these
pub record IsLogged (known : List Info) (resting : List (List ℕ)) (parts : List Part) : Type 0 where
  pub count : length resting ≡ length known
  pub says : (cell : ℕ) → slice_index_or known cell Nothing ≡ made parts cell
  pub rests : (cell : ℕ) → IsSame (set_of (slice_index_or resting cell [])) (rests_on parts cell)
  pub within : All (IsPartWithin (length known)) parts

-- the set at a place has these premises too, and the others stay
pub record UnitesAt (old new : List (List ℕ)) (place : ℕ) (more : List ℕ) : Type 0 where
  pub here : IsSame (set_of (slice_index_or new place []))
      (union (set_of (slice_index_or old place [])) (set_of more))
  pub others : (k : ℕ) → k ≢ place → slice_index_or new k [] ≡ slice_index_or old k []
