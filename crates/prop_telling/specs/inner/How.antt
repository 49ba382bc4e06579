-- What is known of parts that are told.
use Rattle.std.specs.Prelude.{◌≡◌, ◌<◌, ℕ, All, length}
use Rattle.prop_cells.specs.Data.{Data}
use Rattle.prop_origins.specs.declared.part.Origin.TheVariants.{Called}
use Rattle.prop_origins.specs.Parts.{Part}

-- what the part names is there: its cell, its call, and its premises, of which there are n
pub record IsThere (d : Data) (n : ℕ) (p : Part) : Type 0 where
  pub cell : p.cell < length d.kinds
  pub call : (i : ℕ) → p.origin ≡ Called i → i < length d.instances
  pub support : All (λ q. q < n) p.support
