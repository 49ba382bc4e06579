-- What a search draws on.
use Rattle.std.specs.Prelude.{ℕ, List, Option}
use Rattle.prop_refuting.specs.Nogoods.{Nogood}

-- what a search draws on: the nogoods that are kept, and what is believed at the root, where no
-- side is believed
pub record Spread : Type 0 where
  pub nogoods : List (Option Nogood)
  pub root : List ℕ
