-- Which information is the narrowest that holds some elements.
use Rattle.std.specs.Prelude.{ℕ}
use Rattle.prop_lattice.specs.Order.{Below}
use Rattle.prop_lattice.specs.Points.{Element, Holds}
use Rattle.prop_lattice.specs.declared.info.Info.{Info}

-- r is the highest information that holds each element of which P is true
pub record IsNarrowest (P : ℕ → Type 0) (r : Info) : Type 0 where
  pub holds : (j : ℕ) → P j → Holds r (Element j)
  pub highest : (s : Info) → ((j : ℕ) → P j → Holds s (Element j)) → Below s r
