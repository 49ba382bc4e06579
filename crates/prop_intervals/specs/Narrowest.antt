-- Which information is the narrowest that holds some numbers.
use Rattle.std.specs.Prelude.{ℤ}
use Rattle.prop_lattice.specs.Order.{Below}
use Rattle.prop_lattice.specs.Points.{Number, Holds}
use Rattle.prop_lattice.specs.declared.info.Info.{Info}

-- r is the highest information that holds each number of which P is true
pub record IsNarrowest (P : ℤ → Type 0) (r : Info) : Type 0 where
  pub holds : (v : ℤ) → P v → Holds r (Number v)
  pub highest : (s : Info) → ((v : ℤ) → P v → Holds s (Number v)) → Below s r
