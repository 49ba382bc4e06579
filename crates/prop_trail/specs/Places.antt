-- What is believed of one place.
use Rattle.std.specs.Prelude.{ℕ, ℤ, ◌-◌, ◌^◌, Option, None, Some, count_ones}
use Rattle.prop_lattice.specs.Points.{Point, Holds}
use Rattle.prop_lattice.specs.declared.info.Info.{Info}
use Rattle.prop_lattice.specs.declared.info.Info.TheVariants.{Nothing, Span, Set, Sym}
use Rattle.prop_lattice.specs.declared.info.Info.TheVariants.{Contradiction}
use Rattle.prop_lattice.specs.Ends.{numbers_in}
use Rattle.prop_trail.specs.Narrowing.{IsGone}
use Rattle.prop_trail.specs.Windows.{Ruled, IsOut, flipped, window_of, left_in}
use Rattle.prop_trail.specs.declared.entry.Entry.{Entry}
use Rattle.prop_trail.specs.declared.place.Place.{Place}

-- the place at the root, where this is believed of it
abbrev pub root_of : Info → Place
root_of info = record { info = info; newest = None; window = window_of info }

-- the window after a number was ruled out, or none
abbrev pub without_out : Ruled → Option ℤ → Ruled
without_out w None = w
without_out w (Some n) = flipped w n

-- the place once the entry with this number is made
abbrev pub made : Place → Entry → ℕ → Place
made x e at = record { info = e.is; newest = Some at; window = without_out x.window e.out }

-- the place once its newest entry is taken back
abbrev pub unmade : Place → Entry → Place
unmade x e = record { info = e.was; newest = e.before; window = without_out x.window e.out }

-- the value is left: what is believed leaves it, and it wasn't ruled out
abbrev pub IsLeftIn : Place → Point → Type 0
IsLeftIn x p = Holds x.info p × (IsGone (IsOut x.window) p → ⊥)

-- how many values an information leaves but for those that were ruled out; of nothing the most that
-- can be told
abbrev pub values_in : Ruled → Info → ℕ
values_in w Nothing = 2 ^ 64 - 1
values_in w (Span s) = left_in w s.lo (numbers_in s)
values_in w (Set s) = count_ones s.bits
values_in w (Sym s) = 1
values_in w Contradiction = 0

-- how many values are left
abbrev pub values_of : Place → ℕ
values_of x = values_in x.window x.info
