-- What is believed, by the entries that were made.
use Rattle.std.specs.Prelude.{ℕ, zero, suc, Option, List, [], ◌∷◌, ◌++◌, map, take}
use Rattle.std.specs.Prelude.{slice_index_or, slice_set}
use Rattle.prop_lattice.specs.Points.{Point}
use Rattle.prop_lattice.specs.declared.info.Info.{Info}
use Rattle.prop_lattice.specs.declared.info.Info.TheVariants.{Nothing}
use Rattle.prop_trail.specs.Places.{root_of, made, IsLeftIn}
use Rattle.prop_trail.specs.Windows.{Ruled}
use Rattle.prop_trail.specs.declared.entry.Entry.{Entry}
use Rattle.prop_trail.specs.declared.place.Place.{Place}

-- what is believed of each place at the root, the entries since then, and how many entries there
-- were as each level was begun
pub record Trailed : Type 0 where
  pub roots : List Info
  pub entries : List Entry
  pub starts : List ℕ

-- the place with this number
abbrev pub place_at : List Place → ℕ → Place
place_at places k = slice_index_or places k (root_of Nothing)

-- the places once the entry is made
abbrev pub after : List Place → ℕ → Entry → List Place
after places at e = slice_set places e.place (made (place_at places e.place) e at)

-- the places once these entries are made, of which the first has this number
abbrev pub all_after : ℕ → List Place → List Entry → List Place
all_after at places [] = places
all_after at places (e ∷ es) = all_after (suc at) (after places at e) es

-- the place as the entries leave it
abbrev pub place_of : Trailed → ℕ → Place
place_of t k = place_at (all_after 0 (map root_of t.roots) t.entries) k

-- what is believed of the place
abbrev pub info_of : Trailed → ℕ → Info
info_of t k = (place_of t k).info

-- the newest entry of the place
abbrev pub newest_of : Trailed → ℕ → Option ℕ
newest_of t k = (place_of t k).newest

-- the numbers of the place that were ruled out
abbrev pub window_at : Trailed → ℕ → Ruled
window_at t k = (place_of t k).window

-- the value of the place is left
abbrev pub IsLeft : Trailed → ℕ → Point → Type 0
IsLeft t k p = IsLeftIn (place_of t k) p

-- the trail as it was before the entry with this number
abbrev pub before_of : Trailed → ℕ → Trailed
before_of t at = record t { entries = take at t.entries }

-- the trail with one more entry
abbrev pub entered : Trailed → Entry → Trailed
entered t e = record t { entries = t.entries ++ e ∷ [] }

-- the number of the first entry of a level
abbrev pub start_of : List ℕ → ℕ → ℕ
start_of starts zero = 0
start_of starts (suc level) = slice_index_or starts level 0
