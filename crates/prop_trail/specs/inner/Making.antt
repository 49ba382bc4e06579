-- Entries as they are made, one after the other.
use Rattle.std.specs.Prelude.{◌≡◌, ◌<◌, ◌≤◌, ℕ, suc, IfSome, List, [], ◌∷◌, map, length}
use Rattle.std.specs.Prelude.{slice_index_or, ⊤}
use Rattle.prop_lattice.specs.Order.{Below}
use Rattle.prop_lattice.specs.Points.{Number}
use Rattle.prop_lattice.specs.declared.info.Info.{Info}
use Rattle.prop_lattice.specs.declared.info.Info.TheVariants.{Span}
use Rattle.prop_trail.specs.Narrowing.{IsTight}
use Rattle.prop_trail.specs.Places.{root_of, without_out, IsLeftIn}
use Rattle.prop_trail.specs.Trails.{place_at, after, all_after}
use Rattle.prop_trail.specs.Windows.{IsOut}
use Rattle.prop_trail.specs.declared.entry.Entry.{Entry}
use Rattle.prop_trail.specs.declared.place.Place.{Place}

-- the information is a span
abbrev pub IsSpan : Info → Type 0
IsSpan (Span s) = ⊤
IsSpan info = ⊥

-- the entry tells what was believed of its place, and says more; a number that it rules out was
-- left
pub record IsMadeOn (places : List Place) (e : Entry) : Type 0 where
  pub within : e.place < length places
  pub was : e.was ≡ (place_at places e.place).info
  pub before : e.before ≡ (place_at places e.place).newest
  pub grows : Below e.was e.is
  pub tight : IsTight (IsOut (without_out (place_at places e.place).window e.out)) e.is
  pub left : IfSome e.out (λ n. IsLeftIn (place_at places e.place) (Number n))
  pub span : IfSome e.out (λ n. IsSpan e.was)

-- each entry is made on those before it
abbrev pub AreMade : ℕ → List Place → List Entry → Type 0
AreMade at places [] = ⊤
AreMade at places (e ∷ es) = IsMadeOn places e × AreMade (suc at) (after places at e) es

-- levels begin one after the other
pub record AreStarts (starts : List ℕ) (count : ℕ) : Type 0 where
  pub ordered : (i j : ℕ) → i ≤ j → j < length starts
      → slice_index_or starts i 0 ≤ slice_index_or starts j 0
  pub within : (j : ℕ) → j < length starts → slice_index_or starts j 0 ≤ count

-- the places are as the entries leave them
pub record IsTrail (roots : List Info) (places : List Place) (entries : List Entry)
    (starts : List ℕ) : Type 0 where
  pub now : places ≡ all_after 0 (map root_of roots) entries
  pub entries_made : AreMade 0 (map root_of roots) entries
  pub starts_are : AreStarts starts (length entries)
