-- What comes of something that is said of a place.
use Rattle.std.specs.Prelude.{◌≡◌, ◌≢◌, ◌⊎◌, ℕ, ℤ, Some, None, true, false}
use Rattle.std.specs.Prelude.{length, slice_get, ◌+◌, IfSome}
use Rattle.prop_lattice.specs.Order.{Below, merge_of}
use Rattle.prop_lattice.specs.Points.{Point, Number, Holds}
use Rattle.prop_lattice.specs.declared.info.Info.{Info}
use Rattle.prop_lattice.specs.declared.info.Info.TheVariants.{Nothing, Contradiction}
use Rattle.prop_facts.specs.Changing.{AreBetween}
use Rattle.prop_facts.specs.Facts.{IsSo, IsInRange}
use Rattle.prop_facts.specs.declared.changes.Changes.{Changes}
use Rattle.prop_facts.specs.declared.fact.Fact.{Fact}
use Rattle.prop_facts.specs.declared.fact.Literal.{Literal}
use Rattle.prop_trail.specs.Narrowing.{IsNarrowed}
use Rattle.prop_trail.specs.Trails.{Trailed, info_of, newest_of, window_at, IsLeft, entered}
use Rattle.prop_trail.specs.Trails.{before_of}
use Rattle.prop_trail.specs.Windows.{CanGo, IsOut}
use Rattle.prop_trail.specs.declared.entry.Outcome.{Outcome}
use Rattle.prop_trail.specs.declared.entry.Outcome.TheVariants.{Same, Changed, Clash}
use Rattle.prop_trail.specs.declared.entry.Source.{Source}

-- The information was said: it is the same where it was believed before. Else what is believed is
-- both, without the ends that were ruled out, and one more entry says so; or it is a clash, where
-- no value is left.
abbrev pub Said : Trailed → ℕ → Info → Source → Trailed → Outcome → Type 0
Said old place said by new Same = Below said (info_of old place) × (new ≡ old)
Said old place said by new Clash =
    IsNarrowed (IsOut (window_at old place)) (merge_of (info_of old place) said) Contradiction
    × (new ≡ old)
Said old place said by new (Changed changes) =
    (is : Info) × (is ≢ Contradiction) × AreBetween (info_of old place) is changes
    × IsNarrowed (IsOut (window_at old place)) (merge_of (info_of old place) said) is
    × (new ≡ entered old (record {
      place = place;
      before = newest_of old place;
      was = info_of old place;
      is = is;
      said = said;
      out = None;
      by = by;
      level = length old.starts;
    }))

-- a value went that is no end
abbrev pub hole_alone : Changes
hole_alone = record { low = false; high = false; point = false; hole = true }

-- the changes as a number went: within the span, or as an end moved
abbrev pub AreWithout : Info → Info → Changes → Type 0
AreWithout was is changes =
    (is ≡ was → changes ≡ hole_alone) × (is ≢ was → AreBetween was is changes)

-- The number was ruled out: it is the same where it wasn't left, and where it is no end and not
-- kept. Else what is believed is the same without it and without the ends that were ruled out, and
-- one more entry says so; or it is a clash, where it was the only value that was left.
abbrev pub RuledOut : Trailed → ℕ → ℤ → Source → Trailed → Outcome → Type 0
RuledOut old place n by new Same =
    (IsLeft old place (Number n) → CanGo (info_of old place) (window_at old place) n → ⊥)
    × (new ≡ old)
RuledOut old place n by new Clash =
    IsLeft old place (Number n) × ((p : Point) → IsLeft old place p → p ≡ Number n) × (new ≡ old)
RuledOut old place n by new (Changed changes) =
    (is : Info) × (is ≢ Contradiction) × AreWithout (info_of old place) is changes
    × IsLeft old place (Number n)
    × IsNarrowed (λ m. IsOut (window_at old place) m ⊎ (m ≡ n)) (info_of old place) is
    × (new ≡ entered old (record {
      place = place;
      before = newest_of old place;
      was = info_of old place;
      is = is;
      said = Nothing;
      out = Some n;
      by = by;
      level = length old.starts;
    }))

-- the information says as much as the fact, of all values that there may be
abbrev pub IsMeant : Fact → Info → Type 0
IsMeant fact said =
    ((p : Point) → IsInRange p → IsSo fact p → Holds said p)
    × ((p : Point) → Holds said p → IsSo fact p)

-- the fact is so of all values that are left
abbrev pub Says : Trailed → Literal → Type 0
Says t l = (p : Point) → IsLeft t l.place p → IsSo l.fact p

-- the fact is so of no value that is left
abbrev pub Bars : Trailed → Literal → Type 0
Bars t l = (p : Point) → IsLeft t l.place p → IsSo l.fact p → ⊥

-- the literal holds since this entry, which is its place's, and not before
pub record IsMaker (t : Trailed) (l : Literal) (at : ℕ) : Type 0 where
  pub place : IfSome (slice_get t.entries at) (λ e. e.place ≡ l.place)
  pub before : Says (before_of t at) l → ⊥
  pub since : Says (before_of t (at + 1)) l
