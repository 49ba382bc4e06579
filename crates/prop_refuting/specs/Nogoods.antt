-- Nogoods of a network: facts that nothing has together that satisfies what some premises say.
use Rattle.std.specs.Prelude.{◌≡◌, ℕ, List, ◌++◌, [], ◌∷◌, ◌⊎◌, All, Option, Some, None, slice_get}
use Rattle.std.specs.List.{swap_remove}
use Rattle.prop_lattice.specs.Points.{Point}
use Rattle.prop_numbers.specs.Sets.{set_of, union, IsSame}
use Rattle.prop_premises.specs.ChoiceLists.{IsChoiceList, worldview}
use Rattle.prop_premises.specs.declared.choice.Choice.{Choice}
use Rattle.prop_procedures.specs.Stored.{Stored}
use Rattle.prop_cells.specs.Points.{Attached, ArePoints}
use Rattle.prop_facts.specs.declared.fact.Fact.{Fact}
use Rattle.prop_facts.specs.declared.fact.Literal.{Literal}
use Rattle.prop_plans.specs.Held.{AreHeld}
use Rattle.prop_refuting.specs.Places.{IsSoAt}

-- a nogood: facts about places, and the premises that it rests on
pub record Nogood : Type 0 where
  pub literals : List Literal
  pub premises : List ℕ

-- The points meet the nogood: they satisfy what its premises say, with the sides that the list
-- takes, and have all of its facts.
pub record IsMet (library : List Stored) (n : Attached) (choices : List Choice) (g : Nogood)
    (list : List ℕ) (points : ℕ → Point) : Type 0 where
  pub satisfied : ArePoints (AreHeld library) n (worldview (set_of g.premises) choices list) points
  pub so : All (IsSoAt n points list) g.literals

-- whatever meets the nogood is excused: `Excuse` holds of it
pub record Excludes (library : List Stored) (n : Attached) (choices : List Choice)
    (Excuse : (ℕ → Point) → List ℕ → Type 0) (g : Nogood) : Type 0 where
  pub out : (list : List ℕ) (points : ℕ → Point) → IsChoiceList choices list
      → IsMet library n choices g list points → Excuse points list

-- Whatever meets the new nogood meets the old one. So if whatever meets the old one is excused,
-- whatever meets the new one is.
abbrev pub Narrows : List Stored → Attached → List Choice → Nogood → Nogood → Type 0
Narrows library n choices old new =
    (list : List ℕ) (points : ℕ → Point) → IsChoiceList choices list
    → IsMet library n choices new list points → IsMet library n choices old list points

-- whatever meets the new nogood meets the old one or the other
abbrev pub Resolves : List Stored → Attached → List Choice → Nogood → Nogood → Nogood → Type 0
Resolves library n choices old other new =
    (list : List ℕ) (points : ℕ → Point) → IsChoiceList choices list
    → IsMet library n choices new list points
    → IsMet library n choices old list points ⊎ IsMet library n choices other list points

-- nothing meets the nogood
abbrev pub IsNeverMet : List Stored → Attached → List Choice → Nogood → Type 0
IsNeverMet library n choices g = (list : List ℕ) (points : ℕ → Point) → IsChoiceList choices list
    → IsMet library n choices g list points → ⊥

-- ---- what a step leaves

-- the literal with this number went, the last one took its place, and `more` came at the end
abbrev pub IsReplaced : List Literal → ℕ → List Literal → List Literal → Type 0
IsReplaced old at more new =
    (gone : Literal) → slice_get old at ≡ Some gone → new ≡ swap_remove old at gone ++ more

-- the literal with this number was replaced by these, under the same premises
pub record Replaces (old : Nogood) (at : ℕ) (more : List Literal) (new : Nogood) : Type 0 where
  pub literals : IsReplaced old.literals at more new.literals
  pub premises : new.premises ≡ old.premises

-- the literal with this number was replaced by these, and these premises were added
pub record ReplacesUnder (old : Nogood) (at : ℕ) (more : List Literal) (came : List ℕ)
    (new : Nogood) : Type 0 where
  pub literals : IsReplaced old.literals at more new.literals
  pub premises : IsSame (set_of new.premises) (union (set_of old.premises) (set_of came))

-- the literal that says the fact of the place, where there is a fact
abbrev pub said_at : ℕ → Option Fact → List Literal
said_at place None = []
said_at place (Some fact) = record { place = place; fact = fact } ∷ []
