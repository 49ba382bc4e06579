-- What a term becomes, which is called posted: fresh cells, acts and constants. And what it means
-- that this says the same as the term.
use Rattle.std.specs.Prelude.{◌≡◌, ◌↔◌, ℕ, ◌+◌, ◌<◌, List, IsTrue, Some, slice_get}
use Rattle.std.specs.List.{AllByRecursion}
use Rattle.prop_lattice.specs.Points.{Point, Element, Holds, IsPointOf}
use Rattle.prop_procedures.specs.declared.shape.Kinded.{Kinded}
use Rattle.prop_procedures.specs.declared.shape.Param.{Param}
use Rattle.prop_terms.specs.Meaning.{holds, worth}
use Rattle.prop_terms.specs.Terms.{Term}
use Rattle.prop_meaning.specs.Acts.{RelatedBy, TellsBy, HoldsAt}
use Rattle.prop_meaning.specs.Words.{Lexicon, IsLexicon, Fits, names_at, value_as}
use Rattle.prop_meaning.specs.declared.acts.Rule.{Rule}
use Rattle.prop_meaning.specs.declared.posting.Posted.{Posted}

-- The points solve what was posted, behind so many given cells. Those of the fresh cells are of
-- their kinds, each constant holds the point of its cell, and the points at each act belong
-- together.
pub record Solves (related : Rule → Param → List Point → Point → Type 0) (count : ℕ)
    (posted : Posted) (points : ℕ → Point) : Type 0 where
  pub kinds : (k : ℕ) (kinded : Kinded) → slice_get posted.fresh.items k ≡ Some kinded
      → IsPointOf kinded.kind kinded.size (points (count + k))
  pub constants : AllByRecursion (λ c. Holds c.1 (points c.0)) posted.constants.items
  pub acts : AllByRecursion (HoldsAt related points) posted.acts.items

-- whichever fitting points the given cells have, the fresh cells have some with which what was
-- posted is solved
abbrev pub LosesNone : Lexicon → Posted → Type 0
LosesNone lexicon posted = (points : ℕ → Point) → Fits lexicon points
    → (all : ℕ → Point) × ((i : ℕ) → i < lexicon.count → all i ≡ points i)
    × Solves RelatedBy lexicon.count posted all

-- Wherever what was posted is solved, the point of the result is of the kind, and is what the term
-- is worth. No points of the given cells are lost.
pub record IsValue (lexicon : Lexicon) (posted : Posted) (kinded : Kinded) (t : Term) : Type 0 where
  pub none_lost : IsLexicon lexicon → LosesNone lexicon posted
  pub of_kind : IsLexicon lexicon → (points : ℕ → Point) → Fits lexicon points
      → Solves TellsBy lexicon.count posted points
      → IsPointOf kinded.kind kinded.size (points posted.result)
  pub worth_is : IsLexicon lexicon → (points : ℕ → Point) → Fits lexicon points
      → Solves TellsBy lexicon.count posted points
      → worth (names_at lexicon points) t
      ≡ Some (value_as lexicon kinded (points posted.result))

-- Wherever what was posted is solved, the point of the result is `yes` just where the term holds.
-- No points of the given cells are lost.
pub record SaysSame (lexicon : Lexicon) (posted : Posted) (t : Term) : Type 0 where
  pub none_lost : IsLexicon lexicon → LosesNone lexicon posted
  pub none_wrong : IsLexicon lexicon → (points : ℕ → Point) → Fits lexicon points
      → Solves TellsBy lexicon.count posted points
      → (points posted.result ≡ Element 0)
      ↔ IsTrue (holds (worth (names_at lexicon points) t))
