-- What is known of a term's value, before anything is posted.
use Rattle.std.specs.Prelude.{◌≡◌, ℕ, ◌<◌, Some}
use Rattle.prop_lattice.specs.Points.{Point}
use Rattle.prop_terms.specs.Meaning.{worth}
use Rattle.prop_terms.specs.Terms.{Term}
use Rattle.prop_meaning.specs.Words.{Lexicon, IsLexicon, Fits, IsWithin, names_at, value_as}
use Rattle.prop_meaning.specs.declared.known.Known.{Known}

-- Whichever fitting points the given cells have, the term is worth what some point is that is as is
-- known.
abbrev pub IsForeseen : Lexicon → Term → Known → Type 0
IsForeseen lexicon t known = IsLexicon lexicon → (points : ℕ → Point) → Fits lexicon points
    → (all : ℕ → Point) × ((i : ℕ) → i < lexicon.count → all i ≡ points i) × (p : Point)
    × IsWithin known p × (worth (names_at lexicon all) t ≡ Some (value_as lexicon known.kinded p))
