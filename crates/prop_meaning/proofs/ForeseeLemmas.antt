-- What is foreseen of a term's value is so.
use Rattle.std.proofs.Common.{◌≡◌, ℕ, List, Some, subst, sym}
use Rattle.prop_procedures.specs.declared.shape.Kinded.{Kinded}
use Rattle.prop_terms.specs.Meaning.{worth}
use Rattle.prop_terms.specs.Terms.{Term}
use Rattle.prop_meaning.specs.Foreseeing.{IsForeseen}
use Rattle.prop_meaning.specs.Words.{Lexicon, names_at, value_as}
use Rattle.prop_meaning.specs.declared.draft.Made.{Made}
use Rattle.prop_meaning.specs.declared.known.Known.{Known}
use Rattle.prop_meaning.specs.inner.Drafts.{IsSound, Shows, known_at}
use Rattle.prop_meaning.proofs.Goodness.{kind_known}
use Rattle.prop_meaning.proofs.Growing.{is_point}
use Rattle.prop_meaning.proofs.PostingLemmas.{runs}
use Rattle.prop_meaning.proofs.Solving.{made_before, made_from}

pub is_foreseen : (lexicon : Lexicon) (made : List Made) (place : ℕ) (known : Known) (kinded : Kinded) (t : Term)
    → IsSound lexicon made → known_at lexicon made place ≡ Some known → Shows lexicon made kinded t place
    → IsForeseen lexicon t known
is_foreseen lexicon made place known kinded t sound at shows law points fits =
    let a = made_from lexicon.count made points in
    let r = runs lexicon made points sound law fits in
    let same : known.kinded ≡ kinded = kind_known (known_at lexicon made place) known kinded at shows.has in
    let P : Kinded → Type 0 = λ k. worth (names_at lexicon a) t ≡ Some (value_as lexicon k (a place)) in (
      a,
      λ i l. made_before lexicon.count made points i l,
      a place,
      (is_point lexicon made place known a sound r at).within,
      subst P (sym same) (shows.worth_is a r),
    )
