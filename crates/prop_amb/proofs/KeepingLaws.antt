-- What a search has learned stays learned.
use Rattle.std.proofs.Common.{◌≡◌, ℕ, zero, suc, ◌-◌, IsTrue, List, [], ◌∷◌, take, Contains, Some, get_or, ◌⊎◌, inl}
use Rattle.std.proofs.Common.{inr, slice_get, slice_index_or, Result, Ok, Err, OnOk, OnErr}
use Rattle.std.proofs.lemmas.List.Elements.{All-contains, Contains-get_or}
use Rattle.prop_numbers.specs.Sets.{Members, IsPart, set_of}
use Rattle.prop_premises.specs.declared.choice.Choice.{Choice}
use Rattle.prop_premises.specs.ChoiceLists.{hypotheticals_of}
use Rattle.prop_premises.specs.Origins.{Origin, believed_in, choices_of}
use Rattle.prop_cells.specs.Problems.{Problem, Extends}
use Rattle.prop_nogoods.specs.Stores.{AddsSet}
use Rattle.prop_amb.specs.Refuted.{IsNogood}
use Rattle.prop_amb.specs.Search.{Stand, users_of, choices_in, IsKept, IsSearch}
use Rattle.prop_amb.specs.Moving.{restarted, no_reasons}
use Rattle.prop_amb.specs.Promises.{AdditionsKeepSearches}
use Rattle.prop_amb.proofs.RefutedLaws.{refuted_extends, nogood_extends, grounded_extends}
use Rattle.prop_amb.proofs.ZipLemmas.{none_some}

kept_extends : (old new : Problem) (s : Stand) (j : ℕ) (choice : Choice) (side : ℕ) (n : Members) → Extends old new
    → IsKept old s j choice side n → IsKept new s j choice side n
kept_extends old new s j choice side n more k = record {
  refuted = refuted_extends old new (choices_in s) n more k.refuted;
  grounded = grounded_extends old new (choices_in s) n more k.grounded;
  covered = k.covered;
  against = k.against;
  beside = k.beside;
}

pub search_extends : AdditionsKeepSearches
search_extends old new s more h = record {
  nogoods = λ k d l. nogood_extends old new (choices_in s) (set_of (get_or s.listed k d)) more (h.nogoods k d l);
  reasons = record {
    kept = λ j choice side reason at one r.
        kept_extends old new s j choice side (set_of reason) more (h.reasons.kept j choice side reason at one r);
  };
}

-- ---- nogoods

noted_nogood : (problem : Problem) (s : Stand) (n line : List ℕ) → IsNogood problem (choices_in s) (set_of n)
    → IsSearch problem s → Contains s.listed line ⊎ (line ≡ n) → IsNogood problem (choices_in s) (set_of line)
noted_nogood problem s n line nogood h (inl c) =
    All-contains (λ x. IsNogood problem (choices_in s) (set_of x)) s.listed line h.nogoods c
noted_nogood problem s n line nogood h (inr e) = rw e nogood

-- a nogood was noted
pub search_noted : (problem : Problem) (s : Stand) (listed : List (List ℕ)) (n : List ℕ) → AddsSet s.listed listed n
    → IsNogood problem (choices_in s) (set_of n) →
    IsSearch problem s → IsSearch problem (record s { listed = listed })
search_noted problem s listed n adds nogood h = record {
  nogoods = λ k d l. noted_nogood problem s n (get_or listed k d) nogood h
      (adds.only (get_or listed k d) (Contains-get_or listed k d l));
  reasons = record {
    kept = λ j choice side reason at one r.
        kept_noted j choice side reason (h.reasons.kept j choice side reason at one r);
  };
}
  where
    kept_noted : (j : ℕ) (choice : Choice) (side : ℕ) (reason : List ℕ) → IsKept problem s j choice side (set_of reason)
        → IsKept problem (record s { listed = listed }) j choice side (set_of reason)
    kept_noted j choice side reason k = record {
      refuted = k.refuted;
      grounded = k.grounded;
      covered = λ list is_list. adds.kept _ (k.covered list is_list);
      against = k.against;
      beside = k.beside;
    }

pub search_after_note : {T E : Type 0} (r : Result T E) (problem : Problem) (s : Stand) (listed : List (List ℕ))
    (n : List ℕ) → OnOk r (AddsSet s.listed listed n) → OnErr r (listed ≡ s.listed) →
    IsNogood problem (choices_in s) (set_of n) → IsSearch problem s → IsSearch problem (record s { listed = listed })
search_after_note (Ok x) problem s listed n adds same nogood h = search_noted problem s listed n adds nogood h
search_after_note (Err e) problem s listed n adds same nogood h = rw same h

-- ---- beliefs

-- more of the user's premises are believed
pub search_believing : (problem : Problem) (s : Stand) (origins : List Origin) (w : List ℕ)
    → choices_of origins ≡ choices_in s → IsPart (users_of s) (believed_in origins) →
    IsSearch problem s → IsSearch problem (record s { premises = origins; worldview = w })
search_believing problem s origins w same more h = record {
  nogoods = rw same h.nogoods;
  reasons = record {
    kept = λ j choice side reason at one r.
        kept_believing j choice side reason (h.reasons.kept j choice side reason (rw same at at) one r);
  };
}
  where
    t : Stand
    t = record s { premises = origins; worldview = w }

    still : (j : ℕ) (p : ℕ) → IsTrue (users_of s p)
        ⊎ IsTrue (hypotheticals_of (take j (choices_in s)) (take j s.list) p)
        → IsTrue (believed_in origins p) ⊎ IsTrue (hypotheticals_of (take j (choices_of origins)) (take j s.list) p)
    still j p (inl b) = inl (more p b)
    still j p (inr b) = inr (rw same b)

    kept_believing : (j : ℕ) (choice : Choice) (side : ℕ) (reason : List ℕ)
        → IsKept problem s j choice side (set_of reason) → IsKept problem t j choice side (set_of reason)
    kept_believing j choice side reason k = record {
      refuted = rw same k.refuted;
      grounded = rw same k.grounded;
      covered = rw same k.covered;
      against = k.against;
      beside = λ p in_reason other. still j p (k.beside p in_reason other);
    }

pub nothing_kept : (reasons : List (List (List ℕ))) (j k : ℕ) (r : List ℕ)
    → slice_get (slice_index_or (no_reasons reasons) j []) k ≡ Some r → ⊥
nothing_kept [] j k r e = none_some e
nothing_kept (x ∷ reasons) zero k r e = none_some e
nothing_kept (x ∷ reasons) (suc j) k r e = nothing_kept reasons j k r e

-- every choice is on its first side again, whatever is believed
pub search_restarted : (problem : Problem) (s : Stand) (origins : List Origin) (w : List ℕ)
    → choices_of origins ≡ choices_in s →
    IsSearch problem s → IsSearch problem (record (restarted s) { premises = origins; worldview = w })
search_restarted problem s origins w same h = record {
  nogoods = rw same h.nogoods;
  reasons = record { kept = λ j choice side reason at one r. absurd (nothing_kept s.reasons j (side - 1) reason r) };
}
