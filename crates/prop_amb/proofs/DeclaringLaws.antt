-- What a search has learned stays learned as a choice is declared.
use Rattle.std.proofs.Common.{◌≡◌, ◌∙◌, ℕ, zero, suc, ◌+◌, ◌-◌, ◌<◌, ◌≤◌, IsTrue, true, false, List, [], ◌∷◌, ◌++◌}
use Rattle.std.proofs.Common.{◌==◌, length, take, Some, get_or, refl, sym, ◌⊎◌, inl, inr, arith, slice_get}
use Rattle.std.proofs.Common.{slice_index_or}
use Rattle.std.specs.List.{AllByRecursion}
use Rattle.std.proofs.lemmas.Bool.{cases_eq, or_cases, and_parts, ltb-true, lt-leb, and_left}
use Rattle.prop_numbers.specs.Sets.{set_of}
use Rattle.prop_premises.specs.declared.choice.Choice.{Choice}
use Rattle.prop_premises.specs.ChoiceLists.{hypothetical, hypotheticals_of, is_hypothetical, IsSide}
use Rattle.prop_premises.specs.inner.ChoiceLists.{is_side_of}
use Rattle.prop_premises.specs.ChoiceLists.{IsChoiceList, AreInOrder}
use Rattle.prop_premises.specs.Origins.{Origin, believed_in, choices_of}
use Rattle.prop_cells.specs.Problems.{Problem}
use Rattle.prop_amb.specs.Search.{Stand, IsStand, users_of, choices_in, reason_at, IsKept, IsSearch}
use Rattle.prop_amb.specs.Moving.{IsFresh}
use Rattle.prop_amb.proofs.ZipLemmas.{some_same, none_some}
use Rattle.prop_amb.proofs.PlaceLemmas.{zip_back, listed_at, empty_last, get_front, take_front, get_below_length}
use Rattle.prop_amb.proofs.RefutedLaws.{refuted_choice, covered_choice}
use Rattle.prop_amb.proofs.SearchLaws.{both, or_true_left, or_true_right, side_is_of, taken_is_side}
use Rattle.prop_amb.proofs.GroundedLaws.{nogood_choice, grounded_choice}

pub before_last : (d c : Choice) (cs : List Choice)
    → AllByRecursion (λ later. d.first + d.sides ≤ later.first) (cs ++ c ∷ []) → d.first + d.sides ≤ c.first
before_last d c [] h = h.0
before_last d c (e ∷ cs) h = before_last d c cs h.1

-- sides of earlier choices are none of the last one's
pub earlier_apart : (cs : List Choice) (c : Choice) (p : ℕ) → AreInOrder (cs ++ c ∷ []) → IsTrue (is_hypothetical cs p)
    → is_side_of c p ≡ false
earlier_apart [] c p order h = absurd (both h refl)
earlier_apart (d ∷ cs) c p order h = elim (or_cases (is_side_of d p) (is_hypothetical cs p) h) [
  | inl e ↦ and_left _ _ (lt-leb c.first p (below e))
  | inr e ↦ earlier_apart cs c p order.1 e
]
  where
    below : is_side_of d p ≡ true → p < c.first
    below e = omega (arith, ltb-true p (d.first + d.sides) (and_parts _ _ e).1, before_last d c cs order.0)

side_at : (cs : List Choice) (j : ℕ) (d : Choice) (i : ℕ) → slice_get cs j ≡ Some d → IsSide d i
    → IsTrue (is_hypothetical cs (hypothetical d i))
side_at [] j d i e side = absurd (none_some e)
side_at (c ∷ cs) zero d i e side = or_true_left (is_side_of c (hypothetical d i))
    (is_hypothetical cs (hypothetical d i)) (rw (some_same e) (side_is_of d i side))
side_at (c ∷ cs) (suc j) d i e side = or_true_right (is_side_of c (hypothetical d i)) _ (side_at cs j d i e side)

pub taken_before : (cs : List Choice) (l : List ℕ) (j p : ℕ) → IsChoiceList cs l
    → IsTrue (hypotheticals_of (take j cs) (take j l) p) → IsTrue (hypotheticals_of cs l p)
taken_before cs l zero p h t = absurd (both t refl)
taken_before [] l (suc j) p h t = absurd (both t refl)
taken_before (c ∷ cs) [] (suc j) p h t = absurd h
taken_before (c ∷ cs) (s ∷ l) (suc j) p h t =
    elim (or_cases (hypothetical c s == p) (hypotheticals_of (take j cs) (take j l) p) t) [
      | inl e ↦ or_true_left _ _ e
      | inr e ↦ or_true_right (hypothetical c s == p) _ (taken_before cs l j p h.1 e)
    ]

-- a choice was declared
pub search_declared : (problem : Problem) (s : Stand) (origins : List Origin) (c : Choice) (w : List ℕ) → IsStand s
    → choices_of origins ≡ choices_in s ++ c ∷ [] →
    ((p : ℕ) → believed_in origins p ≡ users_of s p) → AreInOrder (choices_in s ++ c ∷ [])
    → ((p : ℕ) → IsTrue (users_of s p) → is_side_of c p ≡ false) → 1 ≤ c.sides → IsFresh problem c →
    IsSearch problem s → IsSearch problem
    (record s { premises = origins; list = s.list ++ 1 ∷ []; reasons = s.reasons ++ [] ∷ []; worldview = w })
search_declared problem s origins c w stand now same order users some fresh h = record {
  nogoods = λ k d l. rw now (nogood_choice problem (choices_in s) c (set_of (get_or s.listed k d)) some fresh
      (h.nogoods k d l));
  reasons = record {
    kept = λ j choice side reason at one r.
        old j choice side reason (rw now at at) one (rw (empty_last s.reasons j) at r);
  };
}
  where
    t : Stand
    t = record s { premises = origins; list = s.list ++ 1 ∷ []; reasons = s.reasons ++ [] ∷ []; worldview = w }

    old : (j : ℕ) (choice : Choice) (side : ℕ) (reason : List ℕ) → slice_get (choices_in s ++ c ∷ []) j ≡ Some choice
        → 1 ≤ side → reason_at s j side ≡ Some reason → IsKept problem t j choice side (set_of reason)
    old j choice side reason at one r =
        let reasons_j = listed_at s.reasons j (side - 1) reason r in
        let stands = zip_back (λ side reasons. length reasons + 1 ≡ side) s.list s.reasons j _ stand.reasoned reasons_j
        in
        let its = zip_back IsSide (choices_in s) s.list j stands.0 stand.is_list stands.1 in
        let same_choice : its.0 ≡ choice = some_same (sym (get_front (choices_in s) (c ∷ []) j its.0 its.1) ∙ at) in
        let choice_at : slice_get (choices_in s) j ≡ Some choice = rw (← same_choice) its.1 in
        let is_side : IsSide its.0 side = (
          one,
          omega (arith, its.2.1, stands.2, get_below_length (slice_index_or s.reasons j []) (side - 1) reason r),
        ) in
        carried j choice side reason choice_at stands.0 stands.1 (rw same_choice at is_side)
        (h.reasons.kept j choice side reason choice_at one r)
      where
        carried : (j : ℕ) (choice : Choice) (side : ℕ) (reason : List ℕ) → slice_get (choices_in s) j ≡ Some choice
            → (stands : ℕ) → slice_get s.list j ≡ Some stands → IsSide choice side →
            IsKept problem s j choice side (set_of reason) → IsKept problem t j choice side (set_of reason)
        carried j choice side reason choice_at stands list_at is_side k = record {
          refuted = rw now (refuted_choice problem (choices_in s) c (set_of reason) 1 (omega arith, some)
              (λ i is_i in_reason. absurd (both (side_is_of c i is_i)
              (apart (hypothetical c i) in_reason (cases_eq (hypothetical c i) (hypothetical choice side)))))
              k.refuted);
          grounded = rw now (grounded_choice problem (choices_in s) c (set_of reason) some fresh k.grounded);
          covered = rw now (covered_choice (choices_in s) c s.listed (set_of reason) k.covered);
          against = k.against;
          beside = λ p in_reason other. still p (k.beside p in_reason other);
        }
          where
            from_taken : (p : ℕ) → IsTrue (hypotheticals_of (take j (choices_in s)) (take j s.list) p)
                → is_side_of c p ≡ false
            from_taken p x = earlier_apart (choices_in s) c p order
                (taken_is_side (choices_in s) s.list p stand.is_list
                (taken_before (choices_in s) s.list j p stand.is_list x))

            at_own : (p : ℕ) → p ≡ hypothetical choice side → is_side_of c p ≡ false
            at_own p e = rw e (earlier_apart (choices_in s) c (hypothetical choice side) order
                (side_at (choices_in s) j choice side choice_at is_side))

            apart : (p : ℕ) → IsTrue (set_of reason p)
                → (p ≡ hypothetical choice side) ⊎ (p ≡ hypothetical choice side → ⊥) → is_side_of c p ≡ false
            apart p in_reason (inl e) = at_own p e
            apart p in_reason (inr f) = elim (k.beside p in_reason f) [ inl u ↦ users p u | inr x ↦ from_taken p x ]

            still : (p : ℕ) → IsTrue (users_of s p)
                ⊎ IsTrue (hypotheticals_of (take j (choices_in s)) (take j s.list) p) →
                IsTrue (believed_in origins p) ⊎ IsTrue
                (hypotheticals_of (take j (choices_of origins)) (take j (s.list ++ 1 ∷ [])) p)
            still p (inl u) = inl (same p ∙ u)
            still p (inr x) = inr (rw (
              now,
              take_front (choices_in s) (c ∷ []) j choice choice_at,
              take_front s.list (1 ∷ []) j stands list_at,
            ) x)
