-- What a search has learned stays learned as a choice moves to its next side.
use Rattle.std.proofs.Common.{◌≡◌, ◌∙◌, ℕ, zero, suc, ◌+◌, ◌-◌, ◌<◌, ◌≤◌, List, [], ◌∷◌, ◌++◌, ◌||◌, ◌==◌, length}
use Rattle.std.proofs.Common.{length-append, take, drop, Some, refl, sym, ap, subst, ◌⊎◌, inl, inr, arith, slice_get}
use Rattle.std.proofs.Common.{slice_index_or}
use Rattle.std.specs.List.{AllZip}
use Rattle.std.proofs.lemmas.List.{take-append-le, take_all}
use Rattle.prop_numbers.specs.Sets.{Members, IsSame, set_of, union}
use Rattle.prop_premises.specs.declared.choice.Choice.{Choice}
use Rattle.prop_premises.specs.ChoiceLists.{hypothetical, IsSide, IsChoiceList, AreOfSides, worldview}
use Rattle.prop_cells.specs.Problems.{Problem}
use Rattle.prop_amb.specs.Search.{Stand, IsStand, users_of, choices_in, IsKept, IsSearch}
use Rattle.prop_amb.specs.Moving.{first_sides, advanced, reasons_advanced, no_reasons, passed_over}
use Rattle.prop_amb.specs.Resolving.{MayAdvance, IsReason}
use Rattle.prop_amb.proofs.ZipLemmas.{some_same, none_some, zip_at, zip_both, index_at}
use Rattle.prop_amb.proofs.PlaceLemmas.{at_pushed, get_below_length}
use Rattle.prop_amb.proofs.BelievingLaws.{search_deeper}
use Rattle.prop_amb.proofs.KeepingLaws.{nothing_kept}
use Rattle.prop_amb.proofs.LevelLaws.{or_no, deeper_believes}
use Rattle.prop_amb.proofs.LookingLaws.{its_side}
use Rattle.prop_amb.proofs.ReasonLaws.{length-advanced}

pub advanced_front : (list : List ℕ) (j k : ℕ) → k ≤ j → take k (advanced list j) ≡ take k list
advanced_front list j zero l = refl
advanced_front [] j (suc k) l = refl
advanced_front (side ∷ list) zero (suc k) l = absurd (omega (arith, l))
advanced_front (side ∷ list) (suc j) (suc k) l = ap (λ x. side ∷ x) (advanced_front list j k (omega (arith, l)))

advanced_side : (list : List ℕ) (j side : ℕ) → slice_get list j ≡ Some side
    → slice_get (advanced list j) j ≡ Some (suc side)
advanced_side [] j side e = absurd (none_some e)
advanced_side (a ∷ list) zero side e = ap (λ x. Some (suc x)) (some_same e)
advanced_side (a ∷ list) (suc j) side e = advanced_side list j side e

-- what is believed with the sides before a choice, and its next one
pub advanced_believes : (users : Members) (cs : List Choice) (list : List ℕ) (j : ℕ) (c : Choice) (side p : ℕ)
    → slice_get cs j ≡ Some c → slice_get list j ≡ Some side →
    (worldview users cs (take j list) p || (hypothetical c (suc side) == p)) ≡ worldview users cs
    (take (j + 1) (advanced list j)) p
advanced_believes users cs list j c side p e f =
    ap (λ l. worldview users cs l p || (hypothetical c (suc side) == p)) (sym (advanced_front list j j (omega arith)))
    ∙ deeper_believes users cs (advanced list j) j c (suc side) p e (advanced_side list j side f)

-- a reason that is kept after the move was kept before, of a choice that isn't later, or it is the one of the move
reason_was : (reasons : List (List (List ℕ))) (j : ℕ) (n : List ℕ) (k i : ℕ) (r : List ℕ)
    → slice_get (slice_index_or (reasons_advanced reasons j n) k []) i ≡ Some r →
    ((k ≤ j) × (slice_get (slice_index_or reasons k []) i ≡ Some r))
    ⊎ ((k ≡ j) × (i ≡ length (slice_index_or reasons j [])) × (r ≡ n))
reason_was [] j n k i r e = absurd (none_some e)
reason_was (each ∷ reasons) zero n zero i r e =
    elim (at_pushed each n i r e) [ inl f ↦ inl (omega arith, f) | inr f ↦ inr (refl, f.0, f.1) ]
reason_was (each ∷ reasons) zero n (suc k) i r e = absurd (nothing_kept reasons k i r e)
reason_was (each ∷ reasons) (suc j) n zero i r e = inl (omega arith, e)
reason_was (each ∷ reasons) (suc j) n (suc k) i r e =
    elim (reason_was reasons j n k i r e) [ inl f ↦ inl (omega (arith, f.0), f.1) | inr f ↦ inr (ap suc f.0, f.1, f.2) ]

-- a choice left its side for a reason
pub search_advanced : (problem : Problem) (s : Stand) (j : ℕ) (choice : Choice) (side : ℕ) (n : List ℕ) (w : List ℕ)
    → IsStand s → slice_get (choices_in s) j ≡ Some choice → slice_get s.list j ≡ Some side →
    1 ≤ side → IsKept problem s j choice side (set_of n) → IsSearch problem s
    → IsSearch problem (record s {
      list = advanced s.list j;
      level = j + 1;
      reasons = reasons_advanced s.reasons j n;
      worldview = w;
    })
search_advanced problem s j choice side n w stand choice_at side_at from_one reason h = record {
  nogoods = h.nogoods;
  reasons = record { kept = λ k d i r at one e. now k d i r at one (reason_was s.reasons j n k (i - 1) r e) };
}
  where
    t : Stand
    t = record s { list = advanced s.list j; level = j + 1; reasons = reasons_advanced s.reasons j n; worldview = w }

    carried : (k : ℕ) (d : Choice) (i : ℕ) (r : List ℕ) → k ≤ j → IsKept problem s k d i (set_of r)
        → IsKept problem t k d i (set_of r)
    carried k d i r l x = record {
      refuted = x.refuted;
      grounded = x.grounded;
      covered = x.covered;
      against = x.against;
      beside = rw (advanced_front s.list j k l) x.beside;
    }

    reasons_at : (y : List (List ℕ)) × (slice_get s.reasons j ≡ Some y) × (length y + 1 ≡ side)
    reasons_at = zip_at (λ side reasons. length reasons + 1 ≡ side) s.list s.reasons j side stand.reasoned side_at

    now : (k : ℕ) (d : Choice) (i : ℕ) (r : List ℕ) → slice_get (choices_in s) k ≡ Some d → 1 ≤ i →
        ((k ≤ j) × (slice_get (slice_index_or s.reasons k []) (i - 1) ≡ Some r))
        ⊎ ((k ≡ j) × (i - 1 ≡ length (slice_index_or s.reasons j [])) × (r ≡ n)) → IsKept problem t k d i (set_of r)
    now k d i r at one (inl x) = carried k d i r x.0 (h.reasons.kept k d i r at one x.1)
    now k d i r at one (inr x) =
        let same_choice : d ≡ choice = some_same (sym at ∙ at_j x.0) in
        let count : length (slice_index_or s.reasons j []) ≡ length reasons_at.0 =
        ap length (index_at s.reasons j reasons_at.0 [] reasons_at.1) in
        let same_side : i ≡ side = omega (arith, x.1, count, reasons_at.2, one) in
        carried k d i r (omega (arith, x.0)) (rw (x.0, same_choice, same_side, x.2) reason)
      where
        at_j : k ≡ j → slice_get (choices_in s) k ≡ Some choice
        at_j e = rw e choice_at

-- with these sides, and the next one
pub moved_believes : (s : Stand) (j : ℕ) (w mid : List ℕ) (q : ℕ) → (may : MayAdvance s j)
    → q ≡ hypothetical may.choice (suc may.side)
    → IsSame (set_of mid) (worldview (users_of s) (choices_in s) (take j s.list))
    → IsSame (set_of w) (union (set_of mid) (set_of (q ∷ []))) →
    IsSame (set_of w) (worldview (users_of s) (choices_in s) (take (j + 1) (advanced s.list j)))
moved_believes s j w mid q may is before more p =
    more p ∙ ap (λ b. set_of mid p || b) (or_no (q == p)) ∙ ap (λ n. set_of mid p || (n == p)) is
    ∙ ap (λ b. b || (hypothetical may.choice (suc may.side) == p)) (before p)
    ∙ advanced_believes (users_of s) (choices_in s) s.list j may.choice may.side p may.choice_at may.side_at

pub few_sides : (cs : List Choice) (j : ℕ) (c : Choice) → AreOfSides cs → slice_get cs j ≡ Some c → c.sides ≤ 8
few_sides [] j c h e = absurd (none_some e)
few_sides (x ∷ cs) zero c h e = subst (λ (d : Choice). d.sides ≤ 8) (some_same e) h.0.1
few_sides (x ∷ cs) (suc j) c h e = few_sides cs j c h.1 e

-- the next side of a choice that may advance is a premise
pub next_small : (s : Stand) (j : ℕ) (may : MayAdvance s j) → IsStand s
    → hypothetical may.choice (suc may.side) < length s.premises
next_small s j may stand = stand.numbered.below (hypothetical may.choice (suc may.side))
    (its_side (choices_in s) j may.choice (suc may.side) may.choice_at (omega arith, omega (arith, may.more)))

-- ---- the stand after the move

-- the first sides make a choice list
pub firsts_are_list : (cs : List Choice) (list : List ℕ) → IsChoiceList cs list → IsChoiceList cs (first_sides list)
firsts_are_list [] [] h = tt
firsts_are_list [] (side ∷ list) h = absurd h
firsts_are_list (c ∷ cs) [] h = absurd h
firsts_are_list (c ∷ cs) (side ∷ list) h = ((omega arith, omega (arith, h.0.0, h.0.1)), firsts_are_list cs list h.1)

advanced_at : (cs : List Choice) (list : List ℕ) (j : ℕ) (choice : Choice) (side : ℕ) → IsChoiceList cs list
    → slice_get cs j ≡ Some choice → slice_get list j ≡ Some side → side < choice.sides
    → IsChoiceList cs (advanced list j)
advanced_at [] list j choice side h e f more = absurd (none_some e)
advanced_at (c ∷ cs) [] j choice side h e f more = absurd h
advanced_at (c ∷ cs) (a ∷ list) zero choice side h e f more =
    ((omega arith, next (some_same e) (some_same f)), firsts_are_list cs list h.1)
  where
    next : c ≡ choice → a ≡ side → suc a ≤ c.sides
    next p q = rw (p, q) (omega (arith, more))
advanced_at (c ∷ cs) (a ∷ list) (suc j) choice side h e f more = (h.0, advanced_at cs list j choice side h.1 e f more)

-- where a choice may advance, the advanced list is a choice list again
pub advanced_is_list : (s : Stand) (j : ℕ) → IsChoiceList (choices_in s) s.list → MayAdvance s j
    → IsChoiceList (choices_in s) (advanced s.list j)
advanced_is_list s j is_list may = advanced_at (choices_in s) s.list j may.choice may.side is_list may.choice_at
    may.side_at may.more

-- on its first side a choice has no reason
pub firsts_reasoned : (list : List ℕ) (reasons : List (List (List ℕ)))
    → AllZip (λ side reasons. length reasons + 1 ≡ side) list reasons
    → AllZip (λ side reasons. length reasons + 1 ≡ side) (first_sides list) (no_reasons reasons)
firsts_reasoned [] [] h = tt
firsts_reasoned [] (each ∷ reasons) h = absurd h
firsts_reasoned (side ∷ list) [] h = absurd h
firsts_reasoned (side ∷ list) (each ∷ reasons) h = (refl, firsts_reasoned list reasons h.1)

advanced_reasoned : (list : List ℕ) (reasons : List (List (List ℕ))) (j : ℕ) (n : List ℕ)
    → AllZip (λ side reasons. length reasons + 1 ≡ side) list reasons
    → AllZip (λ side reasons. length reasons + 1 ≡ side) (advanced list j) (reasons_advanced reasons j n)
advanced_reasoned [] [] j n h = tt
advanced_reasoned [] (each ∷ reasons) j n h = absurd h
advanced_reasoned (side ∷ list) [] j n h = absurd h
advanced_reasoned (side ∷ list) (each ∷ reasons) zero n h =
    (omega (arith, h.0, length-append each (n ∷ [])), firsts_reasoned list reasons h.1)
advanced_reasoned (side ∷ list) (each ∷ reasons) (suc j) n h = (h.0, advanced_reasoned list reasons j n h.1)

-- a stand stays one as a choice goes to its next side
pub stand_advanced : (s : Stand) (j : ℕ) (n w : List ℕ) → IsStand s → MayAdvance s j
    → IsSame (set_of w) (worldview (users_of s) (choices_in s) (take (j + 1) (advanced s.list j))) →
    IsStand (record s {
      list = advanced s.list j;
      level = j + 1;
      reasons = reasons_advanced s.reasons j n;
      worldview = w;
    })
stand_advanced s j n w stand may believes = record {
  numbered = stand.numbered;
  few = stand.few;
  is_list = advanced_is_list s j stand.is_list may;
  reasoned = advanced_reasoned s.list s.reasons j n stand.reasoned;
  level = (let within = get_below_length s.list j may.side may.side_at in let same = length-advanced s.list j in omega
      (arith, within, same));
  believes = believes;
  minimal = stand.minimal;
}

-- what is learned stays so as a choice leaves its side for a reason
pub search_moved : (problem : Problem) (s : Stand) (j : ℕ) (n w : List ℕ) → IsStand s → MayAdvance s j
    → IsReason problem s j (set_of n) → IsSearch problem s →
    IsSearch problem (record s {
      list = advanced s.list j;
      level = j + 1;
      reasons = reasons_advanced s.reasons j n;
      worldview = w;
    })
search_moved problem s j n w stand may reason h =
    search_advanced problem s j may.choice may.side n w stand may.choice_at may.side_at
    (from_one (zip_both IsSide (choices_in s) s.list j may.choice may.side stand.is_list may.choice_at may.side_at))
    (reason may.choice may.side may.choice_at may.side_at) h
  where
    from_one : IsSide may.choice may.side → 1 ≤ may.side
    from_one is_side = is_side.0

-- ---- the same, where the reasons are written back in their place

pub written : {A : Type 0} (old new : List A) (n : ℕ) → length new ≡ n → take n (new ++ drop (length new) old) ≡ new
written old new n count = take-append-le n new (drop (length new) old) (omega (arith, count))
    ∙ take_all n new (omega (arith, count))

-- a search after the move, as its parts are written
abbrev pub moved_to : Stand → ℕ → List ℕ → List (List (List ℕ)) → ℕ → List ℕ → Stand
moved_to s j list reasons count w = record s {
  list = list;
  level = j + 1;
  reasons = take count (reasons ++ drop (length reasons) s.reasons);
  worldview = w;
}

module _ (s : Stand) (j : ℕ) (n w list : List ℕ) (reasons : List (List (List ℕ))) (count : ℕ) (stand : IsStand s)
    (may : MayAdvance s j) (list_is : list ≡ advanced s.list j) (reasons_are : reasons ≡ reasons_advanced s.reasons j n)
    (counted : length reasons ≡ count) where
  moved_is : moved_to s j list reasons count
      w ≡ record s { list = advanced s.list j; level = j + 1; reasons = reasons_advanced s.reasons j n; worldview = w }
  moved_is = rw (written s.reasons reasons count counted, list_is, reasons_are) refl

  pub stand_moved : IsSame (set_of w) (worldview (users_of s) (choices_in s) (take (j + 1) list))
      → IsStand (moved_to s j list reasons count w)
  stand_moved believes = rw moved_is (stand_advanced s j n w stand may (rw list_is at believes))

  pub search_moved_to : (problem : Problem) → IsReason problem s j (set_of n) → IsSearch problem s
      → IsSearch problem (moved_to s j list reasons count w)
  search_moved_to problem reason h = rw moved_is (search_moved problem s j n w stand may reason h)

-- the same, where no side of it was believed
abbrev pub passed_to : Stand → List ℕ → List (List (List ℕ)) → ℕ → Stand
passed_to s list reasons count =
    record s { list = list; reasons = take count (reasons ++ drop (length reasons) s.reasons) }

module _ (s : Stand) (n list : List ℕ) (reasons : List (List (List ℕ))) (count : ℕ) (stand : IsStand s)
    (may : MayAdvance s s.level) (list_is : list ≡ advanced s.list s.level)
    (reasons_are : reasons ≡ reasons_advanced s.reasons s.level n) (counted : length reasons ≡ count) where
  passed_is : passed_to s list reasons count ≡ passed_over s n
  passed_is = rw (written s.reasons reasons count counted, list_is, reasons_are) refl

  pub stand_passed : IsStand (passed_to s list reasons count)
  stand_passed = rw passed_is (record {
    numbered = stand.numbered;
    few = stand.few;
    is_list = advanced_is_list s s.level stand.is_list may;
    reasoned = advanced_reasoned s.list s.reasons s.level n stand.reasoned;
    level = (let within = stand.level in let same = length-advanced s.list s.level in omega (arith, within, same));
    believes = rw (advanced_front s.list s.level s.level (omega arith)) stand.believes;
    minimal = stand.minimal;
  })

  pub search_passed : (problem : Problem) → IsReason problem s s.level (set_of n) → IsSearch problem s
      → IsSearch problem (passed_to s list reasons count)
  search_passed problem reason h =
      rw passed_is (search_deeper problem (record s {
        list = advanced s.list s.level;
        level = s.level + 1;
        reasons = reasons_advanced s.reasons s.level n;
      }) s.level s.worldview (search_moved problem s s.level n s.worldview stand may reason h))

-- there is a choice left
pub passed_left : (s : Stand) (n : List ℕ) → MayAdvance s s.level
    → (passed_over s n).level < length (passed_over s n).list
passed_left s n may =
    let within = get_below_length s.list s.level may.side may.side_at in
    let same = length-advanced s.list s.level in
    omega (arith, within, same)
