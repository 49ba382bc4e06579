-- Reasons against every side of a choice, joined without its sides, are refuted, grounded and covered.
use Rattle.std.proofs.Common.{◌≡◌, ℕ, zero, suc, ◌+◌, ◌-◌, ◌<◌, ◌≤◌, IsTrue, Bool, true, false, List, [], ◌∷◌, Some}
use Rattle.std.proofs.Common.{◌||◌, ◌==◌, refl, sym, ◌∙◌, inl, inr, arith, slice_get}
use Rattle.std.specs.List.{AllByRecursion}
use Rattle.std.proofs.lemmas.Bool.{cases_eq, cases_Bool, eq-eqb, and_parts, leb-true, ltb-true, true≢false}
use Rattle.prop_numbers.specs.Sets.{Members, IsPart, union}
use Rattle.prop_premises.specs.declared.choice.Choice.{Choice}
use Rattle.prop_premises.specs.ChoiceLists.{hypothetical, IsSide, IsChoiceList, TakesSidesIn, hypotheticals_of}
use Rattle.prop_premises.specs.ChoiceLists.{is_hypothetical, AreInOrder}
use Rattle.prop_premises.specs.inner.ChoiceLists.{is_side_of}
use Rattle.prop_cells.specs.Problems.{Problem}
use Rattle.prop_cells.specs.inner.Problems.{IsContradictory}
use Rattle.prop_amb.proofs.ProblemLaws.{contradictory_more}
use Rattle.prop_nogoods.specs.Stores.{has_part}
use Rattle.prop_nogoods.proofs.StoreLaws.{has_part-more}
use Rattle.prop_amb.specs.Refuted.{IsRefuted, IsNogood, IsGrounded, IsCovered}
use Rattle.prop_amb.specs.inner.Refuted.{IsUserPart}
use Rattle.prop_amb.specs.inner.Joined.{IsJoined}
use Rattle.prop_amb.proofs.ZipLemmas.{some_same, none_some, zip_at, zip_from}
use Rattle.prop_amb.proofs.SearchLaws.{or_true_left, or_true_right, side_above, side_below}

pub later_at : (c : Choice) (cs : List Choice) (k : ℕ) (d : Choice)
    → AllByRecursion (λ later. c.first + c.sides ≤ later.first) cs → slice_get cs k ≡ Some d
    → c.first + c.sides ≤ d.first
later_at c [] k d h e = absurd (none_some e)
later_at c (x ∷ cs) zero d h e = rw (← (some_same e)) h.0
later_at c (x ∷ cs) (suc k) d h e = later_at c cs k d h.1 e

-- the sides of one choice are not those of another
apart_at : (cs : List Choice) (j k : ℕ) (c d : Choice) (i : ℕ) → AreInOrder cs → slice_get cs j ≡ Some c
    → slice_get cs k ≡ Some d → (k ≡ j → ⊥) → IsSide d i → is_side_of c (hypothetical d i) ≡ false
apart_at [] j k c d i order p q ne side = absurd (none_some p)
apart_at (x ∷ cs) zero zero c d i order p q ne side = absurd (ne refl)
apart_at (x ∷ cs) zero (suc k) c d i order p q ne side =
    side_above c d i (rw (← (some_same p)) (later_at x cs k d order.0 q)) side
apart_at (x ∷ cs) (suc j) zero c d i order p q ne side =
    side_below d c i (rw (← (some_same q)) (later_at x cs j c order.0 p)) side
apart_at (x ∷ cs) (suc j) (suc k) c d i order p q ne side = apart_at cs j k c d i order.1 p q (λ e. ne (more e)) side
  where
    more : k ≡ j → suc k ≡ suc j
    more e = cc

taken_at : (cs : List Choice) (l : List ℕ) (j : ℕ) (c : Choice) (s : ℕ) → slice_get cs j ≡ Some c
    → slice_get l j ≡ Some s → IsTrue (hypotheticals_of cs l (hypothetical c s))
taken_at [] l j c s p q = absurd (none_some p)
taken_at (x ∷ cs) [] j c s p q = absurd (none_some q)
taken_at (x ∷ cs) (y ∷ l) zero c s p q =
    or_true_left _ _ (eq-eqb (hypothetical x y) (hypothetical c s) (same (some_same p) (some_same q)))
  where
    same : x ≡ c → y ≡ s → hypothetical x y ≡ hypothetical c s
    same e f = cc
taken_at (x ∷ cs) (y ∷ l) (suc j) c s p q =
    or_true_right (hypothetical x y == hypothetical c s) _ (taken_at cs l j c s p q)

-- a premise that is a side of the choice is that of some side
side_of : (c : Choice) (p : ℕ) → is_side_of c p ≡ true → (i : ℕ) × IsSide c i × (p ≡ hypothetical c i)
side_of c p h =
    let parts : ((_ ≡ true) × (_ ≡ true)) =
    and_parts _ _ h in at (leb-true c.first p parts.0) (ltb-true p (c.first + c.sides) parts.1)
  where
    at : c.first ≤ p → p < c.first + c.sides → (i : ℕ) × IsSide c i × (p ≡ hypothetical c i)
    at low high = ((p - c.first) + 1, (omega arith, omega arith), omega arith)

-- Reasons against each side of a choice that name no other side of it: joined, they are refuted.
pub joined_refuted : (problem : Problem) (choices : List Choice) (j : ℕ) (choice : Choice) (reasons : ℕ → Members)
    (n : Members) →
    AreInOrder choices → slice_get choices j ≡ Some choice → IsJoined choice reasons n →
    ((side : ℕ) → IsSide choice side → IsRefuted problem choices (reasons side)) →
    ((side i : ℕ) → IsSide choice side → IsSide choice i → IsTrue (reasons side (hypothetical choice i)) → i ≡ side) →
    ((list : List ℕ) × IsChoiceList choices list × TakesSidesIn n choices list) → IsRefuted problem choices n
joined_refuted problem choices j choice reasons n order choice_at joined refuted own one_side = record {
  one_side = one_side;
  always = λ list is_list takes. against list is_list takes (zip_at IsSide choices list j choice is_list choice_at);
}
  where
    takes_reason : (list : List ℕ) (s : ℕ) → IsChoiceList choices list → TakesSidesIn n choices list
        → slice_get list j ≡ Some s → IsSide choice s → TakesSidesIn (reasons s) choices list
    takes_reason list s is_list takes s_at is_s =
        zip_from IsSide (λ c side. (i : ℕ) → IsSide c i → IsTrue (reasons s (hypothetical c i)) → i ≡ side) choices list
        is_list
        (λ k d y d_at y_at i is_i in_reason. elim (cases_eq k j) [
          | inl e ↦ here k d y e d_at y_at i is_i in_reason
          | inr f ↦ there k d y d_at y_at i is_i
              (joined.has s (hypothetical d i) is_s in_reason
              (apart_at choices j k choice d i order choice_at d_at f is_i))
        ])
      where
        here : (k : ℕ) (d : Choice) (y : ℕ) → k ≡ j → slice_get choices k ≡ Some d → slice_get list k ≡ Some y → (i : ℕ)
            → IsSide d i → IsTrue (reasons s (hypothetical d i)) → i ≡ y
        here k d y e d_at y_at i is_i in_reason =
            let same_choice : d ≡ choice = some_same (at_j d_at choice_at) in
            let same_side : y ≡ s = some_same (at_j2 y_at s_at) in
            own s i is_s (rw same_choice at is_i) (rw same_choice at in_reason) ∙ sym same_side
          where
            at_j : slice_get choices k ≡ Some d → slice_get choices j ≡ Some choice → Some d ≡ Some choice
            at_j p q = cc

            at_j2 : slice_get list k ≡ Some y → slice_get list j ≡ Some s → Some y ≡ Some s
            at_j2 p q = cc

        there : (k : ℕ) (d : Choice) (y : ℕ) → slice_get choices k ≡ Some d → slice_get list k ≡ Some y → (i : ℕ)
            → IsSide d i → IsTrue (n (hypothetical d i)) → i ≡ y
        there k d y d_at y_at i is_i in_n =
            let z : (y' : ℕ) × (slice_get list k ≡ Some y')
            × ((i : ℕ) → IsSide d i → IsTrue (n (hypothetical d i)) → i ≡ y') =
            zip_at (λ c side. (i : ℕ) → IsSide c i → IsTrue (n (hypothetical c i)) → i ≡ side) choices list k d takes
            d_at in
            z.2 i is_i in_n ∙ some_same (sym z.1 ∙ y_at)

    within : (list : List ℕ) (s : ℕ) → slice_get list j ≡ Some s → IsSide choice s
        → IsPart (reasons s) (union n (hypotheticals_of choices list))
    within list s s_at is_s p in_reason = elim (cases_Bool (is_side_of choice p)) [
      | inl e ↦ or_true_right (n p) _ (own_side (side_of choice p e))
      | inr e ↦ or_true_left (n p) _ (joined.has s p is_s in_reason e)
    ]
      where
        own_side : (i : ℕ) × IsSide choice i × (p ≡ hypothetical choice i) → IsTrue (hypotheticals_of choices list p)
        own_side x =
            let e : x.0 ≡ s = own s x.0 is_s x.1 (rw x.2 at in_reason) in
            rw (x.2, e) (taken_at choices list j choice s choice_at s_at)

    absorb : (x y z : Bool) → (x ≡ true → (z || y) ≡ true) → (x || y) ≡ true → (z || y) ≡ true
    absorb true y z f t = f refl
    absorb false y z f t = or_true_right z y t

    against : (list : List ℕ) → IsChoiceList choices list → TakesSidesIn n choices list
        → (y : ℕ) × (slice_get list j ≡ Some y) × IsSide choice y
        → IsContradictory problem (union n (hypotheticals_of choices list))
    against list is_list takes x =
        contradictory_more problem (union (reasons x.0) (hypotheticals_of choices list))
        (union n (hypotheticals_of choices list))
        (λ p t. absorb (reasons x.0 p) (hypotheticals_of choices list p) (n p) (within list x.0 x.1 x.2 p) t)
        ((refuted x.0 x.2).always list is_list (takes_reason list x.0 is_list takes x.1 x.2))

pub user_of : (choices : List Choice) (j : ℕ) (choice : Choice) (p : ℕ) → slice_get choices j ≡ Some choice
    → is_hypothetical choices p ≡ false → is_side_of choice p ≡ false
user_of [] j choice p e h = absurd (none_some e)
user_of (c ∷ cs) zero choice p e h = rw (← (some_same e)) (or_none (is_side_of c p) _ h).0
  where
    or_none : (x y : Bool) → (x || y) ≡ false → (x ≡ false) × (y ≡ false)
    or_none true y t = absurd (true≢false t)
    or_none false y t = (refl, t)
user_of (c ∷ cs) (suc j) choice p e h = user_of cs j choice p e (or_none (is_side_of c p) _ h).1
  where
    or_none : (x y : Bool) → (x || y) ≡ false → (x ≡ false) × (y ≡ false)
    or_none true y t = absurd (true≢false t)
    or_none false y t = (refl, t)

-- what grounds the reasons grounds what they make together
pub joined_grounded : (problem : Problem) (choices : List Choice) (j : ℕ) (choice : Choice) (reasons : ℕ → Members)
    (n : Members) →
    slice_get choices j ≡ Some choice → IsJoined choice reasons n →
    ((side : ℕ) → IsSide choice side → IsGrounded problem choices (reasons side)) → IsGrounded problem choices n
joined_grounded problem choices j choice reasons n choice_at joined grounded p in_n user =
    let x : (side : ℕ) × IsSide choice side × IsTrue (reasons side p) × (is_side_of choice p ≡ false) =
    joined.sources p in_n in
    let g : (m : Members) × IsTrue (m p) × IsNogood problem choices m × IsUserPart choices m (reasons x.0) =
    grounded x.0 x.1 p x.2 user in (
      g.0,
      g.1,
      g.2,
      λ q in_m user_q. joined.has x.0 q x.1 (g.3 q in_m user_q)
          (user_of choices j choice q choice_at user_q),
    )

-- what covers the reasons covers what they make together
pub joined_covered : (problem : Problem) (choices : List Choice) (listed : List (List ℕ)) (j : ℕ) (choice : Choice)
    (reasons : ℕ → Members) (n : Members) →
    slice_get choices j ≡ Some choice → IsJoined choice reasons n →
    ((side i : ℕ) → IsSide choice side → IsSide choice i → IsTrue (reasons side (hypothetical choice i)) → i ≡ side) →
    ((side : ℕ) → IsSide choice side → IsCovered choices listed (reasons side)) → IsCovered choices listed n
joined_covered problem choices listed j choice reasons n choice_at joined own covered list is_list =
    at (zip_at IsSide choices list j choice is_list choice_at)
  where
    absorb : (x y z : Bool) → (x ≡ true → (z || y) ≡ true) → (x || y) ≡ true → (z || y) ≡ true
    absorb true y z f t = f refl
    absorb false y z f t = or_true_right z y t

    within : (s : ℕ) → slice_get list j ≡ Some s → IsSide choice s
        → IsPart (reasons s) (union n (hypotheticals_of choices list))
    within s s_at is_s p in_reason = elim (cases_Bool (is_side_of choice p)) [
      | inl e ↦ or_true_right (n p) _ (own_side (side_of choice p e))
      | inr e ↦ or_true_left (n p) _ (joined.has s p is_s in_reason e)
    ]
      where
        own_side : (i : ℕ) × IsSide choice i × (p ≡ hypothetical choice i) → IsTrue (hypotheticals_of choices list p)
        own_side x =
            let e : x.0 ≡ s = own s x.0 is_s x.1 (rw x.2 at in_reason) in
            rw (x.2, e) (taken_at choices list j choice s choice_at s_at)

    at : (y : ℕ) × (slice_get list j ≡ Some y) × IsSide choice y
        → IsTrue (has_part listed (union n (hypotheticals_of choices list)))
    at x =
        has_part-more listed (union (reasons x.0) (hypotheticals_of choices list))
        (union n (hypotheticals_of choices list))
        (λ p t. absorb (reasons x.0 p) (hypotheticals_of choices list p) (n p) (within x.0 x.1 x.2 p) t)
        (covered x.0 x.2 list is_list)
