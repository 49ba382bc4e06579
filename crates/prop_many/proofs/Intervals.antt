-- One step of the functions that count who lies in intervals, and that go over Hall intervals.
use Rattle.std.proofs.Common.{◌≡◌, ◌∙◌, ◌⊎◌, ℕ, suc, ◌+◌, ◌<◌, ◌≤◌, min, ℤ, pos, ◌+ℤ◌, ◌-ℤ◌, ◌≤ℤ◌, ◌<ℤ◌}
use Rattle.std.proofs.Common.{Bool, true, false, ◌||◌, nat_lt, List, ◌∷◌, length, take, drop, get_or, arith, refl}
use Rattle.std.proofs.Common.{ap, sym, subst, drop-cons, get_or-set_same, get_or-set_other, inl, inr}
use Rattle.std.specs.Int.{int_min}
use Rattle.std.proofs.Math.ListN.{set}
use Rattle.std.proofs.lemmas.Bool.{cases_eq}
use Rattle.std.proofs.lemmas.Int.{ints}
use Rattle.std.proofs.lemmas.List.{drop_all, get_or-take, length-take}
use Rattle.prop_lattice.specs.declared.info.Info.{Info}
use Rattle.prop_wide.specs.Ends.{low_of, high_of}
use Rattle.prop_wide.specs.laws.EndLaws.{ends_ordered}
use Rattle.prop_many.specs.Differ.{any_crowded, before, before_all, behind, is_crowded, lies_in, lying_in}
use Rattle.prop_many.specs.Differ.{past, past_all, widest, width_of}
use Rattle.prop_many.specs.laws.DifferLaws.{in_both, in_parts, less_from, less_to, ones, same_test}

pub never : true ≡ false → ⊥
never e = cc

-- ---- the list from a place on

pub rest : (xs : List Info) (i : ℕ) (o : Info) → i < length xs → o ≡ get_or xs i o → drop i xs ≡ o ∷ drop (i + 1) xs
rest xs i o l p =
    let next : suc i ≡ i + 1 = omega arith in
    drop-cons xs i o l ∙ (λ j. sym p j ∷ drop (next j) xs)

pub ordered_ends : (o : Info) (l h : ℤ) → l ≡ low_of o → h ≡ high_of o → l ≤ℤ h
ordered_ends o l h p q = subst (λ x. x ≤ℤ h) (sym p) (subst (λ x. low_of o ≤ℤ x) (sym q) (ends_ordered o).ordered)

-- ---- counts

-- how a count grows with one more of the others
pub record IsGrown (o : Info) (a : ℤ) (k old new : ℕ) : Type 0 where
  pub more : ℕ
  pub few : more ≤ 1
  pub is : new ≡ old + more
  pub lies : ones (lies_in o a k) + more ≡ ones (lies_in o a (k + 1))

abbrev pub AreGrown : Info → ℤ → List ℕ → List ℕ → Type 0
AreGrown o a olds news = (k : ℕ) → k < 64 → IsGrown o a k (get_or olds k 0) (get_or news k 0)

-- it lies in no interval that is counted, or is in all from one width on
same_lies : (o : Info) (a : ℤ) (k : ℕ) → (a ≤ℤ low_of o → high_of o ≡ a +ℤ pos k → ⊥)
    → lies_in o a k ≡ lies_in o a (k + 1)
same_lies o a k n = same_test _ _
    (λ e. let p = in_parts a (low_of o) (high_of o) (a +ℤ pos k) e in
    in_both a (low_of o) (high_of o) (a +ℤ pos (k + 1)) p.0 (further (high_of o) p.1))
    (λ e. let p = in_parts a (low_of o) (high_of o) (a +ℤ pos (k + 1)) e in
    in_both a (low_of o) (high_of o) (a +ℤ pos k) p.0 (nearer (high_of o) p.1 (λ s. n p.0 s)))
  where
    further : (h : ℤ) → h <ℤ (a +ℤ pos k) → h <ℤ (a +ℤ pos (k + 1))
    further h p = omega (arith, ints)

    nearer : (h : ℤ) → h <ℤ (a +ℤ pos (k + 1)) → (h ≡ a +ℤ pos k → ⊥) → h <ℤ (a +ℤ pos k)
    nearer h p n = omega (arith, ints)

pub grown_not : (o : Info) (a : ℤ) (olds news : List ℕ) → news ≡ olds
    → (a ≤ℤ low_of o → high_of o <ℤ (a +ℤ pos 64) → ⊥) → AreGrown o a olds news
grown_not o a olds news e n k l = record {
  more = 0;
  few = omega arith;
  is = (let h = ap (λ xs. get_or xs k 0) e in omega (arith, h));
  lies = (let s = ap ones (same_lies o a k (λ p q. n p (within (high_of o) q))) in omega (arith, s));
}
  where
    within : (h : ℤ) → h ≡ a +ℤ pos k → h <ℤ (a +ℤ pos 64)
    within h q = omega (arith, ints)

pub grown_at : (o : Info) (a : ℤ) (j : ℕ) (olds news : List ℕ) → j < length olds → a ≤ℤ low_of o
    → high_of o ≡ a +ℤ pos j → news ≡ set olds j (get_or olds j 0 + 1) → AreGrown o a olds news
grown_at o a j olds news fits p q e k l = by (cases_eq k j)
  where
    count_is : get_or news k 0 ≡ get_or (set olds j (get_or olds j 0 + 1)) k 0
    count_is = ap (λ xs. get_or xs k 0) e

    by : (k ≡ j) ⊎ (k ≡ j → ⊥) → IsGrown o a k (get_or olds k 0) (get_or news k 0)
    by (inl s) = record {
      more = 1;
      few = omega arith;
      is = (
          let at = ap (λ i. get_or (set olds j (get_or olds j 0 + 1)) i 0) s in
          let here = get_or-set_same olds j (get_or olds j 0 + 1) 0 fits in
          let was = ap (λ i. get_or olds i 0) s in
          omega (arith, count_is, at, here, was));
      lies = ap (λ t. ones t + 1) (outside (high_at s))
          ∙ sym (ap ones (in_both a (low_of o) (high_of o) (a +ℤ pos (k + 1)) p (inside (high_of o) (high_at s))));
    }
      where
        high_at : k ≡ j → high_of o ≡ a +ℤ pos k
        high_at s = q ∙ ap (λ i. a +ℤ pos i) (sym s)

        inside : (h : ℤ) → h ≡ a +ℤ pos k → h <ℤ (a +ℤ pos (k + 1))
        inside h r = omega (arith, ints)

        outside : high_of o ≡ a +ℤ pos k → lies_in o a k ≡ false
        outside r = same_test (lies_in o a k) false
            (λ f. absurd (no_end (high_of o) r (in_parts a (low_of o) (high_of o) (a +ℤ pos k) f).1))
            (λ f. absurd (never (sym f)))
          where
            no_end : (h : ℤ) → h ≡ a +ℤ pos k → h <ℤ (a +ℤ pos k) → ⊥
            no_end h r t = omega (arith, ints)
    by (inr n) = record {
      more = 0;
      few = omega arith;
      is = (
          let other = get_or-set_other olds j k (get_or olds j 0 + 1) 0 n in
          omega (arith, count_is, other));
      lies = (let s = ap ones (same_lies o a k (λ r t. n (same_place (high_of o) t q))) in omega (arith, s));
    }
      where
        same_place : (h : ℤ) → h ≡ a +ℤ pos k → h ≡ a +ℤ pos j → k ≡ j
        same_place h t q = omega (arith, ints)

-- no count passes how many of the others came
pub few_step : (o : Info) (a : ℤ) (k old new i : ℕ) → IsGrown o a k old new → old ≤ i → new ≤ i + 1
few_step o a k old new i g h = grows (g.more) g.few g.is
  where
    grows : (more : ℕ) → more ≤ 1 → new ≡ old + more → new ≤ i + 1
    grows more f e = omega (arith, h)

rest_lying : (others : List Info) (i : ℕ) (o : Info) (a : ℤ) (w : ℕ) → i < length others → o ≡ get_or others i o
    → lying_in (drop i others) a w ≡ ones (lies_in o a w) + lying_in (drop (i + 1) others) a w
rest_lying others i o a w l p = ap (λ xs. lying_in xs a w) (rest others i o l p)

-- what is told with one more of the others
pub told_step : (others : List Info) (a : ℤ) (i k old new : ℕ) (o : Info) → i < length others → o ≡ get_or others i o
    → IsGrown o a k old new
    → (lying_in others a k + old) + lying_in (drop i others) a (k + 1)
    ≡ lying_in others a (k + 1) + lying_in (drop i others) a k
    → (lying_in others a k + new) + lying_in (drop (i + 1) others) a (k + 1)
    ≡ lying_in others a (k + 1) + lying_in (drop (i + 1) others) a k
told_step others a i k old new o l p g h =
    omega (arith, g.is, g.lies, h, rest_lying others i o a k l p, rest_lying others i o a (k + 1) l p)

-- where all of the others came, all is told
pub told_all : (others : List Info) (a : ℤ) (i k count : ℕ) → length others ≤ i
    → (lying_in others a k + count) + lying_in (drop i others) a (k + 1)
    ≡ lying_in others a (k + 1) + lying_in (drop i others) a k
    → lying_in others a k + count ≡ lying_in others a (k + 1)
told_all others a i k count l h =
    let none = drop_all i others l in
    omega (arith, h, ap (λ xs. lying_in xs a k) none, ap (λ xs. lying_in xs a (k + 1)) none)

-- ---- the widest Hall interval

-- the place is one of the counts that are read
pub place_fits : (others : List Info) (counts : List ℕ) (m k : ℕ) → m ≡ min (length others) 64
    → k < length (take m counts) → (k < m) × (k < 64)
place_fits others counts m k e l =
    let long = length-take m counts in (omega (arith, long, l), omega (arith, long, l, e))

pub lying_step : (others : List Info) (a : ℤ) (counts : List ℕ) (m k lying : ℕ) → m ≡ min (length others) 64
    → k < length (take m counts)
    → ((i : ℕ) → i < 64 → lying_in others a i + get_or counts i 0 ≡ lying_in others a (i + 1))
    → lying ≡ lying_in others a k → lying + get_or (take m counts) k 0 ≡ lying_in others a (k + 1)
lying_step others a counts m k lying e l told h =
    let fits = place_fits others counts m k e l in
    omega (arith, h, told k fits.1, get_or-take m counts k 0 fits.0)

next_is : (k : ℕ) → suc k ≡ k + 1
next_is k = omega arith

pub width_more : (others : List Info) (a : ℤ) (k : ℕ) → k < lying_in others a (k + 1)
    → k + 1 ≡ width_of others a (k + 1)
width_more others a k l =
    subst (λ n. k < lying_in others a n → n ≡ width_of others a n) (next_is k)
    (λ p. rw (less_to k (lying_in others a (suc k)) p) refl) l

pub width_same : (others : List Info) (a : ℤ) (k w : ℕ) → lying_in others a (k + 1) ≤ k → w ≡ width_of others a k
    → w ≡ width_of others a (k + 1)
width_same others a k w l e =
    subst (λ n. lying_in others a n ≤ k → w ≡ width_of others a n) (next_is k)
    (λ p. rw (not_less k (lying_in others a (suc k)) p) e) l
  where
    not_less : (n m : ℕ) → m ≤ n → nat_lt n m ≡ false
    not_less n m q = by (nat_lt n m) refl
      where
        by : (t : Bool) → nat_lt n m ≡ t → t ≡ false
        by false f = refl
        by true f = absurd (omega (arith, q, less_from n m f))

pub crowded_stays : (others : List Info) (a : ℤ) (k : ℕ) → is_crowded others a k ≡ true
    → true ≡ is_crowded others a (k + 1)
crowded_stays others a k e = subst (λ n. true ≡ is_crowded others a n) (next_is k) (rw e refl)

pub crowded_now : (others : List Info) (a : ℤ) (k : ℕ) → is_crowded others a k ≡ false
    → nat_lt (k + 1) (lying_in others a (k + 1)) ≡ is_crowded others a (k + 1)
crowded_now others a k e =
    subst (λ n. nat_lt n (lying_in others a n) ≡ is_crowded others a n) (next_is k) (rw e refl)

-- ---- past Hall intervals, and before them

pub before_yes : (a b v e r : ℤ) → a ≤ℤ v → v <ℤ b → r ≡ int_min e (a -ℤ pos 1) → r ≡ before a b v e
before_yes a b v e r p q s = rw (in_both a v v b p q) s

-- an interval that begins as one of the others does: the number that it begins with and that behind it, as they are
-- told
pub record IsTold (others : List Info) (i : ℕ) (o : Info) (first behind' : ℤ) : Type 0 where
  pub here : i < length others
  pub at : o ≡ get_or others i o
  pub first_is : first ≡ low_of o
  pub behind_is : behind' ≡ behind others first

pub past_step : (others : List Info) (i : ℕ) (o : Info) (first behind' v e r total : ℤ)
    → IsTold others i o first behind' → r ≡ past first behind' v e → past_all others (drop i others) v e ≡ total
    → past_all others (drop (i + 1) others) v r ≡ total
past_step others i o first behind' v e r total t p h =
    let there : behind' ≡ behind others (low_of o) = t.behind_is ∙ ap (behind others) t.first_is in
    ap (past_all others (drop (i + 1) others) v) (p ∙ (λ j. past (t.first_is j) (there j) v e))
    ∙ sym (ap (λ xs. past_all others xs v e) (rest others i o t.here t.at)) ∙ h

pub before_step : (others : List Info) (i : ℕ) (o : Info) (first behind' v e r total : ℤ)
    → IsTold others i o first behind' → r ≡ before first behind' v e → before_all others (drop i others) v e ≡ total
    → before_all others (drop (i + 1) others) v r ≡ total
before_step others i o first behind' v e r total t p h =
    let there : behind' ≡ behind others (low_of o) = t.behind_is ∙ ap (behind others) t.first_is in
    ap (before_all others (drop (i + 1) others) v) (p ∙ (λ j. before (t.first_is j) (there j) v e))
    ∙ sym (ap (λ xs. before_all others xs v e) (rest others i o t.here t.at)) ∙ h

pub crowded_step : (others : List Info) (i : ℕ) (o : Info) (first behind' : ℤ) (was now total : Bool)
    → IsTold others i o first behind' → (was ≡ true → now ≡ true)
    → (was ≡ false → now ≡ is_crowded others first (widest others))
    → (was || any_crowded others (drop i others)) ≡ total → (now || any_crowded others (drop (i + 1) others)) ≡ total
crowded_step others i o first behind' true now total t p q h = rw (p refl) h
crowded_step others i o first behind' false now total t p q h =
    let at : now ≡ is_crowded others (low_of o) (widest others) =
    q refl ∙ ap (λ a. is_crowded others a (widest others)) t.first_is in
    (λ j. at j || any_crowded others (drop (i + 1) others))
    ∙ sym (ap (any_crowded others) (rest others i o t.here t.at)) ∙ h
