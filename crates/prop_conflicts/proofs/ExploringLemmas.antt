-- What follows of conflicts and repairs.
use Rattle.std.proofs.Common.{◌≡◌, ◌∙◌, ◌⊎◌, ◌==◌, ◌||◌, ◌<◌, ℕ, zero, suc, Bool, true, false, not, IsTrue, List, []}
use Rattle.std.proofs.Common.{◌∷◌, ◌++◌, All, Contains, length, get_or, refl, sym, ap, subst, inl}
use Rattle.std.proofs.Common.{inr, arith, None, Some}
use Rattle.std.specs.Prelude.{IfSome, Option}
use Rattle.std.specs.List.{list_any}
use Rattle.std.proofs.lemmas.Bool.Decides.{eqb_tells}
use Rattle.std.proofs.lemmas.List.Elements.{All-contains, All-push}
use Rattle.prop_numbers.specs.Sets.{Members, IsPart, IsSame, set_of, union, is_within, without}
use Rattle.prop_numbers.proofs.WithinLemmas.{within_has}
use Rattle.prop_premises.specs.Origins.{believed_in}
use Rattle.prop_hitting.specs.Hitting.{HasAllOfOne, HitsAll, IsLean}
use Rattle.prop_hitting.specs.declared.conflict.Conflict.{Conflict}
use Rattle.prop_hitting.proofs.HittingLemmas.{any_at, any_in, decide, without_part, without_parts}
use Rattle.prop_conflicts.specs.Conflicts.{Fits, Ground, IsConflict, IsRefuted, IsRepair, less}
use Rattle.prop_hitting.specs.declared.frontier.Frontier.{Frontier}
use Rattle.prop_conflicts.specs.declared.explorer.Stage.{Stage}
use Rattle.prop_conflicts.specs.declared.explorer.Stage.TheVariants.{Seeking, Giving, Shrinking, Trying, Idle}
use Rattle.prop_conflicts.specs.declared.shrinking.Shrinking.{Shrinking as ShrinkingOf}
use Rattle.prop_conflicts.specs.declared.trial.Outcome.{Outcome}
use Rattle.prop_conflicts.specs.declared.trial.Outcome.TheVariants.{Fits as OutcomeFits}
use Rattle.prop_conflicts.specs.declared.trial.Trial.{Trial}
use Rattle.prop_conflicts.specs.inner.Explorers.{IsLeft, IsShrinking, IsWithout, Knows, Stands}
use Rattle.prop_conflicts.specs.inner.Trials.{IsOutcome, IsOutcomeIn}
use Rattle.prop_conflicts.proofs.FitLemmas.{and_both, and_first, and_second, fits_fewer, not_false, not_true}
use Rattle.prop_conflicts.proofs.FitLemmas.{within_or_out}

-- ---- lists

-- one of the list passes the test, or none does
pub found_or_none : {X : Type 0} (P : X → Bool) (xs : List X)
    → ((x : X) × Contains xs x × (P x ≡ true)) ⊎ All (λ x. P x ≡ false) xs
found_or_none P [] = inr (λ k d l. absurd (omega (arith, l)))
found_or_none P (x ∷ xs) = elim (decide (P x)) [
  | inl e ↦ inl (x, (0, omega arith, refl), e)
  | inr e ↦ elim (found_or_none P xs) [
    | inl f ↦ inl (f.0, (suc f.1.0, omega (arith, f.1.1), f.1.2), f.2)
    | inr none ↦ inr (later x xs e none)
  ]
]
  where
    later : (x : _) (xs : List _) → P x ≡ false → All (λ x. P x ≡ false) xs → All (λ x. P x ≡ false) (x ∷ xs)
    later x xs e none zero d l = e
    later x xs e none (suc k) d l = none k d (omega (arith, l))

pub none_all : {X : Type 0} (P : X → Type 0) (xs : List X) → xs ≡ [] → All P xs
none_all P xs none k d l =
    let within : k < 0 = subst (λ (ys : List _). k < length ys) none l in
    absurd (omega (arith, within))

pub contains_first : {X : Type 0} (xs ys : List X) (x : X) → Contains xs x → Contains (xs ++ ys) x
contains_first [] ys x (k, l, is) = absurd (omega (arith, l))
contains_first (y ∷ xs) ys x (zero, l, is) = (0, omega arith, is)
contains_first (y ∷ xs) ys x (suc k, l, is) =
    let there = contains_first xs ys x (k, omega (arith, l), is) in
    (suc there.0, omega (arith, there.1), there.2)

pub all_first : {X : Type 0} (P : X → Type 0) (xs ys : List X) → All P (xs ++ ys) → All P xs
all_first P [] ys all k d l = absurd (omega (arith, l))
all_first P (x ∷ xs) ys all zero d l = all 0 d (omega arith)
all_first P (x ∷ xs) ys all (suc k) d l =
    all_first P xs ys (λ j e m. all (suc j) e (omega (arith, m))) k d (omega (arith, l))

-- ---- premises to give up

module _ (g : Ground) (cs : List Conflict) (conflicts : All (IsConflict g) cs) where
  -- premises that hit all conflicts, and are all needed for that, are believed
  pub lean_believed : (out : List ℕ) → HitsAll (set_of out) cs → IsLean cs out
      → IsPart (set_of out) (believed_in g.premises)
  lean_believed out hits lean p has =
      let need = lean p has in
      let c = need.0 in
      let refuted = (All-contains (IsConflict g) cs c conflicts need.1).refuted in
      let at = any_at (set_of out) c.premises
      (All-contains (λ (x : Conflict). IsTrue (list_any (set_of out) x.premises)) cs c hits need.1) in
      elim (decide (p == at.0)) [
        | inl e ↦ subst (λ q. believed_in g.premises q ≡ true) (sym (same p at.0 e)) (refuted.believed at.0 at.1)
        | inr e ↦
            let some = any_in (without (set_of out) p) c.premises at.0 at.1
            (and_both (set_of out at.0) (not (p == at.0)) at.2 (not_false (p == at.0) e)) in
            let none = need.2 in
            cc (some, none)
      ]
    where
      same : (n m : ℕ) → (n == m) ≡ true → n ≡ m
      same n m h = elim (eqb_tells n m) [ inl e ↦ e.1 | inr e ↦ cc (e.0, h) ]

  -- and where all others fit, they are a repair
  pub repair_so : (out kept : List ℕ) → HitsAll (set_of out) cs → IsLean cs out
      → ((p : ℕ) → believed_in g.premises p ≡ true → set_of out p ≡ false → set_of kept p ≡ true)
      → Fits g (set_of kept) → IsRepair g out
  repair_so out kept hits lean rest fits = record {
    believed = lean_believed out hits lean;
    fits = fits_fewer g (less (believed_in g.premises) (set_of out)) (set_of kept)
        (λ p h. rest p (and_first (believed_in g.premises p) (not (set_of out p)) h)
        (not_true (set_of out p) (and_second (believed_in g.premises p) (not (set_of out p)) h))) fits;
    least = λ p has f.
        let need = lean p has in
        let c = need.0 in
        let refuted = (All-contains (IsConflict g) cs c conflicts need.1).refuted in
        let out_less = without (set_of out) p in
        let none = need.2 in
        refuted.none (fits_fewer g (set_of c.premises) (less (believed_in g.premises) out_less)
        (λ q there. and_both (believed_in g.premises q) (not (out_less q)) (refuted.believed q there)
        (elim (decide (out_less q)) as (λ _. not (out_less q) ≡ true) [
          | inl e ↦ let some = any_in out_less c.premises q there e in cc (some, none)
          | inr e ↦ not_false (out_less q) e
        ])) f);
  }

-- ---- where each set that hits all conflicts has all of a repair

module _ (g : Ground) (cs : List Conflict) (rs : List (List ℕ)) (conflicts : All (IsConflict g) cs)
    (repairs : All (IsRepair g) rs) (over : (h : Members) → HitsAll h cs → HasAllOfOne h rs) where
  -- each refuted set has all of a conflict
  pub all_conflicts : (s : List ℕ) → IsRefuted g s
      → (c : Conflict) × Contains cs c × IsPart (set_of c.premises) (set_of s)
  all_conflicts s refuted = elim (found_or_none (λ (c : Conflict). is_within (set_of s) c.premises) cs) [
    | inl f ↦ (f.0, f.1, λ p there. within_has (set_of s) f.0.premises p f.2 there)
    | inr none ↦ absurd (other none)
  ]
    where
      rest : Members
      rest = less (believed_in g.premises) (set_of s)

      hits : All (λ (c : Conflict). is_within (set_of s) c.premises ≡ false) cs → HitsAll rest cs
      hits none k d l =
          let c = get_or cs k d in
          elim (within_or_out (set_of s) c.premises) [
            | inl all ↦ let not_all = none k d l in cc (all, not_all)
            | inr out ↦ any_in rest c.premises out.0 out.1
                (and_both (believed_in g.premises out.0) (not (set_of s out.0))
                ((conflicts k d l).refuted.believed out.0 out.1) (not_false (set_of s out.0) out.2))
          ]

      other : All (λ (c : Conflict). is_within (set_of s) c.premises ≡ false) cs → ⊥
      other none =
          let found = over rest (hits none) in
          let r = found.0 in
          let repair = All-contains (IsRepair g) rs r repairs found.1 in
          refuted.none (fits_fewer g (set_of s) (less (believed_in g.premises) (set_of r))
          (λ p there. and_both (believed_in g.premises p) (not (set_of r p)) (refuted.believed p there)
          (elim (decide (set_of r p)) as (λ _. not (set_of r p) ≡ true) [
            | inl e ↦
                let out = not_true (set_of s p) (and_second (believed_in g.premises p) (not (set_of s p))
                (within_has rest r p found.2 e)) in
                cc (out, there)
            | inr e ↦ not_false (set_of r p) e
          ])) repair.fits)

  -- whatever can hold lacks all of a repair
  pub all_repairs : (kept : Members) → Fits g kept
      → (r : List ℕ) × Contains rs r × ((p : ℕ) → set_of r p ≡ true → kept p ≡ false)
  all_repairs kept fits =
      let found = over out hits in
      (found.0, found.1, λ p there. not_true (kept p) (within_has out found.0 p found.2 there))
    where
      out : Members
      out p = not (kept p)

      hits : HitsAll out cs
      hits k d l =
          let c = get_or cs k d in
          elim (within_or_out kept c.premises) [
            | inl all ↦ absurd ((conflicts k d l).refuted.none (fits_fewer g (set_of c.premises) kept
                (λ p there. within_has kept c.premises p all there) fits))
            | inr lost ↦ any_in out c.premises lost.0 lost.1 (not_false (kept lost.0) lost.2)
          ]

-- ---- refuted premises that are made fewer

-- of what is needed one more
pub needed_more : (g : Ground) (premises needed new one : List ℕ) (p : ℕ) → one ≡ p ∷ []
    → IsSame (set_of new) (union (set_of needed) (set_of one))
    → ((q : ℕ) → set_of needed q ≡ true → Fits g (without (set_of premises) q))
    → Fits g (without (set_of premises) p)
    → (q : ℕ) → set_of new q ≡ true → Fits g (without (set_of premises) q)
needed_more g premises needed new one p is same before fits q has =
    elim (or_cases (set_of needed q) ((p == q) || false) (ap (λ (l : List ℕ). union (set_of needed) (set_of l) q)
    (sym is) ∙ sym (same q) ∙ has)) [
      | inl there ↦ before q there
      | inr here ↦ elim (or_cases (p == q) false here) [
        | inl e ↦ subst (λ r. Fits g (without (set_of premises) r)) (is_same p q e) fits
        | inr other ↦ cc other
      ]
    ]
  where
    or_cases : (b c : Bool) → (b || c) ≡ true → (b ≡ true) ⊎ (c ≡ true)
    or_cases true c h = inl refl
    or_cases false c h = inr h

    is_same : (n m : ℕ) → (n == m) ≡ true → n ≡ m
    is_same n m h = elim (eqb_tells n m) [ inl e ↦ e.1 | inr e ↦ cc (e.0, h) ]

-- where fewer premises are refuted
pub needed_fewer : (g : Ground) (premises by needed : List ℕ) → is_within (set_of premises) by ≡ true
    → ((q : ℕ) → set_of needed q ≡ true → Fits g (without (set_of premises) q))
    → (q : ℕ) → set_of needed q ≡ true → Fits g (without (set_of by) q)
needed_fewer g premises by needed part before q has =
    fits_fewer g (without (set_of by) q) (without (set_of premises) q)
    (without_parts (set_of by) (set_of premises) q (λ p there. within_has (set_of premises) by p part there))
    (before q has)

-- ---- from one step to the next

module _ (g : Ground) (cs : List Conflict) (rs : List (List ℕ)) (f : Frontier) (over : Bool) (trial : Option Trial)
    (knows : Knows g cs rs f over trial) where
  has_more : (h : Members) (r : List ℕ) → HasAllOfOne h rs → HasAllOfOne h (rs ++ r ∷ [])
  has_more h r has = (has.0, contains_first rs (r ∷ []) has.0 has.1, has.2)

  pub knows_repair : (new : List (List ℕ)) (r : List ℕ) → new ≡ rs ++ r ∷ [] → IsRepair g r
      → Knows g cs new f over trial
  knows_repair new r is repair = subst (λ (qs : List (List ℕ)). Knows g cs qs f over trial) (sym is) (record {
    conflicts_are = knows.conflicts_are;
    repairs_are = All-push (IsRepair g) rs r knows.repairs_are repair;
    sought = λ h hits. elim (knows.sought h hits) [ inl has ↦ inl (has_more h r has) | inr there ↦ inr there ];
    over = λ t h hits. has_more h r (knows.over t h hits);
    trial_is = knows.trial_is;
  })

  hits_first : (h : Members) (c : Conflict) → HitsAll h (cs ++ c ∷ []) → HitsAll h cs
  hits_first h c hits = all_first (λ (x : Conflict). IsTrue (list_any h x.premises)) cs (c ∷ []) hits

  pub knows_conflict : (new : List Conflict) (c : Conflict) → new ≡ cs ++ c ∷ [] → IsConflict g c
      → Knows g new rs f over trial
  knows_conflict new c is conflict = subst (λ (ds : List Conflict). Knows g ds rs f over trial) (sym is) (record {
    conflicts_are = All-push (IsConflict g) cs c knows.conflicts_are conflict;
    repairs_are = knows.repairs_are;
    sought = λ h hits. knows.sought h (hits_first h c hits);
    over = λ t h hits. knows.over t h (hits_first h c hits);
    trial_is = knows.trial_is;
  })

module _ (g : Ground) (cs : List Conflict) (out : List ℕ) (s : ShrinkingOf) (p : ℕ) where
  given : (trial : Option Trial) → All (IsConflict g) cs → Stands g cs out s p trial Giving
      → IsOutcomeIn g trial OutcomeFits → IsRepair g out
  given (Some t) conflicts stands fits = repair_so g cs conflicts out t.kept stands.0 stands.1 stands.2 fits
  given None conflicts stands lost = cc

  -- what was given up is a repair, where the rest fits
  pub given_fits : (trial : Option Trial) (stage : Stage) → stage ≡ Giving → All (IsConflict g) cs
      → Stands g cs out s p trial stage → IsOutcomeIn g trial OutcomeFits → IsRepair g out
  given_fits trial stage at conflicts stands fits =
      given trial conflicts (subst (λ (x : Stage). Stands g cs out s p trial x) at stands) fits

  -- a trial that goes on is one of the same premises
  pub stands_kept : (t u : Trial) (stage : Stage) → u.kept ≡ t.kept → Stands g cs out s p (Some t) stage
      → Stands g cs out s p (Some u) stage
  stands_kept t u Giving same stands = (
    stands.0,
    stands.1,
    λ q b o. subst (λ (l : List ℕ). set_of l q ≡ true) (sym same) (stands.2 q b o),
  )
  stands_kept t u Shrinking same stands = stands
  stands_kept t u Trying same stands =
      (stands.0, λ q m. subst (λ (l : List ℕ). set_of l q ≡ true) (sym same) (stands.1 q m))
  stands_kept t u Seeking same stands = tt
  stands_kept t u Idle same stands = tt

  -- refuted premises, with what came of the trial without one of them
  pub taken : (new : ShrinkingOf) (trial : Option Trial) (outcome : Outcome) → Stands g cs out s p trial Trying
      → IsOutcomeIn g trial outcome
      → ((h : Ground) (kept : List ℕ) → IsShrinking h s → IsPart (without (set_of s.premises) p) (set_of kept)
      → IsOutcome h kept outcome → IsShrinking h new) → IsShrinking g new
  taken new (Some t) outcome stands is take = take g t.kept stands.0 stands.1 is
  taken new None outcome stands lost take = take g s.premises stands.0 (without_part (set_of s.premises) p)
      (subst (IsOutcome g s.premises) (sym lost) tt)

-- the trial that began is of what is left, or of all premises but one
pub left_tried : (g : Ground) (out kept : List ℕ) (trial : Option Trial) → IfSome trial (λ t. t.kept ≡ kept)
    → ((p : ℕ) → believed_in g.premises p ≡ true → set_of out p ≡ false → set_of kept p ≡ true)
    → IfSome trial (IsLeft g out)
left_tried g out kept None same left = tt
left_tried g out kept (Some t) same left = λ p b o. subst (λ (l : List ℕ). set_of l p ≡ true) (sym same) (left p b o)

pub without_tried : (premises kept : List ℕ) (p : ℕ) (trial : Option Trial) → IfSome trial (λ t. t.kept ≡ kept)
    → IsSame (set_of kept) (without (set_of premises) p) → IfSome trial (IsWithout premises p)
without_tried premises kept p None same is = tt
without_tried premises kept p (Some t) same is =
    λ q m. subst (λ (l : List ℕ). set_of l q ≡ true) (sym same) (is q ∙ m)
