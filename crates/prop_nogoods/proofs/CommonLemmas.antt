-- What nogoods have in common, and how large they are.
use Rattle.std.proofs.Common.{◌≡◌, ◌∙◌, ◌≤◌, ◌==◌, ℕ, Bool, true, false, not, ◌&&◌, ◌||◌, List, [], ◌∷◌, ◌++◌}
use Rattle.std.proofs.Common.{length, get_or, drop, refl, sym, ap, arith, inl, inr}
use Rattle.std.specs.List.{list_any}
use Rattle.std.specs.List.Sorted.{IsStrictlyIncreasing}
use Rattle.std.proofs.lemmas.Bool.Decides.{eqb_tells}
use Rattle.std.proofs.lemmas.List.Elements.{All-weaker}
use Rattle.std.proofs.lemmas.List.Folds.{list_any-append, list_any_none}
use Rattle.prop_numbers.specs.Sets.{Members, set_of, is_within, without}
use Rattle.prop_numbers.proofs.WithinLemmas.{within_has, within_from}
use Rattle.prop_nogoods.specs.Stores.{has_part}
use Rattle.prop_nogoods.specs.inner.Endings.{HaveAll, AreNoLarger}
use Rattle.prop_nogoods.specs.inner.Stores.{IsPartOfNone}
use Rattle.prop_nogoods.proofs.PlaceLemmas.{part_of_none}
use Rattle.prop_nogoods.proofs.StoreLemmas.{never}

-- ---- the premises of two sets, one premise of the first after the other

-- of the premises of the first that came up, those that the other has
abbrev pub is_shared : List ℕ → List ℕ → List ℕ → Members
is_shared a b passed p = set_of a p && (set_of b p || not (set_of passed p))

passed_more : (passed : List ℕ) (x p : ℕ) → set_of (passed ++ x ∷ []) p ≡ (set_of passed p || (x == p))
passed_more passed x p = list_any-append (λ q. q == p) passed (x ∷ []) ∙ by (set_of passed p) (x == p)
  where
    by : (t e : Bool) → (t || (e || false)) ≡ (t || e)
    by true e = refl
    by false true = refl
    by false false = refl

held : (s a b y e : Bool) → s ≡ (a && (b || not y)) → (e ≡ true → b ≡ true) → s ≡ (a && (b || not (y || e)))
held s a b true e h t = h
held s a b false false h t = h
held s a true false true h t = h
held s a false false true h t = let clash : false ≡ true = t refl in cc

lacked : (s' s a b y e : Bool) → s' ≡ (s && not e) → s ≡ (a && (b || not y)) → (e ≡ true → b ≡ false)
    → s' ≡ (a && (b || not (y || e)))
lacked s' s a true y true n h t = let clash : true ≡ false = t refl in cc
lacked s' s true false true true n h t = n ∙ ap (λ v. v && false) h
lacked s' s true false false true n h t = n ∙ ap (λ v. v && false) h
lacked s' s false false y true n h t = n ∙ ap (λ v. v && false) h
lacked s' s true true y false n h t = n ∙ ap (λ v. v && true) h
lacked s' s true false true false n h t = n ∙ ap (λ v. v && true) h
lacked s' s true false false false n h t = n ∙ ap (λ v. v && true) h
lacked s' s false b y false n h t = n ∙ ap (λ v. v && true) h

module _ (a b passed s : List ℕ) (x : ℕ) (so_far : (p : ℕ) → set_of s p ≡ is_shared a b passed p) where
  -- one that the other has
  pub shared_held : set_of b x ≡ true → (p : ℕ) → set_of s p ≡ is_shared a b (passed ++ x ∷ []) p
  shared_held has p =
      held (set_of s p) (set_of a p) (set_of b p) (set_of passed p) (x == p) (so_far p)
      (λ e. elim (eqb_tells x p) [ inl same ↦ rw (← same.1) has | inr other ↦ cc (e, other.0) ])
      ∙ ap (λ t. set_of a p && (set_of b p || not t)) (sym (passed_more passed x p))

  -- one that it lacks goes
  pub shared_lacked : (new : List ℕ) → ((p : ℕ) → set_of new p ≡ without (set_of s) x p) → set_of b x ≡ false
      → (p : ℕ) → set_of new p ≡ is_shared a b (passed ++ x ∷ []) p
  shared_lacked new goes lacks p =
      lacked (set_of new p) (set_of s p) (set_of a p) (set_of b p) (set_of passed p) (x == p) (goes p) (so_far p)
      (λ e. elim (eqb_tells x p) [ inl same ↦ rw (← same.1) lacks | inr other ↦ cc (e, other.0) ])
      ∙ ap (λ t. set_of a p && (set_of b p || not t)) (sym (passed_more passed x p))

-- where none came up yet, the first set
pub shared_none : (a b : List ℕ) (p : ℕ) → set_of a p ≡ is_shared a b [] p
shared_none a b p = by (set_of a p) (set_of b p)
  where
    by : (s t : Bool) → s ≡ (s && (t || true))
    by true true = refl
    by true false = refl
    by false t = refl

-- where all came up, the premises of both
pub shared_all : (a b : List ℕ) (p : ℕ) → is_shared a b a p ≡ (set_of a p && set_of b p)
shared_all a b p = by (set_of a p) (set_of b p)
  where
    by : (s t : Bool) → (s && (t || not s)) ≡ (s && t)
    by true true = refl
    by true false = refl
    by false t = refl

both_first : (a b : Bool) → (a && b) ≡ true → a ≡ true
both_first true b h = refl
both_first false b h = h

both_second : (a b : Bool) → (a && b) ≡ true → b ≡ true
both_second true b h = h
both_second false b h = cc

-- ---- what all have

module _ (a b both : List ℕ) (are : (p : ℕ) → set_of both p ≡ (set_of a p && set_of b p)) where
  pub in_second : is_within (set_of b) both ≡ true
  in_second = within_from (set_of b) both (λ p t. both_second (set_of a p) (set_of b p) (sym (are p) ∙ t))

  -- sets that have all of the first have all that it shares
  pub have_shared : (sets : List (List ℕ)) → HaveAll a sets → HaveAll both sets
  have_shared sets all k d l =
      let line = get_or sets k d in
      within_from (set_of line) both (λ p t.
      within_has (set_of line) a p (all k d l) (both_first (set_of a p) (set_of b p) (sym (are p) ∙ t)))

-- where not all of it is in a set, no part of the set is listed
pub none_without_common : (w : Members) (common : List ℕ) (sets : List (List ℕ)) → is_within w common ≡ false
    → HaveAll common sets → has_part sets w ≡ false
none_without_common w common sets lacks all =
    list_any_none (λ line. is_within w line) sets (λ k d l.
    let line = get_or sets k d in
    never (is_within w line) (λ t.
    let has : is_within w common ≡ true = within_from w common (λ p m.
    within_has w line p t (within_has (set_of line) common p (all k d l) m)) in
    cc (has, lacks)))

-- ---- how large they are

pub no_larger_more : (m n : ℕ) (sets : List (List ℕ)) → m ≤ n → AreNoLarger m sets → AreNoLarger n sets
no_larger_more m n sets l all =
    All-weaker (λ line. length line ≤ m) (λ line. length line ≤ n) (λ line h. omega (arith, h, l)) sets all

none_behind : (p : List ℕ → Bool) (sets : List (List ℕ)) → list_any p (drop (length sets) sets) ≡ false
none_behind p [] = refl
none_behind p (x ∷ xs) = none_behind p xs

-- a set that is as large as any of those listed, and of which none is part, is part of none
pub part_of_no_larger : (largest : ℕ) (sets : List (List ℕ)) (n : List ℕ) → IsStrictlyIncreasing n
    → AreNoLarger largest sets → largest ≤ length n → has_part sets (set_of n) ≡ false → IsPartOfNone sets n
part_of_no_larger largest sets n up all l no_part =
    part_of_none sets n (length sets) up
    (λ k d m i. let its = all k d i in omega (arith, its, l), λ k d m i. absurd (omega (arith, m, i)))
    no_part (none_behind (λ line. is_within (set_of line) n) sets)
