-- What sets have of others, and what they have no more when they lose something.
use Rattle.std.proofs.Common.{◌≡◌, ◌∙◌, ◌⊎◌, ◌==◌, ◌&&◌, ◌||◌, ℕ, Bool, true, false, not, List, [], ◌∷◌, ◌++◌}
use Rattle.std.proofs.Common.{Contains, get_or, refl, sym, subst, inl, inr}
use Rattle.std.specs.List.{list_any}
use Rattle.std.proofs.lemmas.Bool.Decides.{eqb_tells}
use Rattle.std.proofs.lemmas.List.Folds.{list_any-append}
use Rattle.prop_numbers.specs.Sets.{Members, set_of, without, IsPart, IsSame}
use Rattle.prop_hitting.specs.declared.conflict.Conflict.{Conflict}
use Rattle.prop_hitting.specs.Hitting.{HitsAll, IsLean}

or_first : (b c : Bool) → b ≡ true → (b || c) ≡ true
or_first true c e = refl
or_first false c e = cc

or_last : (b c : Bool) → c ≡ true → (b || c) ≡ true
or_last true c e = refl
or_last false c e = e

or_cases : (b c : Bool) → (b || c) ≡ true → (b ≡ true) ⊎ (c ≡ true)
or_cases true c h = inl refl
or_cases false c h = inr h

pub decide : (b : Bool) → (b ≡ true) ⊎ (b ≡ false)
decide true = inl refl
decide false = inr refl

same : (n p : ℕ) → (n == p) ≡ true → n ≡ p
same n p h = elim (eqb_tells n p) [ inl e ↦ e.1 | inr e ↦ cc (e.0, h) ]

same_test : (p : ℕ) → (p == p) ≡ true
same_test p = elim (eqb_tells p p) [ inl e ↦ e.0 | inr e ↦ absurd (e.1 refl) ]

-- what one set has something of, a larger one does
pub any_part : (s t : Members) (xs : List ℕ) → IsPart s t → list_any s xs ≡ true → list_any t xs ≡ true
any_part s t [] part h = cc
any_part s t (x ∷ xs) part h =
    elim (or_cases (s x) (list_any s xs) h) as (λ _. (t x || list_any t xs) ≡ true) [
      | inl e ↦ or_first (t x) (list_any t xs) (part x e)
      | inr e ↦ or_last (t x) (list_any t xs) (any_part s t xs part e)
    ]

pub none_part : (s t : Members) (xs : List ℕ) → IsPart s t → list_any t xs ≡ false → list_any s xs ≡ false
none_part s t xs part h = elim (decide (list_any s xs)) [
  | inl e ↦ let clash : list_any t xs ≡ true = any_part s t xs part e in cc (clash, h)
  | inr e ↦ e
]

pub any_in : (h : Members) (xs : List ℕ) (p : ℕ) → set_of xs p ≡ true → h p ≡ true → list_any h xs ≡ true
any_in h [] p there has = cc
any_in h (x ∷ xs) p there has =
    elim (or_cases (x == p) (set_of xs p) there) as (λ _. (h x || list_any h xs) ≡ true) [
      | inl e ↦ or_first (h x) (list_any h xs) (subst (λ q. h q ≡ true) (sym (same x p e)) has)
      | inr e ↦ or_last (h x) (list_any h xs) (any_in h xs p e has)
    ]

-- where the set has something of a list, that is one of its numbers
pub any_at : (h : Members) (xs : List ℕ) → list_any h xs ≡ true → (p : ℕ) × (set_of xs p ≡ true) × (h p ≡ true)
any_at h [] e = cc
any_at h (x ∷ xs) e = elim (or_cases (h x) (list_any h xs) e) [
  | inl here ↦ (x, or_first (x == x) (set_of xs x) (same_test x), here)
  | inr there ↦
      let at = any_at h xs there in (at.0, or_last (x == at.0) (set_of xs at.0) at.1, at.2)
]

-- one number more
pub none_more : (h : Members) (passed : List ℕ) (x : ℕ) → list_any h passed ≡ false → h x ≡ false
    → list_any h (passed ++ x ∷ []) ≡ false
none_more h passed x none lacks = list_any-append h passed (x ∷ []) ∙ (λ i. none i || (lacks i || false))

pub any_middle : (h : Members) (xs ys : List ℕ) (x : ℕ) → h x ≡ true → list_any h (xs ++ x ∷ ys) ≡ true
any_middle h [] ys x e = or_first (h x) (list_any h ys) e
any_middle h (y ∷ xs) ys x e = or_last (h y) (list_any h (xs ++ x ∷ ys)) (any_middle h xs ys x e)

and_first : (b c : Bool) → (b && c) ≡ true → b ≡ true
and_first true c h = refl
and_first false c h = cc

and_second : (b c : Bool) → (b && c) ≡ true → c ≡ true
and_second true c h = h
and_second false c h = cc

and_both : (b c : Bool) → b ≡ true → c ≡ true → (b && c) ≡ true
and_both true c p q = q
and_both false c p q = cc

-- a set without a premise is part of it, and of the same of a larger one
pub without_part : (s : Members) (q : ℕ) → IsPart (without s q) s
without_part s q p h = and_first (s p) (not (q == p)) h

pub without_parts : (s t : Members) (q : ℕ) → IsPart s t → IsPart (without s q) (without t q)
without_parts s t q part p h =
    and_both (t p) (not (q == p)) (part p (and_first (s p) (not (q == p)) h)) (and_second (s p) (not (q == p)) h)

-- the number that is left out
without_it : (s : Members) (q : ℕ) → without s q q ≡ true → ⊥
without_it s q h =
    let test = and_second (s q) (not (q == q)) h in
    let is : (q == q) ≡ true = same_test q in
    let clash : not true ≡ true = subst (λ b. not b ≡ true) is test in cc clash

pub same_part : (s t : Members) → IsSame s t → IsPart s t
same_part s t e p h = sym (e p) ∙ h

pub part_same : (s t : Members) → IsSame s t → IsPart t s
part_same s t e p h = e p ∙ h

pub part_trans : (s t u : Members) → IsPart s t → IsPart t u → IsPart s u
part_trans s t u a b p h = b p (a p h)

pub less_part : (less s : Members) (q : ℕ) → IsSame less (without s q) → IsPart less s
less_part less s q e p h = without_part s q p (sym (e p) ∙ h)

-- ---- conflicts that are hit

pub hits_part : (s t : Members) (cs : List Conflict) → IsPart s t → HitsAll s cs → HitsAll t cs
hits_part s t cs part h = λ k d l. any_part s t (get_or cs k d).premises part (h k d l)

-- without the premise the set has nothing of some conflict
pub record Needs (cs : List Conflict) (s : Members) (p : ℕ) : Type 0 where
  pub conflict : Conflict
  pub listed : Contains cs conflict
  pub missed : list_any (without s p) conflict.premises ≡ false

pub needs_part : (cs : List Conflict) (s t : Members) (p : ℕ) → IsPart s t → Needs cs t p → Needs cs s p
needs_part cs s t p part n = record {
  conflict = n.conflict;
  listed = n.listed;
  missed = none_part (without s p) (without t p) n.conflict.premises (without_parts s t p part) n.missed;
}

-- each premise that came up and is kept is needed
abbrev pub AreNeeded : List Conflict → List ℕ → List ℕ → Type 0
AreNeeded cs passed s = (p : ℕ) → set_of passed p ≡ true → set_of s p ≡ true → Needs cs (set_of s) p

passed_cases : (passed : List ℕ) (x p : ℕ) → set_of (passed ++ x ∷ []) p ≡ true → (set_of passed p ≡ true) ⊎ (x ≡ p)
passed_cases passed x p h =
    let e = sym (list_any-append (λ q. q == p) passed (x ∷ [])) ∙ h in
    elim (or_cases (set_of passed p) ((x == p) || false) e) [
      | inl a ↦ inl a
      | inr b ↦ elim (or_cases (x == p) false b) [ inl t ↦ inr (same x p t) | inr other ↦ cc other ]
    ]

module _ (cs : List Conflict) (passed s less : List ℕ) (x : ℕ)
    (is : IsSame (set_of less) (without (set_of s) x)) (needed : AreNeeded cs passed s) where
  is_part : IsPart (set_of less) (set_of s)
  is_part = part_trans (set_of less) (without (set_of s) x) (set_of s)
      (same_part (set_of less) (without (set_of s) x) is) (without_part (set_of s) x)

  -- one that goes
  pub needed_less : AreNeeded cs (passed ++ x ∷ []) less
  needed_less p came has = elim (passed_cases passed x p came) [
    | inl before ↦ needs_part cs (set_of less) (set_of s) p is_part (needed p before (is_part p has))
    | inr e ↦ absurd (without_it (set_of s) p (subst (λ q. without (set_of s) q p ≡ true) e (sym (is p) ∙ has)))
  ]

  -- one that stays
  pub needed_more : (c : Conflict) → Contains cs c → list_any (set_of less) c.premises ≡ false
      → AreNeeded cs (passed ++ x ∷ []) s
  needed_more c listed missed p came has = elim (passed_cases passed x p came) [
    | inl before ↦ needed p before has
    | inr e ↦ subst (Needs cs (set_of s)) e (record {
      conflict = c;
      listed = listed;
      missed = none_part (without (set_of s) x) (set_of less) c.premises
          (part_same (set_of less) (without (set_of s) x) is) missed;
    })
  ]

pub lean_so : (cs : List Conflict) (s : List ℕ) (all : List ℕ) → IsPart (set_of s) (set_of all)
    → AreNeeded cs all s → IsLean cs s
lean_so cs s all part needed p has =
    let n = needed p (part p has) has in (n.conflict, n.listed, n.missed)
