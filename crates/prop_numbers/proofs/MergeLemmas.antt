-- Lists of numbers in which each is below all later ones.
use Rattle.std.proofs.Common.{◌≡◌, ℕ, zero, suc, ◌+◌, ◌<◌, ◌≤◌, Bool, true, false, ◌||◌, ◌==◌, List, [], ◌∷◌, ◌++◌}
use Rattle.std.proofs.Common.{refl, sym, ap, ◌∙◌, arith, inl, inr, ◌⊎◌, subst}
use Rattle.std.specs.List.{AllByRecursion}
use Rattle.std.specs.List.Sorted.{IsStrictlyIncreasing}
use Rattle.std.proofs.lemmas.Bool.Decides.{eqb_tells}
use Rattle.std.proofs.lemmas.List.Kept.{AllPairs-from_increasing}
use Rattle.std.proofs.lemmas.List.Elements.{recursion_from_All, All-from_recursion}
use Rattle.prop_numbers.specs.Sets.{set_of, IsSame, IsBelow}

-- each number is below all later ones
abbrev pub Rising : List ℕ → Type 0
Rising [] = Unit {0}
Rising (x ∷ xs) = AllByRecursion (λ y. x < y) xs × Rising xs

pub rising_from_increasing : (xs : List ℕ) → IsStrictlyIncreasing xs → Rising xs
rising_from_increasing [] up = tt
rising_from_increasing (x ∷ xs) up = (
  recursion_from_All (λ y. x < y) xs (λ k d l.
      AllPairs-from_increasing (x ∷ xs) up 0 (suc k) d (omega arith) (omega arith)),
  rising_from_increasing xs (λ k l. let e : suc k + 1 ≡ suc (k + 1) = omega arith in rw e
      at (up (suc k) (omega arith))),
)

pub increasing_from_rising : (xs : List ℕ) → Rising xs → IsStrictlyIncreasing xs
increasing_from_rising [] h k l = absurd (omega arith)
increasing_from_rising (x ∷ xs) h zero l = All-from_recursion (λ y. x < y) xs h.0 0 0 (omega arith)
increasing_from_rising (x ∷ xs) h (suc k) l =
    let e : suc k + 1 ≡ suc (k + 1) = omega arith in rw e (increasing_from_rising xs h.1 k (omega arith))

or_cases : (b c : Bool) → (b || c) ≡ true → (b ≡ true) ⊎ (c ≡ true)
or_cases true c h = inl refl
or_cases false c h = inr h

or_none : (b c : Bool) → (b || c) ≡ false → b ≡ false
or_none true c h = h
or_none false c h = refl

or_rest : (b c : Bool) → b ≡ false → (b || c) ≡ c
or_rest true c h = cc
or_rest false c h = refl

same : (n p : ℕ) → (n == p) ≡ true → n ≡ p
same n p h = elim (eqb_tells n p) [ inl e ↦ e.1 | inr e ↦ cc (e.0, h) ]

same_test : (p : ℕ) → (p == p) ≡ true
same_test p = elim (eqb_tells p p) [ inl e ↦ e.0 | inr e ↦ absurd (e.1 refl) ]

or_first : (b c : Bool) → b ≡ true → (b || c) ≡ true
or_first true c e = refl
or_first false c e = cc

or_last : (b c : Bool) → c ≡ true → (b || c) ≡ true
or_last true c e = refl
or_last false c e = e

-- what is in a list is above what is below its numbers
above : (x p : ℕ) (xs : List ℕ) → AllByRecursion (λ y. x < y) xs → set_of xs p ≡ true → x < p
above x p [] h t = cc
above x p (y ∷ ys) h t = elim (or_cases (y == p) (set_of ys p) t) [
  | inl e ↦ omega (arith, same y p e, h.0)
  | inr e ↦ above x p ys h.1 e
]

not_in : (x p : ℕ) (xs : List ℕ) → AllByRecursion (λ y. x < y) xs → p ≤ x → set_of xs p ≡ false
not_in x p xs h l = by (set_of xs p) refl
  where
    by : (b : Bool) → set_of xs p ≡ b → set_of xs p ≡ false
    by true e = absurd (omega (arith, l, above x p xs h e))
    by false e = e

-- each number is below all that are in the list
pub all_above : (x : ℕ) (xs : List ℕ) → ((p : ℕ) → set_of xs p ≡ true → x < p) → AllByRecursion (λ y. x < y) xs
all_above x [] h = tt
all_above x (y ∷ ys) h = (
  h y (or_first (y == y) (set_of ys y) (same_test y)),
  all_above x ys (λ p t. h p (or_last (y == p) (set_of ys p) t)),
)

heads : (x y : ℕ) (xs ys : List ℕ) → AllByRecursion (λ z. x < z) xs → AllByRecursion (λ z. y < z) ys
    → IsSame (set_of (x ∷ xs)) (set_of (y ∷ ys)) → x ≡ y
heads x y xs ys h k s =
    elim (or_cases (y == x) (set_of ys x) (sym (s x) ∙ or_first (x == x) (set_of xs x) (same_test x))) as (λ _. x ≡ y) [
      | inl e ↦ sym (same y x e)
      | inr e ↦ elim (or_cases (x == y) (set_of xs y) (s y ∙ or_first (y == y) (set_of ys y) (same_test y))) as (λ _.
          x ≡ y) [
            | inl f ↦ same x y f
            | inr f ↦ absurd (omega (arith, above y x ys k e, above x y xs h f))
          ]
    ]

tails : (x : ℕ) (xs ys : List ℕ) → AllByRecursion (λ z. x < z) xs → AllByRecursion (λ z. x < z) ys
    → IsSame (set_of (x ∷ xs)) (set_of (x ∷ ys)) →
    IsSame (set_of xs) (set_of ys)
tails x xs ys h k s p = by (x == p) refl
  where
    by : (b : Bool) → (x == p) ≡ b → set_of xs p ≡ set_of ys p
    by true e =
        let at : x ≡ p = same x p e in
        not_in x p xs h (omega (arith, at)) ∙ sym (not_in x p ys k (omega (arith, at)))
    by false e = sym (or_rest (x == p) (set_of xs p) e) ∙ s p ∙ or_rest (x == p) (set_of ys p) e

-- two lists in order with the same numbers are one
pub same_rising : (xs ys : List ℕ) → Rising xs → Rising ys → IsSame (set_of xs) (set_of ys) → xs ≡ ys
same_rising [] [] h k s = refl
same_rising [] (y ∷ ys) h k s = absurd (cc (s y, or_first (y == y) (set_of ys y) (same_test y)))
same_rising (x ∷ xs) [] h k s = absurd (cc (s x, or_first (x == x) (set_of xs x) (same_test x)))
same_rising (x ∷ xs) (y ∷ ys) h k s =
    let e : y ≡ x = sym (heads x y xs ys h.0 k.0 s) in
    let above_too : AllByRecursion (λ z. x < z) ys = subst (λ n. AllByRecursion (λ z. n < z) ys) e k.0 in
    let same_sets : IsSame (set_of (x ∷ xs)) (set_of (x ∷ ys)) =
    subst (λ n. IsSame (set_of (x ∷ xs)) (set_of (n ∷ ys))) e s in
    ap (λ l. x ∷ l) (same_rising xs ys h.1 k.1 (tails x xs ys h.0 above_too same_sets)) ∙ ap (λ n. n ∷ ys) (sym e)

pub same_increasing : (xs ys : List ℕ) → IsStrictlyIncreasing xs → IsStrictlyIncreasing ys
    → IsSame (set_of xs) (set_of ys) → xs ≡ ys
same_increasing xs ys h k s = same_rising xs ys (rising_from_increasing xs h) (rising_from_increasing ys k) s

all_push : (x n : ℕ) (xs : List ℕ) → AllByRecursion (λ y. x < y) xs → x < n → AllByRecursion (λ y. x < y) (xs ++ n ∷ [])
all_push x n [] h l = (l, tt)
all_push x n (y ∷ ys) h l = (h.0, all_push x n ys h.1 l)

-- one more number, above all others
pub rising_push : (xs : List ℕ) (n : ℕ) → Rising xs → IsBelow n (set_of xs) → Rising (xs ++ n ∷ [])
rising_push [] n h below = (tt, tt)
rising_push (x ∷ xs) n h below = (
  all_push x n xs h.0 (below x (or_first (x == x) (set_of xs x) (same_test x))),
  rising_push xs n h.1 (λ p t. below p (or_last (x == p) (set_of xs p) t)),
)
