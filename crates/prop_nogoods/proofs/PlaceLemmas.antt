-- The place of a set in a list in order of size: behind those that are no larger, and before the larger ones.
use Rattle.std.proofs.Common.{◌≡◌, ◌∙◌, ◌<◌, ◌≤◌, ◌-◌, ◌+◌, ◌⊎◌, ℕ, zero, suc, Bool, true, false, nat_lt, List, [], ◌∷◌}
use Rattle.std.proofs.Common.{◌++◌, length, get_or, get_or-drop, length-drop, take, drop, insert, AllPairs, refl, sym}
use Rattle.std.proofs.Common.{subst, ap, arith, inl, inr}
use Rattle.std.specs.List.{list_any}
use Rattle.std.specs.List.Sorted.{IsStrictlyIncreasing, IsPartitionPoint}
use Rattle.std.proofs.lemmas.Bool.{leb-true}
use Rattle.std.proofs.lemmas.Bool.Decides.{eqb_tells, leb_tells}
use Rattle.std.proofs.lemmas.List.Edits.{get_or-insert_at, get_or-insert_below, get_or-insert_above, length-insert}
use Rattle.std.proofs.lemmas.List.Folds.{list_any_at}
use Rattle.std.proofs.lemmas.List.Elements.{Contains-get_or}
use Rattle.prop_numbers.specs.Sets.{set_of, is_within}
use Rattle.prop_nogoods.specs.Stores.{has_part, no_larger, larger}
use Rattle.prop_nogoods.specs.inner.Stores.{IsPartOfNone}
use Rattle.prop_nogoods.proofs.SizeLemmas.{is_small, not_small, part_is_whole}
use Rattle.prop_nogoods.proofs.StoreLaws.{has_part-from}
use Rattle.prop_numbers.proofs.WithinLemmas.{within_has}

-- where a set is listed behind those that are no larger
abbrev pub IsPlace : List (List ℕ) → List ℕ → ℕ → Type 0
IsPlace listed n i = IsPartitionPoint (λ line. length line ≤ length n) (λ line. length n < length line) listed i

pub place_from : (listed : List (List ℕ)) (n : List ℕ) (i : ℕ)
    → IsPartitionPoint (λ line. is_small n line ≡ true) (λ line. is_small n line ≡ false) listed i → IsPlace listed n i
place_from listed n i h = (
  λ k d l m. leb-true (length (get_or listed k d)) (length n) (h.0 k d l m),
  λ k d l m. not_small n (get_or listed k d) (h.1 k d l m),
)

-- a set that no listed one is part of is part of none if it is part of none of those behind its place
pub part_of_none : (listed : List (List ℕ)) (n : List ℕ) (i : ℕ) → IsStrictlyIncreasing n → IsPlace listed n i
    → has_part listed (set_of n) ≡ false
    → list_any (λ line. is_within (set_of line) n) (drop i listed) ≡ false → IsPartOfNone listed n
part_of_none listed n i up place no_part none k d l = by (is_within (set_of (get_or listed k d)) n) refl
  where
    whole : is_within (set_of (get_or listed k d)) n ≡ true → k < i → ⊥
    whole t below =
        let line = get_or listed k d in
        let back = part_is_whole n line up t (place.0 k d (omega arith) below) in
        let has = has_part-from listed (set_of n) line (Contains-get_or listed k d l)
        (λ p s. within_has (set_of n) line p back s) in
        cc (has, no_part)

    behind : is_within (set_of (get_or listed k d)) n ≡ true → i ≤ k → ⊥
    behind t from =
        let there : get_or (drop i listed) (k - i) d ≡ get_or listed k d =
        rw (get_or-drop i listed (k - i) d) (ap (λ j. get_or listed j d) (omega (arith, from))) in
        let has = list_any_at (λ line. is_within (set_of line) n) (drop i listed) (k - i) d
        (omega (arith, from, l, length-drop i listed))
        (rw there t) in
        cc (has, none)

    by : (b : Bool) → is_within (set_of (get_or listed k d)) n ≡ b → b ≡ false
    by true t = elim (leb_tells (suc k) i)
        [ inl e ↦ absurd (whole t e.1) | inr e ↦ absurd (behind t (omega (arith, e.1))) ]
    by false t = refl

module _ {X : Type 0} (xs : List X) (i : ℕ) (y : X) (inside : i ≤ length xs) where
  placed : (k : ℕ) (d : X)
      → ((k < i) × (get_or (insert xs i y) k d ≡ get_or xs k d))
      ⊎ (((k ≡ i) × (get_or (insert xs i y) k d ≡ y)) ⊎ ((i < k) × (get_or (insert xs i y) k d ≡ get_or xs (k - 1) d)))
  placed k d = elim (eqb_tells k i) [
    | inl e ↦ inr (inl (e.1, rw e.1 (get_or-insert_at xs i y d inside)))
    | inr e ↦ elim (leb_tells k i) [
      | inl l ↦ let below : k < i = omega (arith, l.1, e.1) in inl (below, get_or-insert_below xs i y d k below inside)
      | inr l ↦
          let back : k ≡ k - 1 + 1 = omega (arith, l.1) in
          inr (inr (
            l.1,
            ap (λ j. get_or (insert xs i y) j d) back
                ∙ get_or-insert_above xs i y d (k - 1) (omega (arith, l.1)) inside,
          ))
    ]
  ]

  -- what holds of each pair in order holds with one more where it holds of those before it and of those behind
  pub pairs_insert : (R : X → X → Type 0) → AllPairs R xs
      → ((k : ℕ) (d : X) → k < i → R (get_or xs k d) y)
      → ((k : ℕ) (d : X) → i ≤ k → k < length xs → R y (get_or xs k d)) → AllPairs R (insert xs i y)
  pairs_insert R apart before behind a b d l m = elim (placed a d) [
    | inl p ↦ elim (placed b d) [
      | inl q ↦ both (p.1, q.1) (apart a b d l (omega (arith, q.0, inside)))
      | inr t ↦ elim t [
        | inl q ↦ both (p.1, q.1) (before a d p.0)
        | inr q ↦ both (p.1, q.1) (apart a (b - 1) d (omega (arith, p.0, q.0)) (omega (arith, long, m, q.0)))
      ]
    ]
    | inr s ↦ elim s [
      | inl p ↦ elim (placed b d) [
        | inl q ↦ absurd (omega (arith, p.0, q.0, l))
        | inr t ↦ elim t [
          | inl q ↦ absurd (omega (arith, p.0, q.0, l))
          | inr q ↦ both (p.1, q.1) (behind (b - 1) d (omega (arith, q.0)) (omega (arith, long, m, q.0)))
        ]
      ]
      | inr p ↦ elim (placed b d) [
        | inl q ↦ absurd (omega (arith, p.0, q.0, l))
        | inr t ↦ elim t [
          | inl q ↦ absurd (omega (arith, p.0, q.0, l))
          | inr q ↦ both (p.1, q.1) (apart (a - 1) (b - 1) d (omega (arith, p.0, l)) (omega (arith, long, m, q.0)))
        ]
      ]
    ]
  ]
    where
      long : length (insert xs i y) ≡ length xs + 1
      long = length-insert xs i y inside

      both : {u v w z : X} → (u ≡ w) × (v ≡ z) → R w z → R u v
      both {u} {v} {w} {z} e r = subst (λ x. R x v) (sym e.0) (subst (λ x. R w x) (sym e.1) r)

-- the sets before the place are those that are no larger, and those behind it the larger ones
module _ (n : List ℕ) where
  abbrev pub is_larger : List ℕ → Bool
  is_larger line = nat_lt (length n) (length line)

  is_larger_true : (line : List ℕ) → length n < length line → is_larger line ≡ true
  is_larger_true line l = elim (leb_tells (suc (length n)) (length line))
      [ inl e ↦ e.0 | inr e ↦ absurd (omega (arith, l, e.1)) ]

  is_larger_false : (line : List ℕ) → length line ≤ length n → is_larger line ≡ false
  is_larger_false line l = elim (leb_tells (suc (length n)) (length line))
      [ inl e ↦ absurd (omega (arith, l, e.1)) | inr e ↦ e.0 ]

  first_place : (x : List ℕ) (xs : List (List ℕ)) → IsPlace (x ∷ xs) n 0 → IsPlace xs n 0
  first_place x xs place = (
    λ k d l m. absurd (omega (arith, m)),
    λ k d l m. place.1 (suc k) d (omega arith) (omega (arith, m)),
  )

  next_place : (x : List ℕ) (xs : List (List ℕ)) (i : ℕ) → IsPlace (x ∷ xs) n (suc i) → IsPlace xs n i
  next_place x xs i place = (
    λ k d l m. place.0 (suc k) d (omega arith) (omega (arith, m)),
    λ k d l m. place.1 (suc k) d (omega (arith, l)) (omega (arith, m)),
  )

  before_place : (listed : List (List ℕ)) (i : ℕ) → IsPlace listed n i → take i listed ≡ no_larger listed n
  before_place [] zero place = refl
  before_place [] (suc i) place = refl
  before_place (x ∷ xs) zero place = rw (is_larger_true x (place.1 0 x (omega arith) (omega arith)))
      (before_place xs 0 (first_place x xs place))
  before_place (x ∷ xs) (suc i) place =
      rw (is_larger_false x (place.0 0 x (omega arith) (omega arith)))
      (ap (λ ys. x ∷ ys) (before_place xs i (next_place x xs i place)))

  behind_place : (listed : List (List ℕ)) (i : ℕ) → IsPlace listed n i → drop i listed ≡ larger listed n
  behind_place [] zero place = refl
  behind_place [] (suc i) place = refl
  behind_place (x ∷ xs) zero place =
      rw (is_larger_true x (place.1 0 x (omega arith) (omega arith)))
      (ap (λ ys. x ∷ ys) (behind_place xs 0 (first_place x xs place)))
  behind_place (x ∷ xs) (suc i) place =
      rw (is_larger_false x (place.0 0 x (omega arith) (omega arith))) (behind_place xs i (next_place x xs i place))

  pub insert_behind : (listed : List (List ℕ)) (i : ℕ) → IsPlace listed n i
      → insert listed i n ≡ no_larger listed n ++ n ∷ larger listed n
  insert_behind listed i place =
      ap (λ ys. ys ++ n ∷ drop i listed) (before_place listed i place)
      ∙ ap (λ ys. no_larger listed n ++ n ∷ ys) (behind_place listed i place)
