-- Lists from which some elements were dropped.
use Rattle.std.proofs.Common.{◌≡◌, ◌<◌, ◌+◌, ◌∙◌, ℕ, zero, suc, Bool, true, false, cond, List, [], ◌∷◌, ◌++◌, length}
use Rattle.std.proofs.Common.{filter, ap, sym, subst, get_or, refl, arith, inl, inr, ◌⊎◌, Contains, All, AllPairs, Any}
use Rattle.std.proofs.Common.{IsTrue, ◌↔◌}
use Rattle.std.specs.Bool.{MatchBool}
use Rattle.std.specs.List.{HoldsAt, AllWithin}
use Rattle.std.proofs.lemmas.List.{get_or_default}
use Rattle.std.specs.List.Retain.{RetainsInTurn}
use Rattle.std.proofs.lemmas.List.Elements.{filter-append, Contains-append_cases, Contains-append_left}
use Rattle.std.proofs.lemmas.List.Elements.{Contains-append_right, Contains-get_or, All-nil, All-cons, All-head}
use Rattle.std.proofs.lemmas.List.Elements.{All-tail, All-contains, All-contains_itself}
use Rattle.std.proofs.lemmas.List.Kept.{AllPairs-cons}
use Rattle.prop_tms.specs.Kept.{IsLeftWithout, IsGrownBy}

pub contains_here : {X : Type 0} (x : X) (xs : List X) → Contains (x ∷ xs) x
contains_here x xs = (0, omega arith, refl)

pub contains_there : {X : Type 0} (x y : X) (xs : List X) → Contains xs y → Contains (x ∷ xs) y
contains_there x y xs h = (suc h.0, omega (arith, h.1), h.2)

pub contains_cases : {X : Type 0} (x y : X) (xs : List X) → Contains (x ∷ xs) y → (x ≡ y) ⊎ Contains xs y
contains_cases x y xs h = by h.0 h.1 h.2
  where
    by : (k : ℕ) → k < length (x ∷ xs) → get_or (x ∷ xs) k y ≡ y → (x ≡ y) ⊎ Contains xs y
    by zero l e = inl e
    by (suc k) l e = inr (k, omega (arith, l), e)

-- ---- one element more

pub insert_here : {X : Type 0} (front rear : List X) (x : X) → Contains (front ++ x ∷ rear) x
insert_here front rear x = Contains-append_right front (x ∷ rear) x (contains_here x rear)

pub insert_there : {X : Type 0} (front rear : List X) (x y : X) → Contains (front ++ rear) y
    → Contains (front ++ x ∷ rear) y
insert_there front rear x y c = elim (Contains-append_cases front rear y c) [
  | inl before ↦ Contains-append_left front (x ∷ rear) y before
  | inr after ↦ Contains-append_right front (x ∷ rear) y (contains_there x y rear after)
]

pub insert_cases : {X : Type 0} (front rear : List X) (x y : X) → Contains (front ++ x ∷ rear) y
    → Contains (front ++ rear) y ⊎ (x ≡ y)
insert_cases front rear x y c = elim (Contains-append_cases front (x ∷ rear) y c) [
  | inl before ↦ inl (Contains-append_left front rear y before)
  | inr after ↦ elim (contains_cases x y rear after)
      [ inl here ↦ inr here | inr there ↦ inl (Contains-append_right front rear y there) ]
]

pub insert_length : {X : Type 0} (front rear : List X) (x : X) → length (front ++ x ∷ rear) ≡ length (front ++ rear) + 1
insert_length [] rear x = omega arith
insert_length (y ∷ front) rear x = let rest = insert_length front rear x in omega (arith, rest)

pub pairs_insert : {X : Type 0} (R : X → X → Type 0) (front rear : List X) (x : X) → AllPairs R (front ++ rear)
    → All (λ y. R y x × R x y) (front ++ rear) → AllPairs R (front ++ x ∷ rear)
pairs_insert R [] rear x pairs with_x = AllPairs-cons R x rear (λ k d l. (with_x k d l).1) pairs
pairs_insert {X} R (y ∷ front) rear x pairs with_x =
    let first : All (R y) (front ++ rear) = λ j d l. pairs 0 (suc j) d (omega arith) (omega (arith, l)) in
    AllPairs-cons R y (front ++ x ∷ rear)
    (λ k d l. by (get_or (front ++ x ∷ rear) k d) first
    (insert_cases front rear x (get_or (front ++ x ∷ rear) k d) (Contains-get_or (front ++ x ∷ rear) k d l)))
    (pairs_insert R front rear x (λ i j d lt l. pairs (suc i) (suc j) d (omega (arith, lt)) (omega (arith, l)))
    (All-tail (λ z. R z x × R x z) y (front ++ rear) with_x))
  where
    by : (z : X) → All (R y) (front ++ rear) → Contains (front ++ rear) z ⊎ (x ≡ z) → R y z
    by z first (inl there) = All-contains (R y) (front ++ rear) z first there
    by z first (inr same) = subst (R y) same (All-head (λ w. R w x × R x w) y (front ++ rear) with_x).0

module _ {X : Type 0} (D : X → Type 0) where
  turn : (x y : X) (xs zs ys : List X) (b : Bool) → (b ≡ false → D x) → (b ≡ true → ¬ (D x)) → y ≡ x
      → IsLeftWithout D xs zs → ys ≡ cond b (y ∷ zs) zs → IsLeftWithout D (x ∷ xs) ys
  turn x y xs zs ys true goes stays same rest is = inr (stays refl, (zs, is ∙ ap (λ u. u ∷ zs) same, rest))
  turn x y xs zs ys false goes stays same rest is = inl (goes refl, rw is rest)

  -- what `retain` leaves, where the closure says `false` just of what is to go
  pub left_from_retain : {F : Type 0} (R : F → X → Bool → F → X → Type 0) (f : F)
      → ((x : X) (b : Bool) (f' : F) (y : X) → R f x b f' y
      → (b ≡ false → D x) × (b ≡ true → ¬ (D x)) × (f' ≡ f) × (y ≡ x)) →
      (xs ys : List X) → RetainsInTurn R f xs ys → IsLeftWithout D xs ys
  left_from_retain R f says [] ys h = h
  left_from_retain R f says (x ∷ xs) ys h =
      let said = says x h.0 h.1 h.2 h.3 in
      let later = subst (λ g. RetainsInTurn R g xs h.4) said.2 h.5 in
      turn x h.2 xs h.4 ys h.0 said.0 said.1 said.3 (left_from_retain R f says xs h.4 later) h.6

  -- what holds of all holds of those that stay
  pub left_all : (P : X → Type 0) (xs ys : List X) → IsLeftWithout D xs ys → All P xs → All P ys
  left_all P [] ys h k = rw h (All-nil P)
  left_all P (x ∷ xs) ys (inl h) k = left_all P xs ys h.1 (All-tail P x xs k)
  left_all P (x ∷ xs) ys (inr h) k = rw h.1.1
      (All-cons P x h.1.0 (All-head P x xs k) (left_all P xs h.1.0 h.1.2 (All-tail P x xs k)))

  pub left_only : (xs ys : List X) (y : X) → IsLeftWithout D xs ys → Contains ys y → Contains xs y
  left_only xs ys y h k = All-contains (Contains xs) ys y (left_all (Contains xs) xs ys h (All-contains_itself xs)) k

  -- the fact holds of none that stays
  pub left_none : (xs ys : List X) → IsLeftWithout D xs ys → All (λ y. ¬ (D y)) ys
  left_none [] ys h = rw h (All-nil (λ y. ¬ (D y)))
  left_none (x ∷ xs) ys (inl h) = left_none xs ys h.1
  left_none (x ∷ xs) ys (inr h) = rw h.1.1 (All-cons (λ y. ¬ (D y)) x h.1.0 h.0 (left_none xs h.1.0 h.1.2))

  -- each element stays, or the fact holds of it
  pub left_kept : (xs ys : List X) (y : X) → IsLeftWithout D xs ys → Contains xs y → Contains ys y ⊎ D y
  left_kept [] ys y h k = absurd (omega (arith, k.1))
  left_kept (x ∷ xs) ys y (inl h) k = elim (contains_cases x y xs k) [
    | inl e ↦ inr (rw e at h.0)
    | inr there ↦ left_kept xs ys y h.1 there
  ]
  left_kept (x ∷ xs) ys y (inr h) k = elim (contains_cases x y xs k) [
    | inl e ↦ inl (rw (h.1.1, ← e) (contains_here x h.1.0))
    | inr there ↦ elim (left_kept xs h.1.0 y h.1.2 there) [
      | inl stays ↦ inl (rw h.1.1 (contains_there x y h.1.0 stays))
      | inr gone ↦ inr gone
    ]
  ]

  pub left_pairs : (R : X → X → Type 0) (xs ys : List X) → IsLeftWithout D xs ys → AllPairs R xs → AllPairs R ys
  left_pairs R [] ys h k = rw h k
  left_pairs R (x ∷ xs) ys (inl h) k =
      left_pairs R xs ys h.1 (λ i j d lt l. k (suc i) (suc j) d (omega (arith, lt)) (omega (arith, l)))
  left_pairs R (x ∷ xs) ys (inr h) k =
      let first : All (R x) xs = λ j d l. k 0 (suc j) d (omega arith) (omega (arith, l)) in
      rw h.1.1 (AllPairs-cons R x h.1.0 (left_all (R x) xs h.1.0 h.1.2 first)
      (left_pairs R xs h.1.0 h.1.2 (λ i j d lt l. k (suc i) (suc j) d (omega (arith, lt)) (omega (arith, l)))))

  -- what passes no test that those that went pass stays as it was
  left_filter : (t : X → Bool) → ((x : X) → D x → t x ≡ false) → (xs ys : List X) → IsLeftWithout D xs ys
      → filter t ys ≡ filter t xs
  left_filter t h [] ys k = rw k refl
  left_filter t h (x ∷ xs) ys (inl k) = rw (h x k.0) (left_filter t h xs ys k.1)
  left_filter t h (x ∷ xs) ys (inr k) = rw k.1.1 (ap (λ zs. cond (t x) (x ∷ zs) zs) (left_filter t h xs k.1.0 k.1.2))

  -- what passes a test that neither the new element nor those that went pass stays as it was
  pub grown_filter : (t : X → Bool) (x : X) → t x ≡ false → ((y : X) → D y → t y ≡ false) → (xs ys : List X)
      → IsGrownBy D xs ys x → filter t ys ≡ filter t xs
  grown_filter t x own h xs ys (inl same) = ap (filter t) same
  grown_filter t x own h xs ys (inr k) =
      let front = k.0 in
      let rear = k.1 in
      let here : filter t (x ∷ rear) ≡ filter t rear = rw own refl in
      ap (filter t) k.3 ∙ filter-append t front (x ∷ rear) ∙ ap (λ zs. filter t front ++ zs) here
      ∙ sym (filter-append t front rear) ∙ left_filter t h xs (front ++ rear) k.2

-- what `any` tells
pub known_from_any : {X : Type 0} (P : X → Type 0) (xs : List X) (r : Bool)
    → MatchBool r ((k : ℕ) × (k < length xs) × HoldsAt P xs k) (AllWithin (λ x. ¬ (P x)) xs 0 (length xs))
    → IsTrue r ↔ Any P xs
known_from_any P [] true h = absurd (omega (arith, h.1))
known_from_any P (x ∷ xs) true h = (λ t. (h.0, get_or (x ∷ xs) h.0 x, h.1, at h.0 h.1, h.2 x), λ t. refl)
  where
    at : (k : ℕ) → k < length (x ∷ xs) → get_or (x ∷ xs) k (get_or (x ∷ xs) k x) ≡ get_or (x ∷ xs) k x
    at k l = get_or_default (x ∷ xs) k (get_or (x ∷ xs) k x) x l
known_from_any P xs false h = (λ t. cc, λ some. absurd (h some.0 some.1 (omega arith) some.2 (rw some.3 some.4)))
