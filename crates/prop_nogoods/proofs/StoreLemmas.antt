-- A set joins listed ones, none of which is part of it, and those that it is part of go.
use Rattle.std.proofs.Common.{◌≡◌, ◌∙◌, ◌<◌, ◌≤◌, ◌⊎◌, ℕ, zero, suc, Bool, true, false, not, cond, List, [], ◌∷◌}
use Rattle.std.proofs.Common.{insert, length, get_or, refl, sym, arith, inl, inr, All, Contains, filter, IsTrue, ◌||◌}
use Rattle.std.proofs.Common.{Option, None, Some, IfSome, subst, ap}
use Rattle.std.proofs.lemmas.List.Elements.{All-cons, All-contains, All-filter, All-contains_itself, All-get_or}
use Rattle.std.proofs.lemmas.List.Elements.{filter_passes, Contains-get_or}
use Rattle.std.specs.List.{find}
use Rattle.std.specs.List.Sorted.{IsStrictlyIncreasing}
use Rattle.std.specs.Option.{option_map}
use Rattle.std.proofs.lemmas.List.Kept.{AllPairs-filter, IsNonDecreasingBy-filter}
use Rattle.std.proofs.lemmas.List.Sorted.{All-permutation, Contains-permutation, IsPermutation-insert}
use Rattle.std.proofs.lemmas.List.Sorted.{IsPermutation-sym, IsNonDecreasingBy-insert}
use Rattle.prop_numbers.specs.Sets.{Members, set_of, is_within}
use Rattle.prop_numbers.proofs.WithinLemmas.{within_has}
use Rattle.prop_nogoods.specs.Stores.{has_part, staying, lacking, with_set, AreMinimal, AreBySize, AddsSet}
use Rattle.prop_nogoods.specs.inner.Stores.{HaveSame, IsPartOfNone}
use Rattle.prop_nogoods.proofs.PlaceLemmas.{IsPlace, pairs_insert, insert_behind}
use Rattle.prop_nogoods.proofs.StoreLaws.{PartOf, part-listed, has_part-from}

contains_here : {X : Type 0} (x : X) (xs : List X) → Contains (x ∷ xs) x
contains_here x xs = (0, omega arith, refl)

contains_there : {X : Type 0} (x y : X) (xs : List X) → Contains xs y → Contains (x ∷ xs) y
contains_there x y xs h = (suc h.0, omega (arith, h.1), h.2)

-- what passes the test stays
stays : {X : Type 0} (test : X → Bool) (xs : List X) (k : ℕ) (d : X) → k < length xs → test (get_or xs k d) ≡ true
    → Contains (filter test xs) (get_or xs k d)
stays test [] k d l t = absurd (omega (arith, l))
stays test (x ∷ xs) zero d l t = rw t (contains_here x (filter test xs))
stays test (x ∷ xs) (suc k) d l t = by (test x) (stays test xs k d (omega (arith, l)) t)
  where
    by : (b : Bool) → Contains (filter test xs) (get_or xs k d)
        → Contains (cond b (x ∷ filter test xs) (filter test xs)) (get_or xs k d)
    by true c = contains_there x (get_or xs k d) (filter test xs) c
    by false c = c

stays_in : {X : Type 0} (test : X → Bool) (xs : List X) (x : X) → Contains xs x → test x ≡ true
    → Contains (filter test xs) x
stays_in test xs x c t = rw c.2 at (stays test xs c.0 x c.1 (rw c.2 t))

pub never : (b : Bool) → ¬ (b ≡ true) → b ≡ false
never true h = absurd (h refl)
never false h = refl

-- the set is not part of the line
abbrev pub is_kept : List ℕ → List ℕ → Bool
is_kept n line = not (is_within (set_of line) n)

module _ (old : List (List ℕ)) (n : List ℕ) where
  left_only : (line : List ℕ) → Contains (staying old n) line → Contains old line
  left_only line c = All-contains (Contains old) (staying old n) line
      (All-filter (is_kept n) (Contains old) old (All-contains_itself old)) c

  -- the sets that stay, with this one at a place among them
  abbrev pub joined : ℕ → List (List ℕ)
  joined i = insert (staying old n) i n

  is_joined : (i : ℕ) → Contains (joined i) n
  is_joined i = Contains-permutation (n ∷ staying old n) (joined i) n (IsPermutation-insert (staying old n) i n)
      (contains_here n (staying old n))

  stays_joined : (i : ℕ) (line : List ℕ) → Contains (staying old n) line → Contains (joined i) line
  stays_joined i line c =
      Contains-permutation (n ∷ staying old n) (joined i) line (IsPermutation-insert (staying old n) i n)
      (contains_there n line (staying old n) c)

  joined_only : (i : ℕ) (line : List ℕ) → Contains (joined i) line → Contains old line ⊎ (line ≡ n)
  joined_only i line c = All-contains (λ x. Contains old x ⊎ (x ≡ n)) (joined i) line
      (All-permutation (λ x. Contains old x ⊎ (x ≡ n)) (n ∷ staying old n) (joined i)
      (IsPermutation-insert (staying old n) i n)
      (All-cons (λ x. Contains old x ⊎ (x ≡ n)) n (staying old n) (inr refl)
      (λ k d l. inl (left_only (get_or (staying old n) k d) (Contains-get_or (staying old n) k d l))))) c

  kept : (i : ℕ) (m : Members) → IsTrue (has_part old m) → IsTrue (has_part (joined i) m)
  kept i m h = by (is_within (set_of its.line) n) refl
    where
      its : PartOf old m
      its = part-listed old m h

      by : (b : Bool) → is_within (set_of its.line) n ≡ b → IsTrue (has_part (joined i) m)
      by true e = has_part-from (joined i) m n (is_joined i)
          (λ p t. its.is_part p (within_has (set_of its.line) n p e t))
      by false e = has_part-from (joined i) m its.line
          (stays_joined i its.line (stays_in (is_kept n) old its.line its.listed_in (rw e refl))) its.is_part

  pub adds_joined : (i : ℕ) → AddsSet old (joined i) n
  adds_joined i = record {
    has = has_part-from (joined i) (set_of n) n (is_joined i) (λ p t. t);
    kept = kept i;
    only = joined_only i;
  }

  pub adds_known : IsTrue (has_part old (set_of n)) → AddsSet old old n
  adds_known h = record {
    has = h;
    kept = λ m t. t;
    only = λ line c. inl c;
  }

  not_true : (b : Bool) → not b ≡ true → b ≡ false
  not_true true h = cc
  not_true false h = refl

  pub minimal_joined : (i : ℕ) → i ≤ length (staying old n) → has_part old (set_of n) ≡ false → AreMinimal old
      → AreMinimal (joined i)
  minimal_joined i inside none apart =
      pairs_insert (staying old n) i n inside
      (λ a b. (is_within (set_of b) a ≡ false) × (is_within (set_of a) b ≡ false))
      (AllPairs-filter (λ a b. (is_within (set_of b) a ≡ false) × (is_within (set_of a) b ≡ false)) (is_kept n) old
      apart)
      (λ k d l. let there : k < length (staying old n) = omega (arith, l, inside)
      in (no_part k d there, no_larger k d there))
      (λ k d l m. (no_larger k d m, no_part k d m))
    where
      no_part : (k : ℕ) (d : List ℕ) → k < length (staying old n)
          → is_within (set_of n) (get_or (staying old n) k d) ≡ false
      no_part k d l = never (is_within (set_of n) (get_or (staying old n) k d)) (λ t.
          let line = get_or (staying old n) k d in
          let listed = has_part-from old (set_of n) line
          (left_only line (Contains-get_or (staying old n) k d l)) (λ p s. within_has (set_of n) line p t s) in
          cc (none, listed))

      no_larger : (k : ℕ) (d : List ℕ) → k < length (staying old n)
          → is_within (set_of (get_or (staying old n) k d)) n ≡ false
      no_larger k d l =
          not_true (is_within (set_of (get_or (staying old n) k d)) n)
          (All-get_or (λ x. (is_kept n) x ≡ true) (staying old n) k d l (filter_passes (is_kept n) old))

  pub in_order_joined : (i : ℕ) → IsStrictlyIncreasing n → All IsStrictlyIncreasing old
      → All IsStrictlyIncreasing (joined i)
  in_order_joined i h all = All-permutation IsStrictlyIncreasing (n ∷ staying old n) (joined i)
      (IsPermutation-insert (staying old n) i n)
      (All-cons IsStrictlyIncreasing n (staying old n) h (All-filter (is_kept n) IsStrictlyIncreasing old all))

  pub by_size_kept : AreBySize old → AreBySize (staying old n)
  by_size_kept up = IsNonDecreasingBy-filter length (is_kept n) old up

  pub by_size_joined : (i : ℕ) → i ≤ length (staying old n) → IsPlace (staying old n) n i → AreBySize old
      → AreBySize (joined i)
  by_size_joined i inside place up =
      IsNonDecreasingBy-insert length (staying old n) i n (by_size_kept up) inside
      (λ k d l. place.0 k d (omega arith) l)
      (λ k d l m. let above = place.1 k d l m in omega (arith, above))

  pub joined_behind : (i : ℕ) → IsPlace (staying old n) n i → joined i ≡ with_set old n
  joined_behind i place = insert_behind n (staying old n) i place

-- where a set is part of none, all stay
pub staying_all : (listed : List (List ℕ)) (n : List ℕ) → IsPartOfNone listed n → listed ≡ staying listed n
staying_all [] n none = refl
staying_all (x ∷ xs) n none = rw (none 0 x (omega arith))
    (ap (λ ys. x ∷ ys) (staying_all xs n (λ k d l. none (suc k) d (omega (arith, l)))))

-- ---- two lists of the same sets

-- what is part of no set of one is part of none of the other
pub part_of_none-same : (a b : List (List ℕ)) (n : List ℕ) → HaveSame a b → IsPartOfNone a n → IsPartOfNone b n
part_of_none-same a b n same none = λ k d l.
    All-contains (λ line. is_within (set_of line) n ≡ false) a (get_or b k d) none
    (same.second (get_or b k d) (Contains-get_or b k d l))

-- a set that joins both is in both, and what stays of one stays of the other
module _ (a b : List (List ℕ)) (n : List ℕ) (same : (line : List ℕ) → Contains a line → Contains b line) where
  staying_same : (line : List ℕ) → Contains (staying a n) line → Contains (staying b n) line
  staying_same line c =
      stays_in (is_kept n) b line (same line (left_only a n line c))
      (All-contains (λ x. is_kept n x ≡ true) (staying a n) line (filter_passes (is_kept n) a) c)

  joined_same : (i j : ℕ) (line : List ℕ) → Contains (joined a n i) line → Contains (joined b n j) line
  joined_same i j line c =
      Contains-permutation (n ∷ staying b n) (joined b n j) line (IsPermutation-insert (staying b n) j n)
      (by (Contains-permutation (joined a n i) (n ∷ staying a n) line
      (IsPermutation-sym (n ∷ staying a n) (joined a n i) (IsPermutation-insert (staying a n) i n)) c))
    where
      by : Contains (n ∷ staying a n) line → Contains (n ∷ staying b n) line
      by (zero, l, e) = (zero, omega arith, e)
      by (suc k, l, e) = contains_there n line (staying b n) (staying_same line (k, omega (arith, l), e))

pub HaveSame-joined : (a b : List (List ℕ)) (n : List ℕ) (i j : ℕ) → HaveSame a b
    → HaveSame (joined a n i) (joined b n j)
HaveSame-joined a b n i j same = record {
  first = joined_same a b n same.first i j;
  second = joined_same b a n same.second j i;
}

-- ---- the sets without a premise

module _ (p : ℕ) where
  -- the set doesn't hold it
  abbrev pub is_without : List ℕ → Bool
  is_without line = not (set_of line p)

  lacking_same : (a b : List (List ℕ)) → ((line : List ℕ) → Contains a line → Contains b line) → (line : List ℕ)
      → Contains (lacking a p) line → Contains (lacking b p) line
  lacking_same a b same line c =
      stays_in is_without b line (same line
      (All-contains (Contains a) (lacking a p) line (All-filter is_without (Contains a) a (All-contains_itself a))
      c))
      (All-contains (λ x. is_without x ≡ true) (lacking a p) line (filter_passes is_without a) c)

  pub minimal_lacking : (old : List (List ℕ)) → AreMinimal old → AreMinimal (lacking old p)
  minimal_lacking old h = AllPairs-filter (λ a b. (is_within (set_of b) a ≡ false) × (is_within (set_of a) b ≡ false))
      is_without old h

  pub in_order_lacking : (old : List (List ℕ)) → All IsStrictlyIncreasing old → All IsStrictlyIncreasing (lacking old p)
  in_order_lacking old h = All-filter is_without IsStrictlyIncreasing old h

  pub by_size_lacking : (old : List (List ℕ)) → AreBySize old → AreBySize (lacking old p)
  by_size_lacking old h = IsNonDecreasingBy-filter length is_without old h

  pub HaveSame-lacking : (a b : List (List ℕ)) → HaveSame a b → HaveSame (lacking a p) (lacking b p)
  HaveSame-lacking a b same = record { first = lacking_same a b same.first; second = lacking_same b a same.second }

-- no part is in the one where none is in the other
pub no_part-same : (a b : List (List ℕ)) (w : Members) → HaveSame a b → has_part b w ≡ false → has_part a w ≡ false
no_part-same a b w same none = by (has_part a w) refl
  where
    by : (t : Bool) → has_part a w ≡ t → t ≡ false
    by true e =
        let its = part-listed a w e in
        cc (has_part-from b w its.line (same.first its.line its.listed_in) its.is_part, none)
    by false e = refl

-- where a search finds no set in a worldview, no listed set is part of it
pub none_found : {A : Type 0} (listed : List (List ℕ)) (w : Members) (r : Option A) (v : A → List ℕ)
    → option_map v r ≡ find (λ line. is_within w line) listed → r ≡ None → has_part listed w ≡ false
none_found listed w r v h none = none_in listed (sym h ∙ rw none refl)
  where
    none_in : (xs : List (List ℕ)) → find (λ line. is_within w line) xs ≡ None → has_part xs w ≡ false
    none_in [] e = refl
    none_in (x ∷ xs) e = by (is_within w x) e (none_in xs)
      where
        by : (b : Bool) → cond b (Some x) (find (λ line. is_within w line) xs) ≡ None
            → (find (λ line. is_within w line) xs ≡ None → has_part xs w ≡ false) → (b || has_part xs w) ≡ false
        by true e k = cc
        by false e k = k e

-- where a search finds a set in a worldview, no listed set in it is smaller
module _ (test : List ℕ → Bool) where
  smallest_in : (xs : List (List ℕ)) (y : List ℕ) → find test xs ≡ Some y → AreBySize xs
      → All (λ line. IsTrue (test line) → length y ≤ length line) xs
  smallest_in [] y e up = cc
  smallest_in (x ∷ xs) y e up = by (test x) refl e (λ f. smallest_in xs y f behind)
    where
      behind : AreBySize xs
      behind i j d l m = up (suc i) (suc j) d (omega (arith, l)) (omega (arith, m))

      by : (b : Bool) → test x ≡ b → cond b (Some x) (find test xs) ≡ Some y
          → (find test xs ≡ Some y → All (λ line. IsTrue (test line) → length y ≤ length line) xs)
          → All (λ line. IsTrue (test line) → length y ≤ length line) (x ∷ xs)
      by true t e rest = let is : x ≡ y =
          cc e in λ k d l h. subst (λ z. length z ≤ length (get_or (x ∷ xs) k d)) is (up 0 k d (omega arith) l)
      by false t e rest = All-cons (λ line. IsTrue (test line) → length y ≤ length line) x xs (λ h. cc (t, h)) (rest e)

  pub smallest_found : {A : Type 0} (listed : List (List ℕ)) (r : Option A) (v : A → List ℕ)
      → option_map v r ≡ find test listed → AreBySize listed
      → IfSome r (λ y. All (λ line. IsTrue (test line) → length (v y) ≤ length line) listed)
  smallest_found listed None v e up = tt
  smallest_found listed (Some y) v e up = smallest_in listed (v y) (sym e) up
