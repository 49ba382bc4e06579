-- What is believed with the sides of the first choices alone.
use Rattle.std.proofs.Common.{◌≡◌, ◌∙◌, ℕ, zero, suc, ◌+◌, ◌<◌, ◌≤◌, IsTrue, Bool, true, false, not, List, [], ◌∷◌}
use Rattle.std.proofs.Common.{◌++◌, ◌||◌, ◌&&◌, ◌==◌, if◌then◌else◌, length, take, Some, slice_get, slice_index_or}
use Rattle.std.proofs.Common.{refl, sym, ap, arith, inl, inr}
use Rattle.std.proofs.lemmas.Bool.{or_cases, ne_eqb}
use Rattle.std.proofs.lemmas.Bool.Decides.{eqb_tells}
use Rattle.std.proofs.lemmas.List.{take_all, length-map}
use Rattle.prop_numbers.specs.Sets.{Members}
use Rattle.prop_premises.specs.declared.choice.Choice.{Choice}
use Rattle.prop_premises.specs.ChoiceLists.{hypothetical, hypotheticals_of, worldview, is_hypothetical, IsChoiceList}
use Rattle.prop_premises.specs.ChoiceLists.{AreInOrder}
use Rattle.prop_amb.specs.Search.{Stand, users_of, choices_in, believed_with}
use Rattle.prop_amb.specs.Moving.{first_sides, level_first}
use Rattle.prop_amb.proofs.ZipLemmas.{some_same, none_some}
use Rattle.prop_amb.proofs.SearchLaws.{both, or_true_left, or_true_right}
use Rattle.prop_amb.proofs.JoinLaws.{later_at}

pub or_no : (b : Bool) → (b || false) ≡ b
or_no true = refl
or_no false = refl

or_assoc : (a b c : Bool) → ((a || b) || c) ≡ (a || (b || c))
or_assoc true b c = refl
or_assoc false b c = refl

or_false : (x y : Bool) → x ≡ false → y ≡ false → (x || y) ≡ false
or_false x y p q = cc

-- ---- the sides of the first choices

-- a list without sides takes none
pub no_sides : (cs : List Choice) (p : ℕ) → hypotheticals_of cs [] p ≡ false
no_sides [] p = refl
no_sides (c ∷ cs) p = refl

-- what the first choices take, all do
pub fewer_taken : (cs : List Choice) (l : List ℕ) (n p : ℕ) → IsTrue (hypotheticals_of cs (take n l) p)
    → IsTrue (hypotheticals_of cs l p)
fewer_taken [] l n p t = absurd (both t refl)
fewer_taken (c ∷ cs) l zero p t = absurd (both t refl)
fewer_taken (c ∷ cs) [] (suc n) p t = absurd (both t refl)
fewer_taken (c ∷ cs) (s ∷ l) (suc n) p t =
    elim (or_cases (hypothetical c s == p) (hypotheticals_of cs (take n l) p) t) [
      | inl e ↦ or_true_left (hypothetical c s == p) (hypotheticals_of cs l p) e
      | inr e ↦ or_true_right (hypothetical c s == p) (hypotheticals_of cs l p) (fewer_taken cs l n p e)
    ]

-- of more choices more sides are taken
pub taken_more : (cs : List Choice) (l : List ℕ) (n m p : ℕ) → n ≤ m
    → IsTrue (hypotheticals_of cs (take n l) p) → IsTrue (hypotheticals_of cs (take m l) p)
taken_more [] l n m p le t = absurd (both t refl)
taken_more (c ∷ cs) l zero m p le t = absurd (both t refl)
taken_more (c ∷ cs) [] (suc n) m p le t = absurd (both t refl)
taken_more (c ∷ cs) (s ∷ l) (suc n) zero p le t = absurd (omega (arith, le))
taken_more (c ∷ cs) (s ∷ l) (suc n) (suc m) p le t =
    elim (or_cases (hypothetical c s == p) (hypotheticals_of cs (take n l) p) t) [
      | inl e ↦ or_true_left (hypothetical c s == p) (hypotheticals_of cs (take m l) p) e
      | inr e ↦ or_true_right (hypothetical c s == p) (hypotheticals_of cs (take m l) p)
          (taken_more cs l n m p (omega (arith, le)) e)
    ]

-- and it is of the first choices
pub taken_firsts : (cs : List Choice) (l : List ℕ) (n p : ℕ) → IsTrue (hypotheticals_of cs (take n l) p)
    → IsTrue (hypotheticals_of (take n cs) (take n l) p)
taken_firsts [] l n p t = absurd (both t refl)
taken_firsts (c ∷ cs) l zero p t = absurd (both t refl)
taken_firsts (c ∷ cs) [] (suc n) p t = absurd (both t refl)
taken_firsts (c ∷ cs) (s ∷ l) (suc n) p t =
    elim (or_cases (hypothetical c s == p) (hypotheticals_of cs (take n l) p) t) [
      | inl e ↦ or_true_left (hypothetical c s == p) (hypotheticals_of (take n cs) (take n l) p) e
      | inr e ↦ or_true_right (hypothetical c s == p) (hypotheticals_of (take n cs) (take n l) p)
          (taken_firsts cs l n p e)
    ]

-- one choice more takes its side
pub next_taken : (cs : List Choice) (l : List ℕ) (k : ℕ) (c : Choice) (side p : ℕ) → slice_get cs k ≡ Some c
    → slice_get l k ≡ Some side →
    hypotheticals_of cs (take (suc k) l) p ≡ (hypotheticals_of cs (take k l) p || (hypothetical c side == p))
next_taken [] l k c side p e f = absurd (none_some e)
next_taken (x ∷ cs) [] k c side p e f = absurd (none_some f)
next_taken (x ∷ cs) (a ∷ l) zero c side p e f =
    rw (some_same e, some_same f, no_sides cs p) (or_no (hypothetical c side == p))
next_taken (x ∷ cs) (a ∷ l) (suc k) c side p e f =
    ap (λ b. (hypothetical x a == p) || b) (next_taken cs l k c side p e f)
    ∙ sym (or_assoc (hypothetical x a == p) (hypotheticals_of cs (take k l) p) (hypothetical c side == p))

-- further choices take nothing of a list that ends before them
pub more_choices : (cs ds : List Choice) (l : List ℕ) (p : ℕ) → length l ≤ length cs
    → hypotheticals_of (cs ++ ds) l p ≡ hypotheticals_of cs l p
more_choices [] ds [] p few = no_sides ds p
more_choices [] ds (a ∷ l) p few = absurd (omega (arith, few))
more_choices (c ∷ cs) ds [] p few = refl
more_choices (c ∷ cs) ds (a ∷ l) p few =
    ap (λ b. (hypothetical c a == p) || b) (more_choices cs ds l p (omega (arith, few)))

-- the side of a choice is none that the choices before it take
pub taken_apart : (cs : List Choice) (l : List ℕ) (j : ℕ) (c : Choice) (side : ℕ) → AreInOrder cs → IsChoiceList cs l
    → slice_get cs j ≡ Some c → slice_get l j ≡ Some side → hypotheticals_of cs (take j l) (hypothetical c side) ≡ false
taken_apart [] l j c side order h e f = absurd (none_some e)
taken_apart (x ∷ cs) [] j c side order h e f = absurd h
taken_apart (x ∷ cs) (a ∷ l) zero c side order h e f = refl
taken_apart (x ∷ cs) (a ∷ l) (suc j) c side order h e f =
    let later = later_at x cs j c order.0 e in
    let its = h.0 in
    or_false (hypothetical x a == hypothetical c side) (hypotheticals_of cs (take j l) (hypothetical c side))
    (ne_eqb (hypothetical x a) (hypothetical c side) (λ same. absurd (omega (arith, later, its.0, its.1, same))))
    (taken_apart cs l j c side order.1 h.1 e f)

-- ---- what is believed

-- what is believed would be with the whole list
pub whole_has : (s : Stand) (p : ℕ) → IsTrue (believed_with s p)
    → IsTrue (worldview (users_of s) (choices_in s) s.list p)
whole_has s p t = elim (or_cases (users_of s p) (hypotheticals_of (choices_in s) (take s.level s.list) p) t) [
  | inl u ↦ or_true_left (users_of s p) (hypotheticals_of (choices_in s) s.list p) u
  | inr h ↦ or_true_right (users_of s p) (hypotheticals_of (choices_in s) s.list p)
      (fewer_taken (choices_in s) s.list s.level p h)
]

-- where the side of each choice is, that is all
pub whole_is : (s : Stand) → s.level ≡ length s.list → believed_with s ≡ worldview (users_of s) (choices_in s) s.list
whole_is s full = ap (λ l. worldview (users_of s) (choices_in s) l) (take_all s.level s.list (omega (arith, full)))

-- one side more
and_or : (u h e : Bool) → ((u || h) || e) ≡ (u || (h || e))
and_or true h e = refl
and_or false h e = refl

pub deeper_believes : (users : Members) (cs : List Choice) (l : List ℕ) (k : ℕ) (c : Choice) (side p : ℕ)
    → slice_get cs k ≡ Some c → slice_get l k ≡ Some side →
    (worldview users cs (take k l) p || (hypothetical c side == p)) ≡ worldview users cs (take (k + 1) l) p
deeper_believes users cs l k c side p e f =
    let one : k + 1 ≡ suc k = omega arith in
    and_or (users p) (hypotheticals_of cs (take k l) p) (hypothetical c side == p)
    ∙ ap (λ b. users p || b) (sym (next_taken cs l k c side p e f))
    ∙ ap (λ n. users p || hypotheticals_of cs (take n l) p) (sym one)

-- one side fewer
less : (u h e : Bool) → (e ≡ true → u ≡ false) → (e ≡ true → h ≡ false) → ((u || (h || e)) && not e) ≡ (u || h)
less true h true f g = absurd (both refl (f refl))
less false true true f g = absurd (both refl (g refl))
less false false true f g = refl
less true h false f g = refl
less false true false f g = refl
less false false false f g = refl

pub higher_believes : (users : Members) (cs : List Choice) (l : List ℕ) (k : ℕ) (c : Choice) (side p : ℕ)
    → AreInOrder cs → IsChoiceList cs l → ((q : ℕ) → IsTrue (users q) → is_hypothetical cs q ≡ false) →
    IsTrue (is_hypothetical cs (hypothetical c side)) → slice_get cs k ≡ Some c → slice_get l k ≡ Some side →
    (worldview users cs (take (k + 1) l) p && not (hypothetical c side == p)) ≡ worldview users cs (take k l) p
higher_believes users cs l k c side p order h apart its e f =
    let one : k + 1 ≡ suc k = omega arith in
    ap (λ n. (users p || hypotheticals_of cs (take n l) p) && not (hypothetical c side == p)) one
    ∙ ap (λ b. (users p || b) && not (hypothetical c side == p)) (next_taken cs l k c side p e f)
    ∙ less (users p) (hypotheticals_of cs (take k l) p) (hypothetical c side == p)
    (λ t. at t (users_apart (hypothetical c side))) (λ t. at_side t)
  where
    users_apart : (q : ℕ) → IsTrue (is_hypothetical cs q) → users q ≡ false
    users_apart q t = by (users q) refl
      where
        by : (b : Bool) → users q ≡ b → users q ≡ false
        by true u = absurd (both t (apart q u))
        by false u = u

    at : (hypothetical c side == p) ≡ true
        → (IsTrue (is_hypothetical cs (hypothetical c side)) → users (hypothetical c side) ≡ false) → users p ≡ false
    at t none = elim (eqb_tells (hypothetical c side) p) as (λ _. users p ≡ false)
        [ inl same ↦ rw same.1 at (none its) | inr other ↦ absurd (both t other.0) ]

    at_side : (hypothetical c side == p) ≡ true → hypotheticals_of cs (take k l) p ≡ false
    at_side t = elim (eqb_tells (hypothetical c side) p) as (λ _. hypotheticals_of cs (take k l) p ≡ false) [
      | inl same ↦ rw same.1 at (taken_apart cs l k c side order h e f)
      | inr other ↦ absurd (both t other.0)
    ]

-- ---- first sides

pub level_first_few : (n : ℕ) (l : List ℕ) → (level_first n l ≤ n) × (level_first n l ≤ length l)
level_first_few zero l = (omega arith, omega arith)
level_first_few (suc n) [] = (omega arith, omega arith)
level_first_few (suc n) (a ∷ l) = by (a == 1) (level_first_few n l)
  where
    by : (b : Bool) → (level_first n l ≤ n) × (level_first n l ≤ length l)
        → ((if b then suc (level_first n l) else 0) ≤ suc n)
        × ((if b then suc (level_first n l) else 0) ≤ length (a ∷ l))
    by true h = (omega (arith, h.0), omega (arith, h.1))
    by false h = (omega arith, omega arith)

-- the sides up to there are first ones
pub firsts_stay : (n : ℕ) (l : List ℕ) → take (level_first n l) (first_sides l) ≡ take (level_first n l) l
firsts_stay zero l = refl
firsts_stay (suc n) [] = refl
firsts_stay (suc n) (a ∷ l) = elim (eqb_tells a 1) as (λ _.
    take (level_first (suc n) (a ∷ l)) (first_sides (a ∷ l)) ≡ take (level_first (suc n) (a ∷ l)) (a ∷ l)) [
      | inl e ↦ ap (λ b. take (if b then suc (level_first n l) else 0) (first_sides (a ∷ l))) e.0
          ∙ ap (λ x. x ∷ take (level_first n l) (first_sides l)) (sym e.1) ∙ ap (λ xs. a ∷ xs) (firsts_stay n l)
          ∙ sym (ap (λ b. take (if b then suc (level_first n l) else 0) (a ∷ l)) e.0)
      | inr e ↦ ap (λ b. take (if b then suc (level_first n l) else 0) (first_sides (a ∷ l))) e.0
          ∙ sym (ap (λ b. take (if b then suc (level_first n l) else 0) (a ∷ l)) e.0)
    ]

pub firsts_length : (l : List ℕ) → length (first_sides l) ≡ length l
firsts_length l = length-map l (λ side. 1)

-- where they all are
pub first_up_to : (n : ℕ) (l : List ℕ) → n ≤ length l → ((i : ℕ) → i < n → slice_index_or l i 0 ≡ 1)
    → level_first n l ≡ n
first_up_to zero l few firsts = refl
first_up_to (suc n) [] few firsts = absurd (omega (arith, few))
first_up_to (suc n) (a ∷ l) few firsts = elim (eqb_tells a 1) as (λ _. level_first (suc n) (a ∷ l) ≡ suc n) [
  | inl e ↦ ap (λ b. if b then suc (level_first n l) else 0) e.0
      ∙ ap suc (first_up_to n l (omega (arith, few)) (λ i below. firsts (suc i) (omega (arith, below))))
  | inr e ↦ absurd (e.1 (firsts zero (omega arith)))
]

-- and where they are up to another
pub first_to_there : (n : ℕ) (l : List ℕ) (k : ℕ) → k < n → n ≤ length l → ((i : ℕ) → i < k → slice_index_or l i 0 ≡ 1)
    → (slice_index_or l k 0 ≡ 1 → ⊥) → level_first n l ≡ k
first_to_there zero l k within few firsts other = absurd (omega (arith, within))
first_to_there (suc n) [] k within few firsts other = absurd (omega (arith, few))
first_to_there (suc n) (a ∷ l) zero within few firsts other =
    elim (eqb_tells a 1) as (λ _. level_first (suc n) (a ∷ l) ≡ 0) [
      | inl e ↦ absurd (other e.1)
      | inr e ↦ ap (λ b. if b then suc (level_first n l) else 0) e.0
    ]
first_to_there (suc n) (a ∷ l) (suc k) within few firsts other =
    elim (eqb_tells a 1) as (λ _. level_first (suc n) (a ∷ l) ≡ suc k) [
      | inl e ↦ ap (λ b. if b then suc (level_first n l) else 0) e.0
          ∙ ap suc (first_to_there n l k (omega (arith, within)) (omega (arith, few))
          (λ i below. firsts (suc i) (omega (arith, below))) other)
      | inr e ↦ absurd (e.1 (firsts zero (omega arith)))
    ]
