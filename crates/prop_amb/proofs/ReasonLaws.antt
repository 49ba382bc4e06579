-- Lists of sides and of reasons, as they are made from front to end.
use Rattle.std.proofs.Common.{◌≡◌, ◌∙◌, ℕ, zero, suc, ◌+◌, ◌-◌, ◌<◌, ◌≤◌, List, [], ◌∷◌, ◌++◌, length, take, drop, refl}
use Rattle.std.proofs.Common.{sym, ap, arith, add-one, length-drop, slice_set, slice_index_or}
use Rattle.std.proofs.Math.ListN.{replicate, drop_of_length-le}
use borrow.Rule.Slice.PartMut.{put_mid}
use Rattle.prop_amb.specs.Moving.{first_sides, advanced, no_reasons, reasons_advanced}

pub ones : (list : List ℕ) → first_sides list ≡ replicate (length list) 1
ones [] = refl
ones (side ∷ list) = ap (λ l. 1 ∷ l) (ones list)

-- what stands before the choice that advances, its next side, and a first side for each later choice
append_none : {A : Type 0} (xs : List A) → xs ++ [] ≡ xs
append_none [] = refl
append_none (x ∷ xs) = ap (λ l. x ∷ l) (append_none xs)

-- the end of a list with other items in its place
pub put_end : {A : Type 0} (a : ℕ) (xs ys : List A) → put_mid a (length xs - a) xs ys ≡ take a xs ++ ys
put_end a xs ys =
    let none : drop (length xs - a) (drop a xs) ≡ [] =
    drop_of_length-le (drop a xs) (omega (arith, length-drop a xs)) in
    ap (λ l. take a xs ++ l) (ap (λ l. ys ++ l) none ∙ append_none ys)

pub advanced_parts : (list : List ℕ) (j : ℕ) → j < length list
    → advanced list j ≡ (take j list ++ (slice_index_or list j 0 + 1) ∷ []) ++ replicate (length list - (j + 1)) 1
advanced_parts [] j l = absurd (omega (arith, l))
advanced_parts (side ∷ list) zero l = rw (one side, rest (length list), ones list) refl
  where
    one : (a : ℕ) → a + 1 ≡ suc a
    one a = omega arith

    rest : (n : ℕ) → suc n - (0 + 1) ≡ n
    rest n = omega arith
advanced_parts (side ∷ list) (suc j) l =
    rw (rest (length list) j) (ap (λ x. side ∷ x) (advanced_parts list j (omega (arith, l))))
  where
    rest : (n k : ℕ) → suc n - (suc k + 1) ≡ n - (k + 1)
    rest n k = omega arith

-- no choice more and none less
pub length-advanced : (list : List ℕ) (j : ℕ) → length (advanced list j) ≡ length list
length-advanced [] j = refl
length-advanced (side ∷ list) zero = ap suc (firsts list)
  where
    firsts : (list : List ℕ) → length (first_sides list) ≡ length list
    firsts [] = refl
    firsts (side ∷ list) = ap suc (firsts list)
length-advanced (side ∷ list) (suc j) = ap suc (length-advanced list j)

take_set : (list : List ℕ) (j v : ℕ) → j < length list → take (suc j) (slice_set list j v) ≡ take j list ++ v ∷ []
take_set [] j v l = absurd (omega (arith, l))
take_set (side ∷ list) zero v l = refl
take_set (side ∷ list) (suc j) v l = ap (λ x. side ∷ x) (take_set list j v (omega (arith, l)))

-- the later sides written over, in the list whose side at a place is the next one
pub sides_advanced : (list later : List ℕ) (j v : ℕ) → j < length list → v ≡ slice_index_or list j 0 + 1
    → later ≡ replicate (length list - (j + 1)) 1 →
    put_mid (j + 1) (length (slice_set list j v) - (j + 1)) (slice_set list j v) later ≡ advanced list j
sides_advanced list later j v l next ones =
    let front : take (j + 1) (slice_set list j v) ≡ take j list ++ v ∷ [] = rw add-one (take_set list j v l) in
    put_end (j + 1) (slice_set list j v) later ∙ rw (front, next, ones) (sym (advanced_parts list j l))

-- the reasons of the first so many choices are dropped
abbrev pub cleared : ℕ → List (List (List ℕ)) → List (List (List ℕ))
cleared zero reasons = reasons
cleared (suc n) [] = []
cleared (suc n) (each ∷ reasons) = [] ∷ cleared n reasons

pub cleared_more : (n : ℕ) (reasons : List (List (List ℕ))) → n < length reasons
    → slice_set (cleared n reasons) n [] ≡ cleared (suc n) reasons
cleared_more n [] l = absurd (omega (arith, l))
cleared_more zero (each ∷ reasons) l = refl
cleared_more (suc n) (each ∷ reasons) l = ap (λ x. [] ∷ x) (cleared_more n reasons (omega (arith, l)))

pub cleared_all : (n : ℕ) (reasons : List (List (List ℕ))) → length reasons ≤ n → cleared n reasons ≡ no_reasons reasons
cleared_all zero [] l = refl
cleared_all zero (each ∷ reasons) l = absurd (omega (arith, l))
cleared_all (suc n) [] l = refl
cleared_all (suc n) (each ∷ reasons) l = ap (λ x. [] ∷ x) (cleared_all n reasons (omega (arith, l)))

-- where one more reason is kept of a choice, and none of the later ones
pub advanced_reasons : (reasons : List (List (List ℕ))) (j : ℕ) (n : List ℕ) (d : List (List ℕ)) → j < length reasons →
    reasons_advanced reasons j n ≡ take (suc j)
    (slice_set reasons j (slice_index_or reasons j d ++ n ∷ [])) ++ no_reasons
    (drop (suc j) (slice_set reasons j (slice_index_or reasons j d ++ n ∷ [])))
advanced_reasons [] j n d l = absurd (omega (arith, l))
advanced_reasons (each ∷ reasons) zero n d l = refl
advanced_reasons (each ∷ reasons) (suc j) n d l = ap (λ x. each ∷ x) (advanced_reasons reasons j n d (omega (arith, l)))
