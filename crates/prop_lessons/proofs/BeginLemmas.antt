-- Lists whose elements stand at their places in others.
use Rattle.std.proofs.Common.{◌≡◌, ℕ, ◌+◌, ◌≤◌, suc, List, [], ◌∷◌, length, Some, slice_get}
use Rattle.std.proofs.Common.{◌++◌, get_or, take, add-one, refl, sym, ◌∙◌, ap, subst, arith, All}
use Rattle.std.proofs.Math.Seq.{take-suc}
use Rattle.std.proofs.lemmas.Option.{get_or_from_slice_get, none-some, same_Some, slice_get-get_or, slice_get_within}
use Rattle.prop_lessons.specs.inner.Standing.{Begin}

pub begun_rest : {X : Type 0} (x y : X) (xs ys : List X) → Begin (x ∷ xs) (y ∷ ys) → Begin xs ys
begun_rest {X} x y xs ys b i z e = b (suc i) z e

pub begun_first : {X : Type 0} (x y : X) (xs ys : List X) → Begin (x ∷ xs) (y ∷ ys) → y ≡ x
begun_first {X} x y xs ys b = same_Some y x (b 0 x refl)

pub begun_none : {X : Type 0} (x : X) (xs : List X) → Begin (x ∷ xs) [] → ⊥
begun_none {X} x xs b = none-some x (b 0 x refl)

pub begun_length : {X : Type 0} (xs ys : List X) → Begin xs ys → length xs ≤ length ys
begun_length {X} [] ys b = omega arith
begun_length {X} (x ∷ xs) [] b = absurd (begun_none x xs b)
begun_length {X} (x ∷ xs) (y ∷ ys) b = omega (arith, begun_length xs ys (begun_rest x y xs ys b))

-- what is so of each of the second is so of each of the first
pub begun_all : {X : Type 0} (P : X → Type 0) (xs ys : List X) → Begin xs ys → All P ys → All P xs
begun_all {X} P xs ys b h k d l =
    let x = get_or xs k d in
    let at = b k x (slice_get-get_or xs k d l) in
    let Q : X → Type 0 = P in
    subst Q (get_or_from_slice_get ys k x d at) (h k d (slice_get_within ys k x at))

-- ---- one after the other

-- a copy of one more
pub taken_more : {X : Type 0} (xs ys zs : List X) (n : ℕ) (x y : X) → ys ≡ take n xs → slice_get xs n ≡ Some x
    → y ≡ x → zs ≡ ys ++ y ∷ [] → zs ≡ take (n + 1) xs
taken_more {X} xs ys zs n x y e f same g =
    let last : get_or xs n x ≡ y = get_or_from_slice_get xs n x x f ∙ sym same in
    let next : take (n + 1) xs ≡ take n xs ++ get_or xs n x ∷ [] =
    rw add-one (take-suc xs n x (slice_get_within xs n x f)) in
    g ∙ (ap (λ l. l ++ y ∷ []) e ∙ (ap (λ z. take n xs ++ z ∷ []) (sym last) ∙ sym next))
