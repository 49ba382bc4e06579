-- Items at places of lists, and the front of a list.
use Rattle.std.proofs.Common.{◌≡◌, ℕ, zero, suc, ◌<◌, List, [], ◌∷◌, ◌++◌, length, take, Some, refl, sym, ap, arith}
use Rattle.std.proofs.Common.{◌⊎◌, inl, inr, slice_get, slice_index_or}
use Rattle.std.specs.List.{AllZip}
use Rattle.prop_amb.proofs.ZipLemmas.{some_same, none_some}

-- the item of the first list beside an item of the second
pub zip_back : {A B : Type 0} (R : A → B → Type 0) (xs : List A) (ys : List B) (k : ℕ) (y : B) → AllZip R xs ys
    → slice_get ys k ≡ Some y → (x : A) × (slice_get xs k ≡ Some x) × R x y
zip_back R [] [] k y h e = absurd (none_some e)
zip_back R [] (z ∷ ys) k y h e = absurd h
zip_back R (x ∷ xs) [] k y h e = absurd h
zip_back R (x ∷ xs) (z ∷ ys) zero y h e = (x, refl, rw (← (some_same e)) h.0)
zip_back R (x ∷ xs) (z ∷ ys) (suc k) y h e = zip_back R xs ys k y h.1 e

-- where the list at a place has an item, the place is one of the list's
pub listed_at : {A : Type 0} (xss : List (List A)) (j k : ℕ) (x : A) → slice_get (slice_index_or xss j []) k ≡ Some x
    → slice_get xss j ≡ Some (slice_index_or xss j [])
listed_at [] j k x e = absurd (none_some e)
listed_at (xs ∷ xss) zero k x e = refl
listed_at (xs ∷ xss) (suc j) k x e = listed_at xss j k x e

-- no list is as good as an empty one
pub empty_last : {A : Type 0} (xss : List (List A)) (j : ℕ)
    → slice_index_or (xss ++ [] ∷ []) j [] ≡ slice_index_or xss j []
empty_last [] zero = refl
empty_last [] (suc j) = refl
empty_last (xs ∷ xss) zero = refl
empty_last (xs ∷ xss) (suc j) = empty_last xss j

pub get_front : {A : Type 0} (xs ys : List A) (k : ℕ) (x : A) → slice_get xs k ≡ Some x
    → slice_get (xs ++ ys) k ≡ Some x
get_front [] ys k x e = absurd (none_some e)
get_front (z ∷ xs) ys zero x e = e
get_front (z ∷ xs) ys (suc k) x e = get_front xs ys k x e

pub take_front : {A : Type 0} (xs ys : List A) (k : ℕ) (x : A) → slice_get xs k ≡ Some x → take k (xs ++ ys) ≡ take k xs
take_front [] ys k x e = absurd (none_some e)
take_front (z ∷ xs) ys zero x e = refl
take_front (z ∷ xs) ys (suc k) x e = ap (λ l. z ∷ l) (take_front xs ys k x e)

-- an item of a list with one more at its end is one of the list's, or the last
pub at_pushed : {A : Type 0} (xs : List A) (y : A) (k : ℕ) (x : A) → slice_get (xs ++ y ∷ []) k ≡ Some x
    → (slice_get xs k ≡ Some x) ⊎ ((k ≡ length xs) × (x ≡ y))
at_pushed [] y zero x e = inr (refl, sym (some_same e))
at_pushed [] y (suc k) x e = absurd (none_some e)
at_pushed (z ∷ xs) y zero x e = inl e
at_pushed (z ∷ xs) y (suc k) x e = elim (at_pushed xs y k x e) [ inl f ↦ inl f | inr f ↦ inr (ap suc f.0, f.1) ]

pub get_below_length : {A : Type 0} (xs : List A) (k : ℕ) (x : A) → slice_get xs k ≡ Some x → k < length xs
get_below_length [] k x e = absurd (none_some e)
get_below_length (z ∷ xs) zero x e = omega arith
get_below_length (z ∷ xs) (suc k) x e = omega (arith, get_below_length xs k x e)
