-- Items of two lists that stand beside one another.
use Rattle.std.proofs.Common.{◌≡◌, ℕ, zero, suc, List, [], ◌∷◌, Some, None, length, refl, ap, slice_get, slice_index_or}
use Rattle.std.specs.List.{AllZip}

pub some_same : {X : Type 0} {x y : X} → Some x ≡ Some y → x ≡ y
some_same e = cc

pub none_some : {X : Type 0} {x : X} → None ≡ Some x → ⊥
none_some e = cc

pub index_at : {A : Type 0} (xs : List A) (k : ℕ) (x d : A) → slice_get xs k ≡ Some x → slice_index_or xs k d ≡ x
index_at [] k x d e = absurd (none_some e)
index_at (y ∷ xs) zero x d e = some_same e
index_at (y ∷ xs) (suc k) x d e = index_at xs k x d e

-- the item of the second list beside an item of the first
pub zip_at : {A B : Type 0} (R : A → B → Type 0) (xs : List A) (ys : List B) (k : ℕ) (x : A) → AllZip R xs ys
    → slice_get xs k ≡ Some x → (y : B) × (slice_get ys k ≡ Some y) × R x y
zip_at R [] [] k x h e = absurd (none_some e)
zip_at R [] (y ∷ ys) k x h e = absurd h
zip_at R (x' ∷ xs) [] k x h e = absurd h
zip_at R (x' ∷ xs) (y ∷ ys) zero x h e = (y, refl, rw (← (some_same e)) h.0)
zip_at R (x' ∷ xs) (y ∷ ys) (suc k) x h e = zip_at R xs ys k x h.1 e

pub zip_from : {A B : Type 0} (Q R : A → B → Type 0) (xs : List A) (ys : List B) → AllZip Q xs ys
    → ((k : ℕ) (x : A) (y : B) → slice_get xs k ≡ Some x → slice_get ys k ≡ Some y → R x y) → AllZip R xs ys
zip_from Q R [] [] h f = tt
zip_from Q R [] (y ∷ ys) h f = absurd h
zip_from Q R (x ∷ xs) [] h f = absurd h
zip_from Q R (x ∷ xs) (y ∷ ys) h f = (f 0 x y refl refl, zip_from Q R xs ys h.1 (λ k a b p q. f (suc k) a b p q))

pub zip_both : {A B : Type 0} (R : A → B → Type 0) (xs : List A) (ys : List B) (k : ℕ) (x : A) (y : B) → AllZip R xs ys
    → slice_get xs k ≡ Some x → slice_get ys k ≡ Some y → R x y
zip_both R [] ys k x y h e f = absurd (none_some e)
zip_both R (a ∷ xs) [] k x y h e f = absurd h
zip_both R (a ∷ xs) (b ∷ ys) zero x y h e f = rw (← (some_same e), ← (some_same f)) h.0
zip_both R (a ∷ xs) (b ∷ ys) (suc k) x y h e f = zip_both R xs ys k x y h.1 e f

-- there are as many of both
pub zip_length : {A B : Type 0} (R : A → B → Type 0) (xs : List A) (ys : List B) → AllZip R xs ys
    → length xs ≡ length ys
zip_length R [] [] h = refl
zip_length R [] (y ∷ ys) h = absurd h
zip_length R (x ∷ xs) [] h = absurd h
zip_length R (x ∷ xs) (y ∷ ys) h = ap suc (zip_length R xs ys h.1)
