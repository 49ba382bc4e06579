-- Questions and the texts of replies, piece by piece.
use Rattle.std.proofs.Common.{◌≡◌, ◌∙◌, ℕ, ◌+◌, ◌<◌, List, [], ◌∷◌, ◌++◌, length, take, map, get_or, min, sym}
use Rattle.std.proofs.Common.{ap, arith, append_assoc, append-nil}
use Rattle.std.specs.Prelude.{flat_map}
use Rattle.std.specs.List.{zip}
use Rattle.std.proofs.lemmas.List.Concat.{flat_map-append}
use Rattle.std.proofs.lemmas.List.{take_more, take_all, map-append}
use Rattle.std.proofs.lemmas.Slice.Zip.{length-zip, get_or-zip}

-- one more pair of two lists
pub pairs_more : {A B : Type 0} (f : A × B → List ℕ) (ks : List A) (vs : List B) (old now new : List (List ℕ)) (i : ℕ)
    (k : A) (v : B) (line : List ℕ) → i < length ks → i < length vs → k ≡ get_or ks i k → v ≡ get_or vs i v
    → now ≡ old ++ map f (take i (zip ks vs)) → new ≡ now ++ line ∷ [] → line ≡ f (k, v)
    → new ≡ old ++ map f (take (i + 1) (zip ks vs))
pairs_more f ks vs old now new i k v line lk lv ek ev before more is =
    let within : i < length (zip ks vs) = omega (arith, length-zip ks vs, lk, lv) in
    let there : get_or (zip ks vs) i (k, v) ≡ (k, v) = get_or-zip ks vs i (k, v) lk lv ∙ (λ j. (sym ek j, sym ev j)) in
    let all : map f (take (i + 1) (zip ks vs)) ≡ map f (take i (zip ks vs)) ++ f (k, v) ∷ [] =
    ap (map f) (take_more (zip ks vs) i (k, v) within)
    ∙ map-append f (take i (zip ks vs)) (get_or (zip ks vs) i (k, v) ∷ [])
    ∙ ap (λ p. map f (take i (zip ks vs)) ++ f p ∷ []) there in
    more ∙ (λ j. before j ++ is j ∷ []) ∙ append_assoc old (map f (take i (zip ks vs))) (f (k, v) ∷ [])
    ∙ ap (λ t. old ++ t) (sym all)

-- all pairs
pub pairs_all : {A B : Type 0} (f : A × B → List ℕ) (ks : List A) (vs : List B) (old now : List (List ℕ)) (i : ℕ)
    → i ≡ min (length ks) (length vs) → now ≡ old ++ map f (take i (zip ks vs)) → now ≡ old ++ map f (zip ks vs)
pairs_all f ks vs old now i e before =
    before ∙ ap (λ t. old ++ map f t) (take_all i (zip ks vs) (omega (arith, length-zip ks vs, e)))

-- the pieces of one item more
pub items_more : {A B : Type 0} (f : A → List B) (xs : List A) (i : ℕ) (d : A) (now new : List B) → i < length xs
    → now ≡ flat_map f (take i xs) → new ≡ now ++ f (get_or xs i d) → new ≡ flat_map f (take (i + 1) xs)
items_more f xs i d now new l before more =
    let x = get_or xs i d in
    more ∙ ap (λ t. t ++ f x) before ∙ ap (λ t. flat_map f (take i xs) ++ t) (sym (append-nil (f x)))
    ∙ sym (flat_map-append f (take i xs) (x ∷ [])) ∙ ap (flat_map f) (sym (take_more xs i d l))
