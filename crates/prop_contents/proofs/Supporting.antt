-- The supports of several cells, one after the other.
use Rattle.std.proofs.Common.{◌≡◌, ◌∙◌, ◌+◌, ◌<◌, ◌++◌, ◌||◌, length, take, ℕ, Bool, true, false, List, [], ◌∷◌}
use Rattle.std.proofs.Common.{get_or, refl, sym, ap}
use Rattle.std.specs.List.{list_any, AllZip}
use Rattle.std.proofs.lemmas.List.{take_more}
use Rattle.std.proofs.lemmas.List.Folds.{list_any-append}
use Rattle.prop_numbers.specs.Sets.{Members, set_of, union, IsSame}
use Rattle.prop_contents.specs.Contents.{Entry, IsLeanAt, IsSupport}

or_none : (a : Bool) → (a || false) ≡ a
or_none true = refl
or_none false = refl

zip_push : {A B : Type 0} (R : A → B → Type 0) (xs : List A) (ys : List B) (x : A) (y : B) → AllZip R xs ys → R x y
    → AllZip R (xs ++ x ∷ []) (ys ++ y ∷ [])
zip_push R [] [] x y h r = (r, tt)
zip_push R [] (z ∷ ys) x y h r = absurd h
zip_push R (z ∷ xs) [] x y h r = absurd h
zip_push R (a ∷ xs) (b ∷ ys) x y h r = (h.0, zip_push R xs ys x y h.1 r)

pub support_more : (s : Members) (contents : List (List Entry)) (cells : List ℕ) (i : ℕ) (support part new : List ℕ)
    → i < length cells → IsSupport s contents (take i cells) support →
    IsLeanAt s contents (get_or cells i 0) part → IsSame (set_of new) (union (set_of support) (set_of part))
    → IsSupport s contents (take (i + 1) cells) new
support_more s contents cells i support part new l h lean is = rw (take_more cells i 0 l) (record {
  parts = h.parts ++ part ∷ [];
  lean = zip_push (IsLeanAt s contents) (take i cells) h.parts (get_or cells i 0) part h.lean lean;
  union = λ p.
      let f : List ℕ → Bool = λ other. set_of other p in
      is p ∙ ap (λ b. b || set_of part p) (h.union p)
      ∙ ap (λ b. list_any f h.parts || b) (sym (or_none (set_of part p)))
      ∙ sym (list_any-append f h.parts (part ∷ []));
})
