-- One item more of a list that is gone through.
use Rattle.std.proofs.Common.{◌≡◌, ◌∙◌, ℕ, ◌+◌, ◌<◌, List, [], ◌∷◌, ◌++◌, map, length, take, get_or, sym, ap}
use Rattle.std.proofs.lemmas.List.{take_more, map-append}

module _ {X : Type 0} (xs : List X) (i : ℕ) (x : X) (l : i < length xs) (at : x ≡ get_or xs i x) where
  -- what is made of it is put last
  pub made_more : {Y : Type 0} (f : X → Y) (old new : List Y) (y : Y) → old ≡ map f (take i xs) → new ≡ old ++ y ∷ []
      → y ≡ f x → new ≡ map f (take (i + 1) xs)
  made_more f old new y e p q =
      let here = q ∙ ap f at in
      p ∙ (λ j. e j ++ here j ∷ []) ∙ sym
      (ap (map f) (take_more xs i x l) ∙ map-append f (take i xs) (get_or xs i x ∷ []))

  -- what is made of what is made of it is put last
  pub made_of_made_more : {Y Z : Type 0} (g : Y → Z) (f : X → Y) (old new : List Z) (z : Z)
      → old ≡ map g (map f (take i xs)) → new ≡ old ++ z ∷ [] → z ≡ g (f x) → new ≡ map g (map f (take (i + 1) xs))
  made_of_made_more g f old new z e p q =
      let here = q ∙ ap (λ y. g (f y)) at in
      p ∙ (λ j. e j ++ here j ∷ []) ∙ sym
      (ap (λ ys. map g (map f ys)) (take_more xs i x l) ∙ ap (map g) (map-append f (take i xs) (get_or xs i x ∷ []))
      ∙ map-append g (map f (take i xs)) (f (get_or xs i x) ∷ []))
