-- Lists with one more element, and what holds of all in a list.
use Rattle.std.proofs.Common.{◌≡◌, ℕ, suc, zero, List, [], ◌∷◌, ◌++◌, get_or, refl, All, Contains}
use Rattle.std.proofs.lemmas.List.Elements.{Contains-get_or}

-- the value past the end, at the end
pub get_or-push_default : {X : Type 0} (xs : List X) (d : X) (i : ℕ) → get_or (xs ++ d ∷ []) i d ≡ get_or xs i d
get_or-push_default [] d zero = refl
get_or-push_default [] d (suc i) = refl
get_or-push_default (x ∷ xs) d zero = refl
get_or-push_default (x ∷ xs) d (suc i) = get_or-push_default xs d i

pub All-from_contains : {X : Type 0} (P : X → Type 0) (xs : List X) → ((x : X) → Contains xs x → P x) → All P xs
All-from_contains P xs h = λ k d l. h (get_or xs k d) (Contains-get_or xs k d l)
