-- Points that all differ.
use Rattle.std.specs.Prelude.{◌≢◌, List, [], ◌∷◌, ⊤}

-- the item is none of these
abbrev pub IsNoneOf : {X : Type 0} → X → List X → Type 0
IsNoneOf x [] = ⊤
IsNoneOf x (y ∷ ys) = (x ≢ y) × IsNoneOf x ys

-- no two of the items are the same
abbrev pub AreDifferent : {X : Type 0} → List X → Type 0
AreDifferent [] = ⊤
AreDifferent (x ∷ xs) = IsNoneOf x xs × AreDifferent xs
