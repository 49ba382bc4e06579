-- Selections of items.
use Rattle.std.specs.Prelude.{List, [], ◌∷◌, ◌++◌, map}

-- every way to take some of the items, from none of them to all
abbrev pub selections : {X : Type 0} → List X → List (List X)
selections [] = [] ∷ []
selections (x ∷ xs) = selections xs ++ map (λ rest. x ∷ rest) (selections xs)
