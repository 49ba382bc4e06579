-- Lists from which some elements were dropped.
use Rattle.std.specs.Prelude.{◌≡◌, List, [], ◌∷◌, ◌++◌, ◌⊎◌}

-- the second list has the elements of the first of which the fact does not hold, in their order
abbrev pub IsLeftWithout : {X : Type 0} → (X → Type 0) → List X → List X → Type 0
IsLeftWithout Dropped [] ys = ys ≡ []
IsLeftWithout {X} Dropped (x ∷ xs) ys =
    (Dropped x × IsLeftWithout Dropped xs ys)
    ⊎ (¬ (Dropped x) × ((zs : List X) × (ys ≡ x ∷ zs) × IsLeftWithout Dropped xs zs))

-- the element stands somewhere among those of which the fact does not hold; or nothing changed
abbrev pub IsGrownBy : {X : Type 0} → (X → Type 0) → List X → List X → X → Type 0
IsGrownBy {X} Dropped old new x =
    (new ≡ old) ⊎ ((front : List X) × (rear : List X) × IsLeftWithout Dropped old (front ++ rear)
    × (new ≡ front ++ x ∷ rear))
