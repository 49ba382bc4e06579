-- What a test of shapes has told.
use Rattle.std.proofs.Common.{rules, ◌≡◌, Bool, ◌&&◌, List, [], ◌∷◌, true, false, refl}
use lib.Pointwise.{pointwise}
use Rattle.prop_procedures.specs.declared.shape.Shape.{Shape}
use Rattle.prop_procedures.specs.contracts.shape.ShapePartialEq.TheImpl.{eq-value as equal}

pub same_shape : (a b : Shape) → equal.it a b ≡ true → a ≡ b
same_shape a b e = search rules

both : (a b : Bool) → (a && b) ≡ true → (a ≡ true) × (b ≡ true)
both true b e = (refl, e)
both false b e = let f : false ≡ true = e in cc

same_items : {X : Type 0} (test : X → X → Bool) → ((a b : X) → test a b ≡ true → a ≡ b) → (xs ys : List X)
    → pointwise test xs ys ≡ true → xs ≡ ys
same_items test h [] [] e = refl
same_items test h [] (y ∷ ys) e = let f : false ≡ true = e in cc
same_items test h (x ∷ xs) [] e = let f : false ≡ true = e in cc
same_items test h (x ∷ xs) (y ∷ ys) e =
    let b = both (test x y) (pointwise test xs ys) e in
    λ i. h x y b.0 i ∷ same_items test h xs ys b.1 i

pub same_shapes : (xs ys : List Shape) → pointwise equal.it xs ys ≡ true → xs ≡ ys
same_shapes = same_items equal.it same_shape
