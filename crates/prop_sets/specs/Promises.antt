-- The laws of this crate's functions.
use Rattle.std.specs.Prelude.{◌≡◌, ◌↔◌, ℕ, ◌<◌}
use Rattle.prop_lattice.specs.Order.{Below}
use Rattle.prop_lattice.specs.Points.{Element, Holds}
use Rattle.prop_lattice.specs.declared.elements.Elements as sets
use Rattle.prop_lattice.specs.declared.info.Info.{Info}
use Rattle.prop_lattice.specs.declared.info.Info.TheVariants.{Set}
use Rattle.prop_sets.specs.Images.{IsInImage, IsInCoimage, image_of, coimage_of}
use Rattle.prop_sets.specs.Narrowest.{IsNarrowest}
use Rattle.prop_sets.specs.Relation.{Relation, HasPair, IsWhole}

-- ---- relations

-- two relations between the same domains with the same pairs are one
abbrev pub SamePairsAreOne : Type 0
SamePairsAreOne =
    (m n : Relation) → IsWhole m → IsWhole n → m.from ≡ n.from → m.to ≡ n.to
    → ((i j : ℕ) → HasPair m i j ↔ HasPair n i j) → m ≡ n

-- more in the argument is more in the answer
abbrev pub IsMonotone : (sets.Elements → Info) → Type 0
IsMonotone f = (a c : sets.Elements) → Below (Set a) (Set c) → Below (f a) (f c)

-- no information that holds all partners says more
abbrev pub ImageIsNarrowest : Type 0
ImageIsNarrowest = (m : Relation) (x : sets.Elements) → IsNarrowest (IsInImage m x) (image_of m x)

abbrev pub CoimageIsNarrowest : Type 0
CoimageIsNarrowest = (m : Relation) (y : sets.Elements)
    → IsNarrowest (IsInCoimage m y) (coimage_of m y)

-- ---- truth

-- more in an argument is more in the answer
abbrev pub IsMonotoneInOne : (Info → Info) → Type 0
IsMonotoneInOne f = (x x' : Info) → Below x x' → Below (f x) (f x')

abbrev pub IsMonotoneInTwo : (Info → Info → Info) → Type 0
IsMonotoneInTwo f =
    (x y x' y' : Info) → Below x x' → Below y y' → Below (f x y) (f x' y')

-- the answer holds each truth that belongs to a truth of the argument
abbrev pub IsSoundInOne : (ℕ → ℕ → Type 0) → (Info → Info) → Type 0
IsSoundInOne related f =
    (x : Info) (a y : ℕ) → a < 2 → y < 2 → Holds x (Element a) → related a y
    → Holds (f x) (Element y)

-- the answer holds each truth that belongs to truths of the arguments
abbrev pub IsSoundInTwo : (ℕ → ℕ → ℕ → Type 0) → (Info → Info → Info) → Type 0
IsSoundInTwo related f =
    (x y : Info) (a b z : ℕ) → a < 2 → b < 2 → z < 2 → Holds x (Element a) → Holds y (Element b)
    → related a b z → Holds (f x y) (Element z)
