-- What a relation makes of some elements.
use Rattle.std.specs.Prelude.{◌↔◌, ℕ, Bool, ◌==◌, ◌&&◌, slice_index}
use Rattle.std.specs.Int.{bit_at}
use Rattle.prop_lattice.specs.Ends.{elements_from}
use Rattle.prop_lattice.specs.Order.{HasElement}
use Rattle.prop_lattice.specs.Points.{Element, Holds}
use Rattle.prop_lattice.specs.declared.elements.Elements as sets
use Rattle.prop_lattice.specs.declared.info.Info.{Info}
use Rattle.prop_sets.specs.Chosen.{bits_where, any_below}
use Rattle.prop_sets.specs.Relation.{Relation, HasPair}

-- element j of the second domain is paired with an element of x
abbrev pub IsInImage : Relation → sets.Elements → ℕ → Type 0
IsInImage m x j = (i : ℕ) × HasElement x i × HasPair m i j

-- element i of the first domain is paired with an element of y
abbrev pub IsInCoimage : Relation → sets.Elements → ℕ → Type 0
IsInCoimage m y i = (j : ℕ) × HasElement y j × HasPair m i j

-- the numbers below n that are paired with an element of x below m, a contradiction where there are
-- none
abbrev pub partners_of : ℕ → ℕ → (ℕ → ℕ → Bool) → sets.Elements → Info
partners_of n m paired x =
    elements_from (bits_where n (λ j. any_below m (λ i. (bit_at x.bits i == 1) && paired i j)))

-- all elements of the second domain that are paired with an element of x
abbrev pub image_of : Relation → sets.Elements → Info
image_of m x = partners_of m.to.size m.from.size (λ i j. bit_at (slice_index m.rows i) j == 1) x

-- all elements of the first domain that are paired with an element of y
abbrev pub coimage_of : Relation → sets.Elements → Info
coimage_of m y = partners_of m.from.size m.to.size (λ j i. bit_at (slice_index m.rows i) j == 1) y

-- the information holds just the elements of which P is true
abbrev pub HoldsJust : (ℕ → Type 0) → Info → Type 0
HoldsJust P r = (j : ℕ) → Holds r (Element j) ↔ P j
