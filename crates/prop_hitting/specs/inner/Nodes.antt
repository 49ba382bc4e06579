-- Which sets are in a node.
use Rattle.std.specs.Prelude.{◌≡◌, ◌⊎◌, ℕ, List, [], ◌∷◌, IsTrue, false}
use Rattle.prop_numbers.specs.Sets.{Members, set_of, IsPart}
use Rattle.prop_hitting.specs.declared.node.Node.{Node}

-- the set has all premises of the first, and none of the second
pub record IsIn (n : Node) (h : Members) : Type 0 where
  pub has : IsPart (set_of n.hit) h
  pub lacks : (p : ℕ) → IsTrue (set_of n.out p) → h p ≡ false

-- the set is in one of the nodes
abbrev pub IsOneOf : Members → List Node → Type 0
IsOneOf h [] = ⊥
IsOneOf h (n ∷ ns) = IsIn n h ⊎ IsOneOf h ns
