-- Choices, lists that take one side of each, and what is believed with such a list.
use Rattle.std.specs.Prelude.{◌≡◌, ℕ, ◌+◌, ◌-◌, ◌*◌, ◌<◌, ◌≤◌, false, ◌==◌, ◌||◌, ◌&&◌}
use Rattle.std.specs.Prelude.{nat_le, nat_lt, IsTrue, List, [], ◌∷◌, ◌⊎◌, ⊤}
use Rattle.std.specs.List.{AllZip, AllByRecursion, list_any}
use Rattle.prop_numbers.specs.Sets.{Members, union}
use Rattle.prop_premises.specs.declared.choice.Choice.{Choice}

-- the hypothetical premise of a side; sides count from 1
abbrev pub hypothetical : Choice → ℕ → ℕ
hypothetical choice side = choice.first + (side - 1)

abbrev pub IsSide : Choice → ℕ → Type 0
IsSide choice side = (1 ≤ side) × (side ≤ choice.sides)

-- the premise is a side of some choice, so no user's
abbrev pub is_hypothetical : List Choice → Members
is_hypothetical choices p = list_any (λ c. nat_le c.first p && nat_lt p (c.first + c.sides)) choices

-- one side of each choice, in order of declaration
abbrev pub IsChoiceList : List Choice → List ℕ → Type 0
IsChoiceList choices list = AllZip IsSide choices list

-- the hypothetical premises that the list takes
abbrev pub hypotheticals_of : List Choice → List ℕ → Members
hypotheticals_of (choice ∷ choices) (side ∷ list) p =
    (hypothetical choice side == p) || hypotheticals_of choices list p
hypotheticals_of choices list p = false

-- the list takes each side that is in the set
abbrev pub TakesSidesIn : Members → List Choice → List ℕ → Type 0
TakesSidesIn n = AllZip
    (λ choice side. (i : ℕ) → IsSide choice i → IsTrue (n (hypothetical choice i)) → i ≡ side)

-- what is believed with a choice list
abbrev pub worldview : Members → List Choice → List ℕ → Members
worldview believed choices list = union believed (hypotheticals_of choices list)

-- the first stands before the second in dictionary order, smaller sides first
abbrev pub IsBefore : List ℕ → List ℕ → Type 0
IsBefore (a ∷ l) (b ∷ m) = (a < b) ⊎ ((a ≡ b) × IsBefore l m)
IsBefore l m = ⊥

-- how many choice lists there are
abbrev pub lists_count : List Choice → ℕ
lists_count [] = 1
lists_count (choice ∷ choices) = choice.sides * lists_count choices

-- how many choice lists stand before this one
abbrev pub place_of : List Choice → List ℕ → ℕ
place_of (choice ∷ choices) (side ∷ list) = (side - 1) * lists_count choices + place_of choices list
place_of choices list = 0

-- the sides of later choices have larger numbers
abbrev pub AreInOrder : List Choice → Type 0
AreInOrder [] = ⊤
AreInOrder (choice ∷ choices) =
    AllByRecursion (λ later. choice.first + choice.sides ≤ later.first) choices × AreInOrder choices

-- each choice has two to eight sides
abbrev pub AreOfSides : List Choice → Type 0
AreOfSides choices = AllByRecursion (λ choice. (2 ≤ choice.sides) × (choice.sides ≤ 8)) choices
