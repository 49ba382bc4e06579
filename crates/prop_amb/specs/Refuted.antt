-- Sets of premises that are refuted: contradictory with every choice list that takes the sides in
-- them. And the first choice list that is consistent. A choice list takes one side of each choice,
-- and lists stand in the order of a dictionary.
use Rattle.std.specs.Prelude.{◌≡◌, ℕ, IsTrue, List, false}
use Rattle.prop_numbers.specs.Sets.{Members, IsPart, union}
use Rattle.prop_premises.specs.declared.choice.Choice.{Choice}
use Rattle.prop_premises.specs.ChoiceLists.{IsChoiceList, TakesSidesIn, hypotheticals_of, worldview}
use Rattle.prop_premises.specs.ChoiceLists.{is_hypothetical, IsBefore}
use Rattle.prop_cells.specs.Problems.{Problem, IsConsistent}
use Rattle.prop_cells.specs.Reach.{Reaches}
use Rattle.prop_nogoods.specs.Stores.{has_part}

-- The set has at most one side of each choice. It is contradictory with every choice list that
-- takes these sides.
pub record IsRefuted (problem : Problem) (choices : List Choice) (n : Members) : Type 0 where
  pub one_side : (list : List ℕ) × IsChoiceList choices list × TakesSidesIn n choices list
  pub always : (list : List ℕ) → IsChoiceList choices list → TakesSidesIn n choices list
      → ¬ (IsConsistent problem (union n (hypotheticals_of choices list)))

-- what is believed with any choice list before this one is contradictory
abbrev pub AllBeforeRefuted : Problem → Members → List Choice → List ℕ → Type 0
AllBeforeRefuted problem believed choices list = (earlier : List ℕ) → IsChoiceList choices earlier
    → IsBefore earlier list → ¬ (IsConsistent problem (worldview believed choices earlier))

-- what is believed with this choice list is consistent, and with each list before it contradictory
pub record IsFirstConsistent (problem : Problem) (believed : Members) (choices : List Choice)
    (list : List ℕ) : Type 0 where
  pub is_list : IsChoiceList choices list
  pub consistent : IsConsistent problem (worldview believed choices list)
  pub earlier : AllBeforeRefuted problem believed choices list

-- a nogood: a refuted set, all of whose premises reach one and the same cell
pub record IsNogood (problem : Problem) (choices : List Choice) (n : Members) : Type 0 where
  pub refuted : IsRefuted problem choices n
  pub cell : ℕ
  pub related : (p : ℕ) → IsTrue (n p) → Reaches problem p cell

-- each user's premise in the set belongs to a nogood whose user's premises all lie in the set
abbrev pub IsGrounded : Problem → List Choice → Members → Type 0
IsGrounded problem choices n = (p : ℕ) → IsTrue (n p) → is_hypothetical choices p ≡ false
    → (m : Members) × IsTrue (m p) × IsNogood problem choices m
    × ((q : ℕ) → IsTrue (m q) → is_hypothetical choices q ≡ false → IsTrue (n q))

-- whichever choice list is taken, some listed nogood is part of the set with the sides of the list
abbrev pub IsCovered : List Choice → List (List ℕ) → Members → Type 0
IsCovered choices listed m = (list : List ℕ) → IsChoiceList choices list
    → IsTrue (has_part listed (union m (hypotheticals_of choices list)))

-- Why every choice list is refuted: a refuted set of believed premises. It is grounded in nogoods
-- and covered by the listed ones.
pub record IsRuledOut (problem : Problem) (believed : Members) (choices : List Choice)
    (listed : List (List ℕ)) (n : Members) : Type 0 where
  pub believes : IsPart n believed
  pub refuted : IsRefuted problem choices n
  pub grounded : IsGrounded problem choices n
  pub covered : IsCovered choices listed n
