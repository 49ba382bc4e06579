-- What has to be so of a network for nogoods of an earlier one to hold of it.
use Rattle.std.specs.Prelude.{◌≡◌, ℕ, ◌+◌, ◌<◌, ◌⊎◌, false, IsTrue, List, Some, All}
use Rattle.std.specs.Prelude.{Contains, length, slice_get}
use Rattle.prop_numbers.specs.Sets.{Members, union}
use Rattle.prop_premises.specs.ChoiceLists.{is_hypothetical}
use Rattle.prop_premises.specs.declared.choice.Choice.{Choice}
use Rattle.prop_cells.specs.Points.{Attached}
use Rattle.prop_cells.specs.Problems.{is_member}
use Rattle.prop_cells.specs.declared.instance.Statement.{Statement}
use Rattle.prop_facts.specs.declared.fact.Literal.{Literal}
use Rattle.prop_lessons.specs.Lessons.{PastOf}

-- each element of the first list stands at the same place in the second
abbrev pub Begin : {X : Type 0} → List X → List X → Type 0
Begin {X} xs ys = (i : ℕ) (x : X) → slice_get xs i ≡ Some x → slice_get ys i ≡ Some x

-- the same of the first k elements of the first list
abbrev pub BeginUpTo : {X : Type 0} → ℕ → List X → List X → Type 0
BeginUpTo {X} k xs ys = (i : ℕ) (x : X) → i < k → slice_get xs i ≡ Some x
    → slice_get ys i ≡ Some x

-- the statement is among these, or its premise is in the set
abbrev pub IsThereOrGone : List Statement → Members → Statement → Type 0
IsThereOrGone statements gone x =
    Contains statements x ⊎ ((p : ℕ) × (x.premise ≡ Some p) × IsTrue (gone p))

-- no side of the choices is in the set
abbrev pub AreSidesOut : List Choice → Members → Type 0
AreSidesOut choices gone = (p : ℕ) → IsTrue (is_hypothetical choices p) → gone p ≡ false

-- What was in the past is there. The cells, the instances and the choices have the numbers that
-- they had. Each statement is there that is under no premise, under a premise of the set, or under
-- a side of a choice.
pub record IsThere (past : PastOf) (n : Attached) (choices : List Choice) (s : Members)
    : Type 0 where
  pub kinds : Begin past.attached.kinds n.kinds
  pub instances : Begin past.attached.instances n.instances
  pub sides : Begin past.choices choices
  pub statements : All (λ x. IsTrue (is_member (union s (is_hypothetical past.choices)) x.premise)
      → Contains n.statements x) past.attached.statements

-- the place is what it was in the past: a cell, or a choice if there are as many cells as there
-- were
abbrev pub IsSamePlace : PastOf → ℕ → ℕ → Type 0
IsSamePlace past cells place = (place < length past.attached.kinds)
    ⊎ ((cells ≡ length past.attached.kinds) × (place < length past.attached.kinds
    + length past.choices))

-- each literal is about a place that is what it was
abbrev pub AreMeant : PastOf → ℕ → List Literal → Type 0
AreMeant past cells = All (λ x. IsSamePlace past cells x.place)
