-- What may stand in a nogood in place of a literal: holes and a weaker end for an end, two ends for
-- a number, and for a choice what was so of it before a side was barred.
use Rattle.std.specs.Prelude.{◌≡◌, ℕ, zero, suc, ◌+◌, ◌<◌, ℤ, pos, ◌+ℤ◌, List, [], ◌∷◌, ◌++◌}
use Rattle.std.specs.Prelude.{Option, Some, IfSome, length, slice_get, ◌⊎◌, ◌^◌}
use Rattle.prop_lattice.specs.Points.{Point, IsPointOf}
use Rattle.prop_lattice.specs.declared.elements.Elements.{Elements}
use Rattle.prop_premises.specs.declared.choice.Choice.{Choice}
use Rattle.prop_procedures.specs.declared.shape.Kinded.{Kinded}
use Rattle.prop_cells.specs.Points.{Attached}
use Rattle.prop_facts.specs.Facts.{IsSo}
use Rattle.prop_facts.specs.declared.fact.Fact.{Fact}
use Rattle.prop_facts.specs.declared.fact.Fact.TheVariants.{Among, AtLeast, AtMost, Is, Other}
use Rattle.prop_facts.specs.declared.fact.Literal.{Literal}
use Rattle.prop_refuting.specs.Nogoods.{Nogood, Replaces}
use Rattle.prop_refuting.specs.Places.{kind_at_place}

-- literals that say that the value at the place is none of so many numbers in a row, from the first
-- on
abbrev pub holes_at : ℕ → ℤ → ℕ → List Literal
holes_at place first zero = []
holes_at place first (suc k) =
    holes_at place first k ++ record { place = place; fact = Other (first +ℤ pos k) } ∷ []

-- The fact is an end, of which a weaker one is told, `nearer`, which lies at `from`. The value lies
-- within the end if it lies within the weaker one and is none of the `count` numbers between the
-- two, from `first` on.
abbrev pub IsByHoles : Fact → ℤ → ℤ → ℕ → Fact → Type 0
IsByHoles (AtLeast n) from first count nearer =
    (n ≡ from +ℤ pos count) × (first ≡ from) × (nearer ≡ AtLeast from)
IsByHoles (AtMost n) from first count nearer =
    (from ≡ n +ℤ pos count) × (first ≡ n +ℤ pos 1) × (nearer ≡ AtMost from)
IsByHoles fact from first count nearer = ⊥

-- in the nogood a weaker end, and holes up to it, took the place of an end
pub record ByHoles (old : Nogood) (at : ℕ) (x : Literal) (from : ℤ) (new : Nogood) : Type 0 where
  pub first : ℤ
  pub count : ℕ
  pub nearer : Fact
  pub by : IsByHoles x.fact from first count nearer
  pub replaced : Replaces old at
      (record { place = x.place; fact = nearer } ∷ holes_at x.place first count) new

-- in the nogood the facts that a value is no less and no more than a number took the place of the
-- fact that it is this number
pub record ByEnds (old : Nogood) (at : ℕ) (x : Literal) (new : Nogood) : Type 0 where
  pub number : ℤ
  pub is : x.fact ≡ Is number
  pub replaced : Replaces old at
      (record { place = x.place; fact = AtLeast number }
      ∷ record { place = x.place; fact = AtMost number } ∷ []) new

-- the premise is that of a side of the choice with this number; sides count from 0 here
pub record IsSideAt (choices : List Choice) (premise choice side : ℕ) : Type 0 where
  pub of : Choice
  pub at : slice_get choices choice ≡ Some of
  pub within : side < of.sides
  pub same : premise ≡ of.first + side

-- the literal says of a choice that the side with this premise is taken
pub record IsTaken (n : Attached) (choices : List Choice) (premise : Option ℕ) (taken : Literal) :
    Type 0 where
  pub number : ℕ
  pub of : premise ≡ Some number
  pub choice : ℕ
  pub side : ℕ
  pub at : IsSideAt choices number choice side
  pub place : taken.place ≡ length n.kinds + choice
  pub elements : Elements
  pub fact : taken.fact ≡ Among elements
  pub bits : elements.bits ≡ 2 ^ side

-- The literal x is so wherever the rest is so at its place, and the side with this premise isn't
-- taken.
pub record SaysBarred (n : Attached) (choices : List Choice) (premise : Option ℕ) (x : Literal)
    (rest : Option Fact) : Type 0 where
  pub taken : Literal
  pub side : IsTaken n choices premise taken
  pub same : taken.place ≡ x.place
  pub kind : Kinded
  pub of_kind : kind_at_place n choices x.place ≡ Some kind
  pub says : (p : Point) → IsPointOf kind.kind kind.size p → IfSome rest (λ r. IsSo r p)
      → IsSo x.fact p ⊎ IsSo taken.fact p
