-- Which points belong together at the rules.
use Rattle.std.specs.Prelude.{◌≡◌, ℕ, ℤ, pos, List, [], ◌∷◌}
use Rattle.std.specs.Int.{int_max, int_min}
use Rattle.prop_lattice.specs.Points.{Point, Number, Element}
use Rattle.prop_procedures.specs.declared.shape.Param.{Param}
use Rattle.prop_procedures.specs.declared.shape.Param.TheVariants.{Scale}
use Rattle.prop_arith.specs.laws.Combined.{RelatesOne, RelatesTwo}
use Rattle.prop_wide.specs.Counts.{yes_among}
use Rattle.prop_wide.specs.Distances.{IsDistance}
use Rattle.prop_wide.specs.Quotients.{IsQuotient, IsRemainder}
use Rattle.prop_wide.specs.Squares.{IsSquareBy}
use Rattle.prop_wide.specs.declared.wide.Wide as wides
use Rattle.prop_wide.specs.declared.wide.Wide.TheVariants.{Max, MaxBack, Min, MinBack, Abs}
use Rattle.prop_wide.specs.declared.wide.Wide.TheVariants.{AbsBack, Choose, Decide, Count}
use Rattle.prop_wide.specs.declared.wide.Wide.TheVariants.{CountBack, Square, Root, Quotient}
use Rattle.prop_wide.specs.declared.wide.Wide.TheVariants.{Remainder, Divisor}

-- o is a where the truth, 0 for `yes`, is `yes`, and b where it is `no`
pub record IsChosen {X : Type 0} (t : ℕ) (a b o : X) : Type 0 where
  pub first : t ≡ 0 → o ≡ a
  pub second : t ≡ 1 → o ≡ b

-- a truth and two points, and the one that it chooses
abbrev pub RelatesChoice : List Point → Point → Type 0
RelatesChoice (Element t ∷ a ∷ b ∷ []) o = IsChosen t a b o
RelatesChoice points point = ⊥

-- two points and one of them, and a truth that chooses it
abbrev pub RelatesDecision : List Point → Point → Type 0
RelatesDecision (a ∷ b ∷ o ∷ []) (Element t) = IsChosen t a b o
RelatesDecision points point = ⊥

-- truths, and how many of them are `yes`
abbrev pub RelatesCount : List Point → Point → Type 0
RelatesCount points (Number n) = n ≡ pos (yes_among points)
RelatesCount points point = ⊥

-- how many of some truths are `yes` and all of them but one, and that one
abbrev pub RelatesLast : List Point → Point → Type 0
RelatesLast (Number n ∷ points) t = n ≡ pos (yes_among (t ∷ points))
RelatesLast points point = ⊥

-- the same at a scale
abbrev pub RelatesAtScale : (ℤ → List Point → Point → Type 0) → Param → List Point → Point → Type 0
RelatesAtScale related (Scale k) points point = related k points point
RelatesAtScale related param points point = ⊥

-- the point of the output that belongs to points of the inputs: at `AbsBack`, `Root` and `Divisor`,
-- which take what is known of the output, the second input's number
abbrev pub Related : wides.Wide → Param → List Point → Point → Type 0
Related Max param points point = RelatesTwo (λ x y z. z ≡ int_max x y) points point
Related MaxBack param points point = RelatesTwo (λ z y x. z ≡ int_max x y) points point
Related Min param points point = RelatesTwo (λ x y z. z ≡ int_min x y) points point
Related MinBack param points point = RelatesTwo (λ z y x. z ≡ int_min x y) points point
Related Abs param points point = RelatesOne IsDistance points point
Related AbsBack param points point = RelatesTwo (λ y x v. (v ≡ x) × IsDistance x y) points point
Related Choose param points point = RelatesChoice points point
Related Decide param points point = RelatesDecision points point
Related Count param points point = RelatesCount points point
Related CountBack param points point = RelatesLast points point
Related Square param points point =
    RelatesAtScale (λ k. RelatesOne (IsSquareBy k)) param points point
Related Root param points point =
    RelatesAtScale (λ k. RelatesTwo (λ y x v. (v ≡ x) × IsSquareBy k x y)) param points point
Related Quotient param points point = RelatesTwo IsQuotient points point
Related Remainder param points point = RelatesOne IsRemainder points point
Related Divisor param points point = RelatesTwo (λ r y v. (v ≡ y) × IsRemainder y r) points point
