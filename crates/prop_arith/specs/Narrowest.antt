-- The narrowest information that a rule can answer, and where it is answered.
use Rattle.std.specs.Prelude.{◌≡◌, ℕ, ℤ, neg_ℤ, ◌+ℤ◌, ◌-ℤ◌, ◌≤ℤ◌, List, [], ◌∷◌, true}
use Rattle.prop_intervals.specs.Quotients.{int_div_ceil}
use Rattle.prop_intervals.specs.inner.Parts.{int_div_floor}
use Rattle.prop_intervals.specs.Spans.{least_product, greatest_product}
use Rattle.prop_intervals.specs.inner.Parts.{least_square}
use Rattle.prop_intervals.specs.inner.Parts.{greatest_square}
use Rattle.prop_lattice.specs.Order.{Below}
use Rattle.prop_lattice.specs.Points.{Point, Holds}
use Rattle.prop_lattice.specs.Rank.{IsOf}
use Rattle.prop_lattice.specs.declared.info.Info.{Info}
use Rattle.prop_lattice.specs.declared.info.Info.TheVariants.{Nothing, Span, Set}
use Rattle.prop_lattice.specs.declared.info.Kind.{Kind}
use Rattle.prop_lattice.specs.declared.info.Kind.TheVariants as kinds
use Rattle.prop_lattice.specs.declared.elements.Elements as sets
use Rattle.prop_lattice.specs.declared.span.Span as spans
use Rattle.prop_lattice.specs.declared.span.TheConstants.{B}
use Rattle.prop_procedures.specs.declared.shape.Param.{Param}
use Rattle.prop_procedures.specs.declared.shape.Param.TheVariants.{Scale, Rows}
use Rattle.prop_procedures.specs.Rules.{is_scale, EachHolds}
use Rattle.prop_sets.specs.Relation.{Relation}
use Rattle.prop_arith.specs.Points.{Related}
use Rattle.prop_arith.specs.Values.{value_of}
use Rattle.prop_arith.specs.declared.kit.Kit.{Kit}
use Rattle.prop_arith.specs.declared.kit.Kit.TheVariants.{Add, Sub, Mul, Square, Root, Image}
use Rattle.prop_arith.specs.declared.kit.Kit.TheVariants.{Coimage}

-- the information holds each point that belongs to points of the arguments
abbrev pub HoldsRelated : (List Point → Point → Type 0) → List Info → Info → Type 0
HoldsRelated related args v =
    (points : List Point) (point : Point) → EachHolds args points → related points point
    → Holds v point

-- it does, and no information of its kind that does says more
pub record IsNarrowest (related : List Point → Point → Type 0) (kind : Kind) (size : ℕ)
    (args : List Info) (v : Info) : Type 0 where
  pub of_kind : IsOf kind size v
  pub holds : HoldsRelated related args v
  pub highest : (other : Info) → IsOf kind size other → HoldsRelated related args other
      → Below other v

-- ---- where a rule's answer is the narrowest

-- the answer to these arguments is the narrowest span
abbrev pub AnswersNarrowest : Kit → Param → List Info → Type 0
AnswersNarrowest rule param args =
    IsNarrowest (Related rule param) kinds.Span 0 args (value_of rule param args)

-- nothing needs to be cut off
abbrev pub AreInRange : ℤ → ℤ → Type 0
AreInRange lo hi = (neg_ℤ B ≤ℤ lo) × (hi ≤ℤ B)

abbrev pub AddIsNarrowest : Type 0
AddIsNarrowest =
    (param : Param) (x y : spans.Span) → AreInRange (x.lo +ℤ y.lo) (x.hi +ℤ y.hi)
    → AnswersNarrowest Add param (Span x ∷ Span y ∷ [])

abbrev pub SubIsNarrowest : Type 0
SubIsNarrowest =
    (param : Param) (z x : spans.Span) → AreInRange (z.lo -ℤ x.hi) (z.hi -ℤ x.lo)
    → AnswersNarrowest Sub param (Span z ∷ Span x ∷ [])

abbrev pub MulIsNarrowest : Type 0
MulIsNarrowest =
    (k : ℤ) (x y : spans.Span) → is_scale k ≡ true
    → AreInRange (int_div_floor (least_product x y) k) (int_div_ceil (greatest_product x y) k)
    → AnswersNarrowest Mul (Scale k) (Span x ∷ Span y ∷ [])

abbrev pub SquareIsNarrowest : Type 0
SquareIsNarrowest =
    (param : Param) (x : spans.Span) → AreInRange (least_square x) (greatest_square x)
    → AnswersNarrowest Square param (Span x ∷ [])

-- whether or not anything is known of the root
abbrev pub RootIsNarrowest : Type 0
RootIsNarrowest =
    (param : Param) (y x : spans.Span)
    → AnswersNarrowest Root param (Span y ∷ Span x ∷ [])
    × AnswersNarrowest Root param (Span y ∷ Nothing ∷ [])

-- ---- along a relation

-- of each relation and each set of its first domain's elements
abbrev pub ImageIsNarrowest : Type 0
ImageIsNarrowest =
    (m : Relation) (x : sets.Elements)
    → IsNarrowest (Related Image (Rows m)) (kinds.Set m.to.domain) m.to.size (Set x ∷ [])
    (value_of Image (Rows m) (Set x ∷ []))

-- and of its second domain's
abbrev pub CoimageIsNarrowest : Type 0
CoimageIsNarrowest =
    (m : Relation) (y : sets.Elements)
    → IsNarrowest (Related Coimage (Rows m)) (kinds.Set m.from.domain) m.from.size (Set y ∷ [])
    (value_of Coimage (Rows m) (Set y ∷ []))
