-- The procedures of which expressions are made: the number that each of their rules has in a
-- library, and its form.
use Rattle.std.specs.Prelude.{◌≡◌, ℕ, List, [], ◌∷◌, Bool, true, false, Some, slice_get}
use Rattle.prop_lattice.specs.Points.{Point}
use Rattle.prop_procedures.specs.Stored.{Stored}
use Rattle.prop_procedures.specs.declared.shape.Need.{Need}
use Rattle.prop_procedures.specs.declared.shape.Param.{Param}
use Rattle.prop_procedures.specs.declared.shape.Shape.{Shape}
use Rattle.prop_procedures.specs.declared.shape.Shape.TheVariants as shapes
use Rattle.prop_arith.specs.Kit.{form_of}
use Rattle.prop_arith.specs.declared.kit.Kit.{Kit}
use Rattle.prop_arith.specs.declared.kit.Kit.TheVariants as kits
use Rattle.prop_wide.specs.Wide as wide
use Rattle.prop_wide.specs.declared.wide.Wide.{Wide}
use Rattle.prop_wide.specs.declared.wide.Wide.TheVariants as wides
use Rattle.prop_cells.specs.Points.{AreSoundBy}
use Rattle.prop_points.specs.Networks.{SinglesSolve}
use Rattle.prop_meaning.specs.Acts.{RelatedBy, TellsBy}
use Rattle.prop_meaning.specs.declared.acts.Rule.{Rule}
use Rattle.prop_meaning.specs.declared.acts.Rule.TheVariants.{OfKit, OfWide}

-- ---- numbers

abbrev pub kit_number : Kit → ℕ
kit_number kits.Add = 0
kit_number kits.Sub = 1
kit_number kits.Mul = 2
kit_number kits.Div = 3
kit_number kits.Square = 4
kit_number kits.Root = 5
kit_number kits.Less = 6
kit_number kits.Below = 7
kit_number kits.Above = 8
kit_number kits.Copy = 9
kit_number kits.Alike = 10
kit_number kits.Apart = 11
kit_number kits.Switch = 12
kit_number kits.Not = 13
kit_number kits.And = 14
kit_number kits.AndBack = 15
kit_number kits.Or = 16
kit_number kits.OrBack = 17
kit_number kits.Image = 18
kit_number kits.Coimage = 19

-- The numbers of these rules follow those of the kit. A rule that counts has a procedure for each
-- number of truths; this is the one for a single truth.
abbrev pub wide_number : Wide → ℕ
wide_number wides.Max = 20
wide_number wides.MaxBack = 21
wide_number wides.Min = 22
wide_number wides.MinBack = 23
wide_number wides.Abs = 24
wide_number wides.AbsBack = 25
wide_number wides.Choose = 26
wide_number wides.Decide = 27
wide_number wides.Count = 28
wide_number wides.CountBack = 36
wide_number wides.Square = 44
wide_number wides.Root = 45
wide_number wides.Quotient = 46
wide_number wides.Remainder = 47
wide_number wides.Divisor = 48

abbrev pub rule_number : Rule → ℕ
rule_number (OfKit rule) = kit_number rule
rule_number (OfWide rule) = wide_number rule

-- ---- forms

abbrev pub pair : List Shape
pair = shapes.Span ∷ shapes.Span ∷ []

abbrev pub wide_ins : Wide → List Shape
wide_ins wides.Abs = shapes.Span ∷ []
wide_ins wides.Square = shapes.Span ∷ []
wide_ins wides.Remainder = shapes.Span ∷ []
wide_ins wides.CountBack = shapes.Span ∷ []
wide_ins wides.Choose = shapes.Truth ∷ shapes.Any 0 ∷ shapes.Any 0 ∷ []
wide_ins wides.Decide = shapes.Any 0 ∷ shapes.Any 0 ∷ shapes.Any 0 ∷ []
wide_ins wides.Count = shapes.Truth ∷ []
wide_ins rule = pair

abbrev pub ins_of : Rule → List Shape
ins_of (OfKit rule) = (form_of rule).ins
ins_of (OfWide rule) = wide_ins rule

abbrev pub out_of : Rule → Shape
out_of (OfKit rule) = (form_of rule).out
out_of (OfWide rule) = wide.out_of rule

abbrev pub need_of : Rule → Need
need_of (OfKit rule) = (form_of rule).need
need_of (OfWide rule) = wide.need_of rule

-- the procedure of the rule takes the parameter that instances in expressions have
abbrev pub is_taken : Rule → Bool
is_taken (OfKit kits.Image) = false
is_taken (OfKit kits.Coimage) = false
is_taken (OfWide wides.Square) = false
is_taken (OfWide wides.Root) = false
is_taken rule = true

-- the procedure has the rule's form
pub record HasForm (rule : Rule) (p : Stored) : Type 0 where
  pub ins : p.ins ≡ ins_of rule
  pub out : p.out ≡ out_of rule
  pub need : p.need ≡ need_of rule

-- ---- a library

-- the points that belong together at the procedure of this number; none do where no rule has it
abbrev pub related_by : ℕ → Param → List Point → Point → Type 0
related_by n param points point =
    (rule : Rule) × (rule_number rule ≡ n) × RelatedBy rule param points point

-- what is known of the points at the procedure of this number where a solution leaves each cell a
-- single one; nothing where no rule has the number
abbrev pub tells_by : ℕ → Param → List Point → Point → Type 0
tells_by n param points point =
    (rule : Rule) → rule_number rule ≡ n → TellsBy rule param points point

-- At its number each rule has a procedure of its form. The procedures lose no points that their
-- rules relate. Where a solution leaves each cell a single point, those at each instance are as
-- `tells_by` says.
pub record IsPalette (library : List Stored) : Type 0 where
  pub forms : (rule : Rule) → (p : Stored) × (slice_get library (rule_number rule) ≡ Some p)
      × HasForm rule p
  pub sound : AreSoundBy library related_by
  pub single : SinglesSolve library tells_by
