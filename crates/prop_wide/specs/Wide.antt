-- The rules and their forms.
use Rattle.std.specs.Prelude.{◌≡◌, Bool, true, false, List, [], ◌∷◌}
use Rattle.std.specs.List.{list_all}
use Rattle.prop_procedures.specs.declared.shape.Shape.{Shape}
use Rattle.prop_procedures.specs.declared.shape.Shape.TheVariants.{Span, Truth, Any}
use Rattle.prop_procedures.specs.declared.shape.Need.{Need}
use Rattle.prop_procedures.specs.declared.shape.Need.TheVariants.{Nothing, Scale}
use Rattle.prop_wide.specs.declared.wide.Wide as wides
use Rattle.prop_wide.specs.declared.wide.Wide.TheVariants.{Max, MaxBack, Min, MinBack, Abs}
use Rattle.prop_wide.specs.declared.wide.Wide.TheVariants.{AbsBack, Choose, Decide, Count}
use Rattle.prop_wide.specs.declared.wide.Wide.TheVariants.{CountBack, Square, Root, Quotient}
use Rattle.prop_wide.specs.declared.wide.Wide.TheVariants.{Remainder, Divisor}

-- the shape is that of truths
abbrev pub is_truth : Shape → Bool
is_truth Truth = true
is_truth s = false

-- each shape is that of truths
abbrev pub AreTruths : List Shape → Type 0
AreTruths shapes = list_all is_truth shapes ≡ true

-- the first shape is that of numbers, and the others are those of truths
abbrev pub AreNumberAndTruths : List Shape → Type 0
AreNumberAndTruths [] = ⊥
AreNumberAndTruths (s ∷ shapes) = (s ≡ Span) × AreTruths shapes

-- the rule may have inputs of these shapes
abbrev pub HasInputs : wides.Wide → List Shape → Type 0
HasInputs Max ins = ins ≡ Span ∷ Span ∷ []
HasInputs MaxBack ins = ins ≡ Span ∷ Span ∷ []
HasInputs Min ins = ins ≡ Span ∷ Span ∷ []
HasInputs MinBack ins = ins ≡ Span ∷ Span ∷ []
HasInputs Abs ins = ins ≡ Span ∷ []
HasInputs AbsBack ins = ins ≡ Span ∷ Span ∷ []
HasInputs Choose ins = ins ≡ Truth ∷ Any 0 ∷ Any 0 ∷ []
HasInputs Decide ins = ins ≡ Any 0 ∷ Any 0 ∷ Any 0 ∷ []
HasInputs Count ins = AreTruths ins
HasInputs CountBack ins = AreNumberAndTruths ins
HasInputs Square ins = ins ≡ Span ∷ []
HasInputs Root ins = ins ≡ Span ∷ Span ∷ []
HasInputs Quotient ins = ins ≡ Span ∷ Span ∷ []
HasInputs Remainder ins = ins ≡ Span ∷ []
HasInputs Divisor ins = ins ≡ Span ∷ Span ∷ []

-- the shape of its output
abbrev pub out_of : wides.Wide → Shape
out_of Choose = Any 0
out_of Decide = Truth
out_of CountBack = Truth
out_of rule = Span

-- the parameter that it needs
abbrev pub need_of : wides.Wide → Need
need_of Square = Scale
need_of Root = Scale
need_of rule = Nothing

-- the forms of a rule
abbrev pub FormOf : wides.Wide → List Shape → Shape → Need → Type 0
FormOf rule ins out need = HasInputs rule ins × (out ≡ out_of rule) × (need ≡ need_of rule)
