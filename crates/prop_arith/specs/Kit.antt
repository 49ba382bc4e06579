-- The rules of the kit and their forms.
use Rattle.std.specs.Prelude.{List, [], ◌∷◌, codes}
use Rattle.prop_procedures.specs.declared.shape.Shape.{Shape}
use Rattle.prop_procedures.specs.declared.shape.Shape.TheVariants.{Span, Truth, Any, From, To}
use Rattle.prop_procedures.specs.declared.shape.Need.{Need}
use Rattle.prop_procedures.specs.declared.shape.Need.TheVariants.{Nothing, Scale, Rows}
use Rattle.prop_procedures.specs.Forms.{Form, HasForm, form}
use Rattle.prop_arith.specs.declared.kit.Kit as kits
use Rattle.prop_arith.specs.declared.kit.Kit.TheVariants.{Add, Sub, Mul, Div, Square, Root, Less}
use Rattle.prop_arith.specs.declared.kit.Kit.TheVariants.{Below, Above, Copy, Alike, Apart, Switch}
use Rattle.prop_arith.specs.declared.kit.Kit.TheVariants.{Not, And, AndBack, Or, OrBack, Image}
use Rattle.prop_arith.specs.declared.kit.Kit.TheVariants.{Coimage}

-- the rules in order
abbrev pub in_order : List kits.Kit
in_order = Add ∷ Sub ∷ Mul ∷ Div ∷ Square ∷ Root ∷ Less ∷ Below ∷ Above ∷ Copy ∷ Alike ∷ Apart
    ∷ Switch ∷ Not ∷ And ∷ AndBack ∷ Or ∷ OrBack ∷ Image ∷ Coimage ∷ []

-- the one form of each rule
abbrev pub form_of : kits.Kit → Form
form_of Add = form (codes "adder") (Span ∷ Span ∷ []) Span Nothing
form_of Sub = form (codes "subtracter") (Span ∷ Span ∷ []) Span Nothing
form_of Mul = form (codes "multiplier") (Span ∷ Span ∷ []) Span Scale
form_of Div = form (codes "divider") (Span ∷ Span ∷ []) Span Scale
form_of Square = form (codes "squarer") (Span ∷ []) Span Nothing
form_of Root = form (codes "rooter") (Span ∷ Span ∷ []) Span Nothing
form_of Less = form (codes "lesser") (Span ∷ Span ∷ []) Truth Nothing
form_of Below = form (codes "below") (Truth ∷ Span ∷ []) Span Nothing
form_of Above = form (codes "above") (Truth ∷ Span ∷ []) Span Nothing
form_of Copy = form (codes "copier") (Any 0 ∷ []) (Any 0) Nothing
form_of Alike = form (codes "comparer") (Any 0 ∷ Any 0 ∷ []) Truth Nothing
form_of Apart = form (codes "parter") (Truth ∷ Any 0 ∷ Any 0 ∷ []) (Any 0) Nothing
form_of Switch = form (codes "passer") (Truth ∷ Any 0 ∷ []) (Any 0) Nothing
form_of Not = form (codes "inverter") (Truth ∷ []) Truth Nothing
form_of And = form (codes "conjoiner") (Truth ∷ Truth ∷ []) Truth Nothing
form_of AndBack = form (codes "conjoin_back") (Truth ∷ Truth ∷ []) Truth Nothing
form_of Or = form (codes "disjoiner") (Truth ∷ Truth ∷ []) Truth Nothing
form_of OrBack = form (codes "disjoin_back") (Truth ∷ Truth ∷ []) Truth Nothing
form_of Image = form (codes "imager") (From ∷ []) To Rows
form_of Coimage = form (codes "coimager") (To ∷ []) From Rows

-- the one form of a rule
abbrev pub FormOf : kits.Kit → List Shape → Shape → Need → Type 0
FormOf = HasForm form_of
