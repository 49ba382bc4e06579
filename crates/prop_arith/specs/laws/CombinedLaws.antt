-- The tables of the kit are those by functions of functions.
use Rattle.std.specs.Prelude.{◌≡◌, List, [], ◌∷◌}
use Rattle.std.proofs.Common.{rules, refl}
use Rattle.prop_lattice.specs.Points.{Point, Number, Element}
use Rattle.prop_lattice.specs.declared.info.Info.{Info}
use Rattle.prop_lattice.specs.declared.info.Info.TheVariants.{Span, Set}
use Rattle.prop_procedures.specs.declared.shape.Param.{Param}
use Rattle.prop_procedures.specs.declared.shape.Param.TheVariants.{Scale, Rows}
use Rattle.prop_arith.specs.laws.Combined.{combined_of, Combined}
use Rattle.prop_arith.specs.Points.{Related}
use Rattle.prop_arith.specs.Values.{value_of}
use Rattle.prop_arith.specs.declared.kit.Kit as kits
use Rattle.prop_arith.specs.declared.kit.Kit.TheVariants.{Add, Sub, Mul, Div, Square, Root, Less}
use Rattle.prop_arith.specs.declared.kit.Kit.TheVariants.{Below, Above, Copy, Alike, Apart, Switch}
use Rattle.prop_arith.specs.declared.kit.Kit.TheVariants.{Not, And, AndBack, Or, OrBack, Image}
use Rattle.prop_arith.specs.declared.kit.Kit.TheVariants.{Coimage}

pub value_is : (rule : kits.Kit) (param : Param) (args : List Info)
    → combined_of rule param args ≡ value_of rule param args
value_is Add param (Span x ∷ Span y ∷ []) = refl
value_is Add param args = search rules
value_is Sub param (Span x ∷ Span y ∷ []) = refl
value_is Sub param args = search rules
value_is Mul (Scale k) (Span x ∷ Span y ∷ []) = refl
value_is Mul (Scale k) args = search rules
value_is Mul param args = search rules
value_is Div (Scale k) (Span x ∷ Span y ∷ []) = refl
value_is Div (Scale k) args = search rules
value_is Div param args = search rules
value_is Square param (Span x ∷ []) = refl
value_is Square param args = search rules
value_is Root param (Span y ∷ Span x ∷ []) = refl
value_is Root param args = search rules
value_is Less param (Span x ∷ Span y ∷ []) = refl
value_is Less param args = search rules
value_is Below param (Set t ∷ Span x ∷ []) = refl
value_is Below param args = search rules
value_is Above param (Set t ∷ Span x ∷ []) = refl
value_is Above param args = search rules
value_is Copy param (x ∷ []) = refl
value_is Copy param args = search rules
value_is Alike param (x ∷ y ∷ []) = refl
value_is Alike param args = search rules
value_is Apart param (Set t ∷ x ∷ y ∷ []) = refl
value_is Apart param args = search rules
value_is Switch param (Set t ∷ x ∷ []) = refl
value_is Switch param args = search rules
value_is Not param (x ∷ []) = refl
value_is Not param args = search rules
value_is And param (x ∷ y ∷ []) = refl
value_is And param args = search rules
value_is AndBack param (x ∷ y ∷ []) = refl
value_is AndBack param args = search rules
value_is Or param (x ∷ y ∷ []) = refl
value_is Or param args = search rules
value_is OrBack param (x ∷ y ∷ []) = refl
value_is OrBack param args = search rules
value_is Image (Rows m) (Set x ∷ []) = refl
value_is Image (Rows m) args = search rules
value_is Image param args = search rules
value_is Coimage (Rows m) (Set x ∷ []) = refl
value_is Coimage (Rows m) args = search rules
value_is Coimage param args = search rules

pub related_is : (rule : kits.Kit) (param : Param) (points : List Point) (point : Point)
    → Combined rule param points point ≡ Related rule param points point
related_is Add param (Number x ∷ Number y ∷ []) (Number z) = refl
related_is Add param points point = search rules
related_is Sub param (Number x ∷ Number y ∷ []) (Number z) = refl
related_is Sub param points point = search rules
related_is Mul (Scale k) (Number x ∷ Number y ∷ []) (Number z) = refl
related_is Mul param points point = search rules
related_is Div (Scale k) (Number x ∷ Number y ∷ []) (Number z) = refl
related_is Div param points point = search rules
related_is Square param (Number x ∷ []) (Number y) = refl
related_is Square param points point = search rules
related_is Root param (Number x ∷ Number y ∷ []) (Number z) = refl
related_is Root param points point = search rules
related_is Less param (Number x ∷ Number y ∷ []) (Element t) = refl
related_is Less param points point = search rules
related_is Below param (Element t ∷ Number x ∷ []) (Number y) = refl
related_is Below param points point = search rules
related_is Above param (Element t ∷ Number x ∷ []) (Number y) = refl
related_is Above param points point = search rules
related_is Copy param (x ∷ []) y = refl
related_is Copy param points point = search rules
related_is Alike param (x ∷ y ∷ []) (Element t) = refl
related_is Alike param points point = search rules
related_is Apart param (Element t ∷ x ∷ y ∷ []) z = refl
related_is Apart param points point = search rules
related_is Switch param (Element t ∷ x ∷ []) y = refl
related_is Switch param points point = search rules
related_is Not param (Element x ∷ []) (Element y) = refl
related_is Not param points point = search rules
related_is And param (Element x ∷ Element y ∷ []) (Element z) = refl
related_is And param points point = search rules
related_is AndBack param (Element x ∷ Element y ∷ []) (Element z) = refl
related_is AndBack param points point = search rules
related_is Or param (Element x ∷ Element y ∷ []) (Element z) = refl
related_is Or param points point = search rules
related_is OrBack param (Element x ∷ Element y ∷ []) (Element z) = refl
related_is OrBack param points point = search rules
related_is Image (Rows m) (Element x ∷ []) (Element y) = refl
related_is Image param points point = search rules
related_is Coimage (Rows m) (Element x ∷ []) (Element y) = refl
related_is Coimage param points point = search rules
