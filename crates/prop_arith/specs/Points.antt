-- Which points belong together at the rules of the kit.
use Rattle.std.specs.Prelude.{◌≡◌, ◌≢◌, ◌↔◌, ◌+ℤ◌, ◌*ℤ◌, ◌<ℤ◌, IsTrue, List, [], ◌∷◌}
use Rattle.prop_intervals.specs.Relations.{IsProduct}
use Rattle.prop_lattice.specs.Points.{Point, Number, Element}
use Rattle.prop_procedures.specs.declared.shape.Param.{Param}
use Rattle.prop_procedures.specs.declared.shape.Param.TheVariants.{Scale, Rows}
use Rattle.prop_sets.specs.Relation.{HasPair}
use Rattle.prop_sets.specs.Truth.{is_not, is_and, is_or}
use Rattle.prop_arith.specs.declared.kit.Kit as kits
use Rattle.prop_arith.specs.declared.kit.Kit.TheVariants.{Add, Sub, Mul, Div, Square, Root, Less}
use Rattle.prop_arith.specs.declared.kit.Kit.TheVariants.{Below, Above, Copy, Alike, Apart, Switch}
use Rattle.prop_arith.specs.declared.kit.Kit.TheVariants.{Not, And, AndBack, Or, OrBack, Image}
use Rattle.prop_arith.specs.declared.kit.Kit.TheVariants.{Coimage}

-- the point of the output that belongs to points of the inputs: the root that is answered is the
-- second input's number; the truth t, 0 for `yes`, says whether x is less than y, or whether they
-- are alike; y is another point than x where t is `no`, and the same where it is `yes`
abbrev pub Related : kits.Kit → Param → List Point → Point → Type 0
Related Add param (Number x ∷ Number y ∷ []) (Number z) = z ≡ x +ℤ y
Related Sub param (Number z ∷ Number x ∷ []) (Number y) = z ≡ x +ℤ y
Related Mul (Scale k) (Number x ∷ Number y ∷ []) (Number z) = IsProduct k x y z
Related Div (Scale k) (Number z ∷ Number y ∷ []) (Number x) = IsProduct k x y z
Related Square param (Number x ∷ []) (Number y) = y ≡ x *ℤ x
Related Root param (Number y ∷ Number x ∷ []) (Number v) = (v ≡ x) × (y ≡ x *ℤ x)
Related Less param (Number x ∷ Number y ∷ []) (Element t) = (t ≡ 0) ↔ (x <ℤ y)
Related Below param (Element t ∷ Number y ∷ []) (Number x) = (t ≡ 0) ↔ (x <ℤ y)
Related Above param (Element t ∷ Number x ∷ []) (Number y) = (t ≡ 0) ↔ (x <ℤ y)
Related Copy param (x ∷ []) y = y ≡ x
Related Alike param (x ∷ y ∷ []) (Element t) = (t ≡ 0) ↔ (x ≡ y)
Related Apart param (Element t ∷ x ∷ y ∷ []) z = (z ≡ y) × (t ≡ 1 → z ≢ x)
Related Switch param (Element t ∷ x ∷ []) y = t ≡ 0 → y ≡ x
Related Not param (Element x ∷ []) (Element y) = IsTrue (is_not x y)
Related And param (Element x ∷ Element y ∷ []) (Element z) = IsTrue (is_and x y z)
Related AndBack param (Element z ∷ Element y ∷ []) (Element x) = IsTrue (is_and x y z)
Related Or param (Element x ∷ Element y ∷ []) (Element z) = IsTrue (is_or x y z)
Related OrBack param (Element z ∷ Element y ∷ []) (Element x) = IsTrue (is_or x y z)
Related Image (Rows m) (Element x ∷ []) (Element y) = HasPair m x y
Related Coimage (Rows m) (Element y ∷ []) (Element x) = HasPair m x y
Related rule param points point = ⊥
