-- Acts, which are instances of rules between cells, and the points that belong together at them.
use Rattle.std.specs.Prelude.{ℕ, pos, List, [], ◌∷◌, map, ⊤}
use Rattle.prop_lattice.specs.Points.{Point}
use Rattle.prop_procedures.specs.declared.shape.Param.{Param}
use Rattle.prop_procedures.specs.declared.shape.Param.TheVariants.{Plain, Scale}
use Rattle.prop_arith.specs.Points.{Related as KitRelated}
use Rattle.prop_arith.specs.declared.kit.Kit.TheVariants.{Mul, Div, Apart}
use Rattle.prop_wide.specs.Points.{Related as WideRelated}
use Rattle.prop_meaning.specs.declared.acts.Rule.{Rule}
use Rattle.prop_meaning.specs.declared.acts.Rule.TheVariants.{OfKit, OfWide}
use Rattle.prop_meaning.specs.declared.acts.Inputs.{Inputs}
use Rattle.prop_meaning.specs.declared.acts.Inputs.TheVariants.{One, Two, Three}
use Rattle.prop_meaning.specs.declared.acts.Act.{Act}

-- the points that belong together at a rule: those of its inputs, and that of its output
abbrev pub RelatedBy : Rule → Param → List Point → Point → Type 0
RelatedBy (OfKit rule) = KitRelated rule
RelatedBy (OfWide rule) = WideRelated rule

-- What is known of points at a rule where a solution leaves each cell a single one. That is all,
-- but for the two rules that only tell inputs back from outputs: of these nothing is known.
abbrev pub TellsBy : Rule → Param → List Point → Point → Type 0
TellsBy (OfKit Div) param points point = ⊤
TellsBy (OfKit Apart) param points point = ⊤
TellsBy rule param points point = RelatedBy rule param points point

-- the parameter of a rule's instances; where it is a scale, that is 1
abbrev pub param_of : Rule → Param
param_of (OfKit Mul) = Scale (pos 1)
param_of (OfKit Div) = Scale (pos 1)
param_of rule = Plain

abbrev pub inputs_of : Inputs → List ℕ
inputs_of (One x) = x ∷ []
inputs_of (Two x y) = x ∷ y ∷ []
inputs_of (Three x y z) = x ∷ y ∷ z ∷ []

-- the points of the act's cells belong together, by the relation that is given for its rule
abbrev pub HoldsAt : (Rule → Param → List Point → Point → Type 0) → (ℕ → Point) → Act → Type 0
HoldsAt related points act = related act.rule (param_of act.rule)
    (map points (inputs_of act.inputs)) (points act.output)
