-- Acts as instances of procedures, which a program knows by their numbers.
use Rattle.std.specs.Prelude.{◌≡◌, ℕ, pos, List, [], ◌∷◌, map, Option, Some, None}
use Rattle.prop_procedures.specs.declared.flat.Flat.{Flat}
use Rattle.prop_procedures.specs.declared.flat.Placed.{Placed}
use Rattle.prop_procedures.specs.declared.shape.Param.TheVariants.{Scale}
use Rattle.prop_arith.specs.declared.kit.Kit.TheVariants.{Mul, Div}
use Rattle.prop_meaning.specs.Acts.{inputs_of}
use Rattle.prop_meaning.specs.declared.acts.Act.{Act}
use Rattle.prop_meaning.specs.declared.acts.Rule.{Rule}
use Rattle.prop_meaning.specs.declared.acts.Rule.TheVariants.{OfKit}
use Rattle.prop_meaning.specs.declared.posting.Posted.{Posted}

-- an instance, without where in memory its inputs lie
pub record Instance : Type 0 where
  pub procedure : ℕ
  pub param : Option ℕ
  pub inputs : List ℕ
  pub output : ℕ

abbrev pub instance_of : Placed → Instance
instance_of x = record {
  procedure = x.procedure;
  param = x.param;
  inputs = x.inputs.items;
  output = x.output;
}

-- where the rule takes a scale, the number of that parameter, which is the only one
abbrev pub param_place : Rule → Option ℕ
param_place (OfKit Mul) = Some 0
param_place (OfKit Div) = Some 0
param_place rule = None

-- the act as an instance, of the procedure that has the rule
abbrev pub numbered : (Rule → ℕ) → Act → Instance
numbered number act = record {
  procedure = number act.rule;
  param = param_place act.rule;
  inputs = inputs_of act.inputs;
  output = act.output;
}

-- The flat form has the same fresh cells, and the acts as instances, of procedures by their
-- numbers. Its one parameter is the scale 1.
pub record IsFlatOf (number : Rule → ℕ) (posted : Posted) (flat : Flat) : Type 0 where
  pub fresh : flat.fresh.items ≡ posted.fresh.items
  pub params : flat.params.items ≡ Scale (pos 1) ∷ []
  pub instances : map instance_of flat.instances.items ≡ map (numbered number) posted.acts.items
