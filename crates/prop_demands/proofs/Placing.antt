-- The places of what is posted are the numbers of cells, and its instances those of rules.
use Rattle.std.proofs.Common.{◌≡◌, ◌∙◌, ℕ, ◌+◌, ◌-◌, ◌<◌, Bool, true, false, cond, nat_lt, List, [], ◌∷◌, map, length}
use Rattle.std.proofs.Common.{Some, None, get_or, refl, ap, arith, pos}
use Rattle.std.specs.List.{AllByRecursion, range_with_len}
use Rattle.std.specs.Option.{option_and_then}
use Rattle.std.specs.Prelude.{unwrap_or, slice_get}
use Rattle.std.proofs.lemmas.Bool.{ltb-true, ltb-false}
use Rattle.std.proofs.lemmas.List.FromFn.{get_or-range_with_len, length-range_with_len}
use Rattle.prop_procedures.specs.Flats.{cell_placed, param_at}
use Rattle.prop_procedures.specs.Rules.{fitting_param, sides_of}
use Rattle.prop_procedures.specs.Stored.{Stored}
use Rattle.prop_procedures.specs.declared.flat.Placed.{Placed}
use Rattle.prop_procedures.specs.declared.shape.Param.{Param}
use Rattle.prop_procedures.specs.declared.shape.Param.TheVariants.{Plain, Scale}
use Rattle.prop_arith.specs.declared.kit.Kit.TheVariants as kits
use Rattle.prop_wide.specs.declared.wide.Wide.TheVariants as wides
use Rattle.prop_cells.specs.Instances as instances
use Rattle.prop_scheduler.specs.Making.{made_of}
use Rattle.prop_meaning.specs.Acts.{inputs_of, param_of}
use Rattle.prop_meaning.specs.Palette.{Instance, instance_of, numbered, param_place}
use Rattle.prop_meaning.specs.declared.acts.Act.{Act}
use Rattle.prop_meaning.specs.declared.acts.Rule.{Rule}
use Rattle.prop_meaning.specs.declared.acts.Rule.TheVariants.{OfKit, OfWide}
use Rattle.prop_demands.specs.inner.Palettes.{IsPalette, is_taken, need_of, rule_number}
use Rattle.prop_demands.proofs.Lists.{map_same}

-- ---- places

pub placed_there : (n place : ℕ) → cell_placed (range_with_len 0 n) n place ≡ place
placed_there n place = by (nat_lt place (length (range_with_len 0 n))) refl
  where
    by : (b : Bool) → nat_lt place (length (range_with_len 0 n)) ≡ b
        → cond b (get_or (range_with_len 0 n) place 0) (n + (place - length (range_with_len 0 n))) ≡ place
    by true e =
        let l : place < n = omega (arith, ltb-true place (length (range_with_len 0 n)) e, length-range_with_len 0 n) in
        omega (arith, get_or-range_with_len 0 n place 0 l)
    by false e = omega (arith, ltb-false place (length (range_with_len 0 n)) e, length-range_with_len 0 n)

pub placed_all : (n : ℕ) (places : List ℕ) → map (cell_placed (range_with_len 0 n) n) places ≡ places
placed_all n places = map_same (cell_placed (range_with_len 0 n) n) places (placed_there n)

-- ---- parameters

abbrev pub params : List Param
params = Scale (pos 1) ∷ []

pub param_taken : (rule : Rule) → is_taken rule ≡ true
    → fitting_param (need_of rule) (param_at params (param_place rule)) ≡ Some (param_of rule)
param_taken (OfKit kits.Mul) t = refl
param_taken (OfKit kits.Div) t = refl
param_taken (OfKit kits.Image) t = cc
param_taken (OfKit kits.Coimage) t = cc
param_taken (OfKit rule) t = refl
param_taken (OfWide wides.Square) t = cc
param_taken (OfWide wides.Root) t = cc
param_taken (OfWide rule) t = refl

pub no_sides : (rule : Rule) → option_and_then sides_of (param_at params (param_place rule)) ≡ None
no_sides (OfKit kits.Mul) = refl
no_sides (OfKit kits.Div) = refl
no_sides (OfKit rule) = refl
no_sides (OfWide rule) = refl

-- ---- instances

-- the instance of the procedure that has the rule, between the cells at its places
abbrev pub act_made : Act → instances.Instance
act_made act = record {
  procedure = rule_number act.rule;
  param = param_of act.rule;
  inputs = inputs_of act.inputs;
  output = act.output;
}

module _ (library : List Stored) (palette : IsPalette library) (n : ℕ) where
  abbrev cells : List ℕ
  cells = range_with_len 0 n

  -- what is made of an instance without where its inputs lie in memory
  abbrev made : Instance → instances.Instance
  made x = record {
    procedure = x.procedure;
    param = unwrap_or (option_and_then (λ (p : Stored). fitting_param p.need (param_at params x.param))
        (slice_get library x.procedure)) Plain;
    inputs = map (cell_placed cells n) x.inputs;
    output = cell_placed cells n x.output;
  }

  param_made : (rule : Rule) → is_taken rule ≡ true
      → unwrap_or (option_and_then (λ (p : Stored). fitting_param p.need (param_at params (param_place rule)))
      (slice_get library (rule_number rule))) Plain ≡ param_of rule
  param_made rule t =
      let f = palette.forms rule in
      rw f.1 (rw f.2.need (rw (param_taken rule t) refl))

  made_numbered : (act : Act) → is_taken act.rule ≡ true → made (numbered rule_number act) ≡ act_made act
  made_numbered act t =
      let p = param_made act.rule t in
      let ins = placed_all n (inputs_of act.inputs) in
      let out = placed_there n act.output in
      λ i. record { procedure = rule_number act.rule; param = p i; inputs = ins i; output = out i }

  pub made_is : (x : Placed) (act : Act) → instance_of x ≡ numbered rule_number act → is_taken act.rule ≡ true
      → made_of library params cells n x ≡ act_made act
  made_is x act e t = ap made e ∙ made_numbered act t

  pub all_made : (xs : List Placed) (acts : List Act) → map instance_of xs ≡ map (numbered rule_number) acts
      → AllByRecursion (λ (a : Act). is_taken a.rule ≡ true) acts
      → map (made_of library params cells n) xs ≡ map act_made acts
  all_made [] [] e t = refl
  all_made [] (a ∷ acts) e t = cc
  all_made (x ∷ xs) [] e t = cc
  all_made (x ∷ xs) (a ∷ acts) e t =
      let head : instance_of x ≡ numbered rule_number a = cc in
      let tail : map instance_of xs ≡ map (numbered rule_number) acts = cc in
      let first = made_is x a head t.0 in
      let rest = all_made xs acts tail t.1 in
      λ i. first i ∷ rest i
