-- The program's procedures begin with those of the rules of which expressions are made.
use Rattle.std.proofs.Common.{◌≡◌, ◌∙◌, ℕ, zero, suc, ◌+◌, ◌-◌, ◌<◌, List, [], ◌∷◌, ◌++◌, All, map, length, refl, ap}
use Rattle.std.proofs.Common.{sym, subst}
use Rattle.std.proofs.Common.{arith, get_or, Some, None, Option}
use Rattle.std.specs.Prelude.{slice_get, IsSomeAnd}
use Rattle.std.proofs.lemmas.List.{length-map}
use Rattle.std.proofs.lemmas.Option.{slice_get_within}
use Rattle.prop_lattice.specs.Points.{Point}
use Rattle.prop_premises.proofs.ChoiceLemmas.{slice_get-front, slice_get-skip}
use Rattle.prop_procedures.specs.declared.both.Both.TheVariants as boths
use Rattle.prop_procedures.specs.declared.shape.Param.{Param}
use Rattle.prop_procedures.specs.Forms.{related_in, stored}
use Rattle.prop_procedures.specs.Stored.{Stored}
use Rattle.prop_arith.specs.Kit.{in_order as kits}
use Rattle.prop_arith.specs.declared.kit.Kit.{Kit}
use Rattle.prop_arith.specs.declared.kit.Kit.TheVariants as kit
use Rattle.prop_wide.specs.Procedures.{Named, in_order as named}
use Rattle.prop_wide.specs.Wide.{need_of, out_of}
use Rattle.prop_wide.specs.declared.wide.Wide.{Wide}
use Rattle.prop_wide.specs.declared.wide.Wide.TheVariants as wides
use Rattle.prop_cells.specs.Points.{AreSoundBy, ArePoints}
use Rattle.prop_points.specs.Kit.{KitTells}
use Rattle.prop_points.specs.Networks.{SinglesSolve}
use Rattle.prop_meaning.specs.Acts as acts
use Rattle.prop_meaning.specs.declared.acts.Rule.{Rule}
use Rattle.prop_meaning.specs.declared.acts.Rule.TheVariants.{OfKit, OfWide}
use Rattle.prop_demands.specs.inner.Palettes.{HasForm, IsPalette, kit_number, related_by, rule_number, tells_by}
use Rattle.prop_demands.specs.inner.Palettes.{ins_of, wide_ins, wide_number}
use Rattle.propwide.specs.Kits.{Made, Mixed, RelatedBy, TellsBy, answer_of, in_order, of_kit, of_wide, wide}
use Rattle.propwide.specs.Kits.{wide_related, wide_tells}
use Rattle.propwide.proofs.Making.{wide_is_sound, wide_solves}

-- ---- lists

map_at : {X Y : Type 0} (f : X → Y) (xs : List X) (k : ℕ) (x : X) → slice_get xs k ≡ Some x
    → slice_get (map f xs) k ≡ Some (f x)
map_at f [] k x e = cc
map_at f (y ∷ xs) zero x e = let same : y ≡ x = cc in ap (λ z. Some (f z)) same
map_at f (y ∷ xs) (suc k) x e = map_at f xs k x e

-- ---- the first procedures

kit_at : (rule : Kit) → slice_get kits (kit_number rule) ≡ Some rule
kit_at kit.Add = refl
kit_at kit.Sub = refl
kit_at kit.Mul = refl
kit_at kit.Div = refl
kit_at kit.Square = refl
kit_at kit.Root = refl
kit_at kit.Less = refl
kit_at kit.Below = refl
kit_at kit.Above = refl
kit_at kit.Copy = refl
kit_at kit.Alike = refl
kit_at kit.Apart = refl
kit_at kit.Switch = refl
kit_at kit.Not = refl
kit_at kit.And = refl
kit_at kit.AndBack = refl
kit_at kit.Or = refl
kit_at kit.OrBack = refl
kit_at kit.Image = refl
kit_at kit.Coimage = refl

-- a wider procedure has the rule, and takes these inputs
pub record IsOf (rule : Wide) (k : ℕ) : Type 0 where
  pub entry : Named
  pub at : slice_get named k ≡ Some entry
  pub rule_is : entry.rule ≡ rule
  pub ins_are : entry.ins ≡ wide_ins rule

by_place : (rule : Wide) (k : ℕ) (entry : Named) → slice_get named k ≡ Some entry → entry.rule ≡ rule
    → entry.ins ≡ wide_ins rule → IsOf rule k
by_place rule k entry at r i = record { entry = entry; at = at; rule_is = r; ins_are = i }

wide_at : (rule : Wide) → IsOf rule (wide_number rule - 20)
wide_at wides.Max = by_place wides.Max 0 _ refl refl refl
wide_at wides.MaxBack = by_place wides.MaxBack 1 _ refl refl refl
wide_at wides.Min = by_place wides.Min 2 _ refl refl refl
wide_at wides.MinBack = by_place wides.MinBack 3 _ refl refl refl
wide_at wides.Abs = by_place wides.Abs 4 _ refl refl refl
wide_at wides.AbsBack = by_place wides.AbsBack 5 _ refl refl refl
wide_at wides.Choose = by_place wides.Choose 6 _ refl refl refl
wide_at wides.Decide = by_place wides.Decide 7 _ refl refl refl
wide_at wides.Count = by_place wides.Count 8 _ refl refl refl
wide_at wides.CountBack = by_place wides.CountBack 16 _ refl refl refl
wide_at wides.Square = by_place wides.Square 24 _ refl refl refl
wide_at wides.Root = by_place wides.Root 25 _ refl refl refl
wide_at wides.Quotient = by_place wides.Quotient 26 _ refl refl refl
wide_at wides.Remainder = by_place wides.Remainder 27 _ refl refl refl
wide_at wides.Divisor = by_place wides.Divisor 28 _ refl refl refl

wide_behind : (rule : Wide) → wide_number rule ≡ 20 + (wide_number rule - 20)
wide_behind wides.Max = refl
wide_behind rule = refl

-- a rule as the program has it
abbrev mixed : Rule → Mixed
mixed (OfKit rule) = boths.One rule
mixed (OfWide rule) = boths.Two (boths.One rule)

-- what the rule's procedure is made of
pub record IsMadeOf (rule : Rule) (all : List Made) : Type 0 where
  pub made : Made
  pub at : slice_get all (rule_number rule) ≡ Some made
  pub rule_is : made.rule ≡ mixed rule
  pub form : (value : _) → HasForm rule (stored made.form value)

module _ (rest : List Made) where
  abbrev all : List Made
  all = map of_kit kits ++ (map of_wide named ++ rest)

  kit_found : (rule : Kit) → slice_get all (kit_number rule) ≡ Some (of_kit rule)
  kit_found rule =
      let e = map_at of_kit kits (kit_number rule) rule (kit_at rule) in
      slice_get-front (map of_kit kits) (map of_wide named ++ rest) (kit_number rule)
      (slice_get_within (map of_kit kits) (kit_number rule) (of_kit rule) e) ∙ e

  wide_found : (rule : Wide) → slice_get all (wide_number rule) ≡ Some (of_wide (wide_at rule).entry)
  wide_found rule =
      let k = wide_number rule - 20 in
      let w = wide_at rule in
      let e = map_at of_wide named k w.entry w.at in
      slice_get-skip (map of_kit kits) (map of_wide named ++ rest) k (wide_number rule)
      (wide_behind rule ∙ ap (λ n. n + k) (sym (length-map kits of_kit)))
      ∙ slice_get-front (map of_wide named) rest k (slice_get_within (map of_wide named) k (of_wide w.entry) e) ∙ e

  made_of : (rule : Rule) → IsMadeOf rule all
  made_of (OfKit rule) = record {
    made = of_kit rule;
    at = kit_found rule;
    rule_is = refl;
    form = λ value. record { ins = refl; out = refl; need = refl };
  }
  made_of (OfWide rule) = let w = wide_at rule in record {
    made = of_wide w.entry;
    at = wide_found rule;
    rule_is = ap (λ r. boths.Two (boths.One r)) w.rule_is;
    form = λ value. record {
      ins = w.ins_are;
      out = ap (λ r. out_of r) w.rule_is;
      need = ap (λ r. need_of r) w.rule_is;
    };
  }

found : (rule : Rule) → IsMadeOf rule in_order
found rule = made_of _ rule

-- ---- the palette

related_mixed : (rule : Rule) (param : Param) (points : List Point) (point : Point)
    → acts.RelatedBy rule param points point → RelatedBy (mixed rule) param points point
related_mixed (OfKit rule) param points point h = h
related_mixed (OfWide rule) param points point h = h

kit_tells : (rule : Kit) (param : Param) (points : List Point) (point : Point) → KitTells rule param points point
    → acts.TellsBy (OfKit rule) param points point
kit_tells kit.Div param points point h = tt
kit_tells kit.Apart param points point h = tt
kit_tells rule param points point h = h

tells_mixed : (rule : Rule) (param : Param) (points : List Point) (point : Point)
    → TellsBy (mixed rule) param points point → acts.TellsBy rule param points point
tells_mixed (OfKit rule) param points point h = kit_tells rule param points point h
tells_mixed (OfWide rule) param points point h = h

related_there : (n : ℕ) (param : Param) (points : List Point) (point : Point) → related_by n param points point
    → wide_related n param points point
related_there n param points point (rule, here, h) =
    let f = found rule in
    let P : Mixed → Type 0 = λ r. RelatedBy r param points point in
    let Q : Option Made → Type 0 = λ o. IsSomeAnd o (λ m. RelatedBy m.rule param points point) in
    let R : ℕ → Type 0 = λ k. wide_related k param points point in
    subst R here (subst Q (sym f.at) (subst P (sym f.rule_is) (related_mixed rule param points point h)))

tells_there : (n : ℕ) (param : Param) (points : List Point) (point : Point) → wide_tells n param points point
    → tells_by n param points point
tells_there n param points point h rule here =
    let f = found rule in
    let P : Mixed → Type 0 = λ r. TellsBy r param points point in
    let Q : Option Made → Type 0 = λ o. IsSomeAnd o (λ m. TellsBy m.rule param points point) in
    let R : ℕ → Type 0 = λ k. wide_tells k param points point in
    tells_mixed rule param points point (subst P f.rule_is (subst Q f.at (subst R (sym here) h)))

pub wide_palette : IsPalette wide
wide_palette = record {
  forms = λ rule.
      let f = found rule in
      let value = answer_of f.made.rule in (
        stored f.made.form value,
        map_at (λ (p : Made). stored p.form (answer_of p.rule)) in_order (rule_number rule) f.made f.at,
        f.form value,
      );
  sound = λ n p at any param args points point call of_kinds of_kind each h.
      wide_is_sound n p at any param args points point call of_kinds of_kind each
      (related_there n param points point h);
  single = λ n s a points fit solves settled.
      let q = wide_solves n s a points fit solves settled in
      record {
        of_kind = q.of_kind;
        stated = q.stated;
        together = λ k d l. tells_there _ _ _ _ (q.together k d l);
      };
}
