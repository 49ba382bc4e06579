-- What is posted demands what the term says: no point is lost, and none is wrong.
use Rattle.std.proofs.Common.{◌≡◌, ◌∙◌, ◌⊎◌, ℕ, suc, ◌+◌, ◌-◌, ◌<◌, ◌≤◌, List, [], ◌∷◌, ◌++◌, All, IsTrue, length}
use Rattle.std.proofs.Common.{get_or, map}
use Rattle.std.proofs.Common.{Option, Some, None, refl, ap, sym, subst, inl, inr, arith}
use Rattle.std.specs.Prelude.{slice_get}
use Rattle.std.specs.List.{AllByRecursion, range_with_len}
use Rattle.std.proofs.lemmas.Bool.{cases_lt}
use Rattle.std.proofs.lemmas.List.Elements.{All-append}
use Rattle.std.proofs.lemmas.Option.{slice_get_within}
use Rattle.std.proofs.Math.Pow.{pow-lt}
use Rattle.std.proofs.lemmas.Nat.Bits.{bit_at-pow_same}
use Rattle.prop_lattice.specs.Ends.{elements_from, some_or_not}
use Rattle.prop_lattice.specs.inner.Ends.{AreSome, elements_if}
use Rattle.prop_lattice.specs.Points.{Point, Number, Element, Symbol, Holds, IsPointOf}
use Rattle.prop_lattice.specs.declared.info.Info.{Info}
use Rattle.prop_sets.specs.laws.NarrowestLaws.{elements_hold}
use Rattle.prop_numbers.specs.Sets.{Members}
use Rattle.prop_premises.proofs.ChoiceLemmas.{slice_get-front, slice_get-skip}
use Rattle.prop_procedures.specs.Flats.{cell_placed}
use Rattle.prop_procedures.specs.Stored.{Stored}
use Rattle.prop_procedures.specs.declared.shape.Kinded.{Kinded}
use Rattle.prop_procedures.specs.declared.shape.Param.{Param}
use Rattle.prop_arith.specs.declared.kit.Kit.TheVariants as kits
use Rattle.prop_cells.specs.Instances as instances
use Rattle.prop_cells.specs.Instances.{IsWithin}
use Rattle.prop_cells.specs.Points.{AreFitting, AreSoundBy, ArePoints, Attached}
use Rattle.prop_cells.specs.Problems.{is_member}
use Rattle.prop_cells.specs.declared.instance.Statement.{Statement}
use Rattle.prop_plans.specs.Held.{AreHeld}
use Rattle.prop_points.proofs.Singles.{bit_of_power}
use Rattle.prop_meaning.specs.Acts.{HoldsAt, RelatedBy, TellsBy, inputs_of, param_of}
use Rattle.prop_meaning.specs.declared.acts.Act.{Act}
use Rattle.prop_meaning.specs.declared.acts.Rule.{Rule}
use Rattle.prop_meaning.specs.declared.acts.Rule.TheVariants.{OfKit, OfWide}
use Rattle.prop_demands.specs.inner.Palettes.{related_by, rule_number, tells_by}
use Rattle.prop_demands.proofs.Lists.{all_first}
use Rattle.prop_demands.proofs.Placing.{act_made, placed_there}

-- ---- one instance

-- points that belong together tell of one another
tells_related : (rule : Rule) (param : Param) (points : List Point) (point : Point)
    → RelatedBy rule param points point → TellsBy rule param points point
tells_related (OfKit kits.Div) param points point h = tt
tells_related (OfKit kits.Apart) param points point h = tt
tells_related (OfKit rule) param points point h = h
tells_related (OfWide rule) param points point h = h

-- and are held
held_related : (library : List Stored) → AreSoundBy library related_by → (rule : Rule) (param : Param)
    (points : List Point) (point : Point) → RelatedBy rule param points point
    → AreHeld library (rule_number rule) param points point
held_related library sound rule param points point h m p at any q args ps x call of_kinds of_kind each
    (here, to, of, so) =
    let related : related_by (rule_number rule) param points point = (rule, refl, h) in
    sound m p at any q args ps x call of_kinds of_kind each (rw (here, to, of, so) related)

pub tells_all : (points : ℕ → Point) (acts : List Act) → AllByRecursion (HoldsAt RelatedBy points) acts
    → AllByRecursion (HoldsAt TellsBy points) acts
tells_all points [] h = tt
tells_all points (a ∷ acts) h = (
  tells_related a.rule (param_of a.rule) (map points (inputs_of a.inputs)) (points a.output) h.0,
  tells_all points acts h.1,
)

abbrev pub IsHeld : List Stored → (ℕ → Point) → instances.Instance → Type 0
IsHeld library points x = AreHeld library x.procedure x.param (map points x.inputs) (points x.output)

pub held_all : (library : List Stored) → AreSoundBy library related_by → (points : ℕ → Point) (acts : List Act)
    → AllByRecursion (HoldsAt RelatedBy points) acts → AllByRecursion (IsHeld library points) (map act_made acts)
held_all library sound points [] h = tt
held_all library sound points (a ∷ acts) h = (
  held_related library sound a.rule (param_of a.rule) (map points (inputs_of a.inputs)) (points a.output) h.0,
  held_all library sound points acts h.1,
)

abbrev pub IsTold : (ℕ → Point) → instances.Instance → Type 0
IsTold points x = tells_by x.procedure x.param (map points x.inputs) (points x.output)

pub told_all : (points : ℕ → Point) (acts : List Act) → AllByRecursion (IsTold points) (map act_made acts)
    → AllByRecursion (HoldsAt TellsBy points) acts
told_all points [] h = tt
told_all points (a ∷ acts) h = (h.0 a.rule refl, told_all points acts h.1)

-- ---- constants

abbrev pub IsStated : Members → (ℕ → Point) → Statement → Type 0
IsStated believed points x = IsTrue (is_member believed x.premise) → Holds x.info (points x.cell)

-- what is stated of the cell at a place
abbrev pub stated_at : ℕ → Option ℕ → ℕ × Info → Statement
stated_at n premise c =
    record { premise = premise; cell = cell_placed (range_with_len 0 n) n c.0; info = c.1 }

abbrev pub IsConstant : (ℕ → Point) → ℕ × Info → Type 0
IsConstant points c = Holds c.1 (points c.0)

pub constants_stated : (n : ℕ) (believed : Members) (points : ℕ → Point) (constants : List (ℕ × Info))
    → AllByRecursion (IsConstant points) constants
    → AllByRecursion (IsStated believed points) (map (stated_at n None) constants)
constants_stated n believed points [] h = tt
constants_stated n believed points (c ∷ constants) h =
    let P : ℕ → Type 0 = λ k. Holds c.1 (points k) in
    (λ m. subst P (sym (placed_there n c.0)) h.0, constants_stated n believed points constants h.1)

pub stated_constants : (n : ℕ) (believed : Members) (points : ℕ → Point) (constants : List (ℕ × Info))
    → AllByRecursion (IsStated believed points) (map (stated_at n None) constants)
    → AllByRecursion (IsConstant points) constants
stated_constants n believed points [] h = tt
stated_constants n believed points (c ∷ constants) h =
    let P : ℕ → Type 0 = λ k. Holds c.1 (points k) in
    (subst P (placed_there n c.0) (h.0 refl), stated_constants n believed points constants h.1)

-- ---- the result

pub yes_held : Holds (elements_from 1) (Element 0)
yes_held = elements_hold 1 (pow-lt {i = 0} {j = 64} (omega arith)) 0 (bit_at-pow_same 0)

pub held_yes : (p : Point) → Holds (elements_from 1) p → p ≡ Element 0
unfolding elements_from
held_yes p h = by (some_or_not 1) p h
  where
    by : (e : AreSome 1 ⊎ ¬ (AreSome 1)) (p : Point) → Holds (elements_if 1 e) p → p ≡ Element 0
    by (inl e) (Element j) h = ap Element (bit_of_power 0 j h)
    by (inl e) (Number z) h = absurd h
    by (inl e) (Symbol n) h = absurd h
    by (inr f) p h = absurd h

-- ---- points of given cells and fresh ones

-- what was there, and more
abbrev pub joined : Attached → List Kinded → List Statement → List instances.Instance → Attached
joined n fresh more made = record {
  kinds = n.kinds ++ fresh;
  statements = n.statements ++ more;
  instances = n.instances ++ made;
}

module _ (library : List Stored) (n : Attached) (fresh : List Kinded) (more : List Statement)
    (made : List instances.Instance) (believed : Members) (points : ℕ → Point)
  where
    -- the points of what is there satisfy what was there
    pub parted : ArePoints (AreHeld library) (joined n fresh more made) believed points
        → ArePoints (AreHeld library) n believed points
    parted p = record {
      of_kind = λ cell k at. p.of_kind cell k
          (slice_get-front n.kinds fresh cell (slice_get_within n.kinds cell k at) ∙ at);
      stated = all_first (IsStated believed points) n.statements more p.stated;
      together = all_first (IsHeld library points) n.instances made p.together;
    }

    pub fresh_kinds : {related : ℕ → Param → List Point → Point → Type 0}
        → ArePoints related (joined n fresh more made) believed points → (k : ℕ) (kinded : Kinded)
        → slice_get fresh k ≡ Some kinded → IsPointOf kinded.kind kinded.size (points (length n.kinds + k))
    fresh_kinds p k kinded at =
        p.of_kind (length n.kinds + k) kinded (slice_get-skip n.kinds fresh k (length n.kinds + k) refl ∙ at)

module _ (library : List Stored) (n : Attached) (fit : AreFitting library n)
    (within : All (λ (x : Statement). x.cell < length n.kinds) n.statements) (believed : Members)
    (points all : ℕ → Point) (same : (i : ℕ) → i < length n.kinds → all i ≡ points i)
    (p : ArePoints (AreHeld library) n believed points)
  where
    inputs_same : (cells : List ℕ) → All (λ c. c < length n.kinds) cells → map all cells ≡ map points cells
    inputs_same [] h = refl
    inputs_same (c ∷ cells) h =
        let first = same c (h 0 c (omega arith)) in
        let rest = inputs_same cells (λ k d l. h (suc k) d (omega (arith, l))) in
        λ i. first i ∷ rest i

    -- points of the fresh cells with which more is stated, and more belongs together, join them
    pub together_with : (fresh : List Kinded) (more : List Statement) (made : List instances.Instance)
        → ((k : ℕ) (kinded : Kinded) → slice_get fresh k ≡ Some kinded
        → IsPointOf kinded.kind kinded.size (all (length n.kinds + k)))
        → All (IsStated believed all) more → All (IsHeld library all) made
        → ArePoints (AreHeld library) (joined n fresh more made) believed all
    together_with fresh more made kinds stated held = record {
      of_kind = λ cell k at. of_kind cell k at (cases_lt cell (length n.kinds));
      stated = All-append (IsStated believed all) n.statements more old_stated stated;
      together = All-append (IsHeld library all) n.instances made old_held held;
    }
      where
        of_kind : (cell : ℕ) (k : Kinded) → slice_get (n.kinds ++ fresh) cell ≡ Some k
            → (cell < length n.kinds) ⊎ (length n.kinds ≤ cell) → IsPointOf k.kind k.size (all cell)
        of_kind cell k at (inl l) =
            let P : Point → Type 0 = λ q. IsPointOf k.kind k.size q in
            subst P (sym (same cell l)) (p.of_kind cell k (sym (slice_get-front n.kinds fresh cell l) ∙ at))
        of_kind cell k at (inr l) =
            let is : cell ≡ length n.kinds + (cell - length n.kinds) = omega (arith, l) in
            let P : ℕ → Type 0 = λ c. IsPointOf k.kind k.size (all c) in
            subst P (sym is)
            (kinds (cell - length n.kinds) k (sym (slice_get-skip n.kinds fresh (cell - length n.kinds) cell is) ∙ at))

        old_stated : All (IsStated believed all) n.statements
        old_stated k d l m =
            let x = get_or n.statements k d in
            let P : Point → Type 0 = λ q. Holds x.info q in
            subst P (sym (same x.cell (within k d l))) (p.stated k d l m)

        old_held : All (IsHeld library all) n.instances
        old_held k d l =
            let x = get_or n.instances k d in
            let ins = inputs_same x.inputs (fit.within k d l).inputs in
            let out = same x.output (fit.within k d l).output in
            rw (ins, out) (p.together k d l)
