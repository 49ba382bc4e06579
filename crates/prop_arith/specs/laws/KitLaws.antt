-- The laws of the rules of the kit.
use Rattle.std.specs.Prelude.{List, [], ◌∷◌}
use Rattle.std.proofs.Common.{arith, refl, rules, subst}
use Rattle.prop_intervals.specs.Relations.{IsSum, IsProduct, IsSquare, SaysLess}
use Rattle.prop_intervals.specs.Spans.{sum_of, difference_of, product_of, quotient_of}
use Rattle.prop_intervals.specs.inner.Parts.{square_of}
use Rattle.prop_intervals.specs.laws.SumLaws.{sum_monotone, sum_kind, sum_sound}
use Rattle.prop_intervals.specs.laws.SumLaws.{difference_monotone, difference_kind}
use Rattle.prop_intervals.specs.laws.SumLaws.{difference_sound}
use Rattle.prop_intervals.specs.laws.ProductLaws.{product_monotone, product_kind, product_sound}
use Rattle.prop_intervals.specs.laws.DivisionLaws.{quotient_monotone, quotient_kind, quotient_sound}
use Rattle.prop_intervals.specs.laws.SquareLaws.{square_monotone, square_kind, square_sound}
use Rattle.prop_intervals.specs.inner.Parts.{less_of, below_of, above_of}
use Rattle.prop_intervals.specs.laws.ComparisonLaws.{less_monotone, less_kind, below_monotone}
use Rattle.prop_intervals.specs.laws.ComparisonLaws.{below_kind, below_sound, above_monotone}
use Rattle.prop_intervals.specs.laws.ComparisonLaws.{above_kind, above_sound}
use Rattle.prop_lattice.specs.Points.{Point, Holds}
use Rattle.prop_lattice.specs.Rank.{IsOf}
use Rattle.prop_lattice.specs.declared.info.Info.{Info}
use Rattle.prop_lattice.specs.declared.info.Kind.TheVariants as kinds
use Rattle.prop_procedures.specs.declared.shape.Shape.{Shape}
use Rattle.prop_procedures.specs.declared.shape.Shape.TheVariants.{Any}
use Rattle.prop_procedures.specs.declared.shape.Need.{Need}
use Rattle.prop_procedures.specs.Forms.{HasFewInputs}
use Rattle.prop_procedures.specs.Rules.{IsMonotone, KeepsKind, IsSound, EachHolds}
use Rattle.prop_procedures.specs.inner.Places.{AreOf}
use Rattle.prop_sets.specs.laws.ImageLaws.{image_monotone, image_sound, coimage_monotone}
use Rattle.prop_sets.specs.laws.ImageLaws.{coimage_sound}
use Rattle.prop_sets.specs.Images.{image_of, coimage_of}
use Rattle.prop_sets.specs.Relation.{HasPair}
use Rattle.prop_sets.specs.Truth.{IsNot, IsAnd, IsOr}
use Rattle.prop_sets.specs.Truth.{not_of, and_of, and_back_of, or_of, or_back_of}
use Rattle.prop_sets.specs.laws.TruthLaws.{not_monotone, not_kind, not_sound, and_monotone}
use Rattle.prop_sets.specs.laws.TruthLaws.{and_kind, and_sound, and_back_monotone, and_back_kind}
use Rattle.prop_sets.specs.laws.TruthLaws.{and_back_sound, or_monotone, or_kind, or_sound}
use Rattle.prop_sets.specs.laws.TruthLaws.{or_back_monotone, or_back_kind, or_back_sound}
use Rattle.prop_arith.specs.declared.kit.Kit.{Kit}
use Rattle.prop_arith.specs.declared.kit.Kit.TheVariants.{Add, Sub, Mul, Div, Square, Root, Less}
use Rattle.prop_arith.specs.declared.kit.Kit.TheVariants.{Below, Above, Copy, Alike, Apart, Switch}
use Rattle.prop_arith.specs.declared.kit.Kit.TheVariants.{Not, And, AndBack, Or, OrBack, Image}
use Rattle.prop_arith.specs.declared.kit.Kit.TheVariants.{Coimage}
use Rattle.prop_arith.specs.inner.Compared.{comparer_of}
use Rattle.prop_arith.specs.laws.Combined.{Combined, RelatesSame, at_one, combined_of, on_span}
use Rattle.prop_arith.specs.laws.Combined.{on_spans, on_truth, parter_of, passer_of, rooter_of}
use Rattle.prop_arith.specs.Kit.{FormOf, form_of}
use Rattle.prop_arith.specs.Values.{value_of}
use Rattle.prop_arith.specs.Points.{Related}
use Rattle.prop_arith.specs.laws.CombinedLaws.{value_is, related_is}
use Rattle.prop_arith.specs.laws.ArgumentLaws.{one_below, two_below, three_below, one_kind}
use Rattle.prop_arith.specs.laws.ArgumentLaws.{two_kind}
use Rattle.prop_arith.specs.laws.NumberLaws.{at_least_one, span_below, spans_below, scale_below}
use Rattle.prop_arith.specs.laws.NumberLaws.{span_kind, spans_kind, scale_kind, one_sound}
use Rattle.prop_arith.specs.laws.NumberLaws.{two_sound, scale_sound, rooter_below, rooter_kind}
use Rattle.prop_arith.specs.laws.NumberLaws.{rooter_sound}
use Rattle.prop_arith.specs.laws.LogicLaws.{truth_sound, truths_sound, passer_below, passer_kind}
use Rattle.prop_arith.specs.laws.LogicLaws.{passer_sound}
use Rattle.prop_arith.specs.laws.ComparingLaws.{lesser_sound, by_truth_below, by_truth_kind}
use Rattle.prop_arith.specs.laws.ComparingLaws.{by_truth_sound, comparer_below, comparer_kind}
use Rattle.prop_arith.specs.laws.ComparingLaws.{comparer_sound, parter_below, parter_kind}
use Rattle.prop_arith.specs.laws.ComparingLaws.{parter_sound}
use Rattle.prop_arith.specs.laws.LinkingLaws.{rows_below, imager_kind, coimager_kind, rows_sound}

-- ---- by functions of functions

monotone : (rule : Kit) (ins : List Shape) (out : Shape) (need : Need) → FormOf rule ins out need
    → IsMonotone (combined_of rule) ins need
monotone Add ins out need f any param olds news c d p =
    two_below (on_spans sum_of) (spans_below sum_of sum_monotone) olds news p d.clear
monotone Sub ins out need f any param olds news c d p =
    two_below (on_spans difference_of) (spans_below difference_of difference_monotone) olds news p
    d.clear
monotone Mul ins out need f any param olds news c d p =
    scale_below (λ k. on_spans (λ x y. product_of x y k))
    (λ k s. spans_below (λ x y. product_of x y k)
    (λ x y x' y'. product_monotone x y x' y' k (at_least_one k s))) param olds news p d.clear
monotone Div ins out need f any param olds news c d p =
    scale_below (λ k. on_spans (λ z y. quotient_of z y k))
    (λ k s. spans_below (λ z y. quotient_of z y k)
    (λ z y z' y'. quotient_monotone z y z' y' k (at_least_one k s))) param olds news p d.clear
monotone Square ins out need f any param olds news c d p =
    one_below (on_span square_of) (span_below square_of square_monotone) olds news p d.clear
monotone Root ins out need f any param olds news c d p =
    two_below rooter_of rooter_below olds news p d.clear
monotone Less ins out need f any param olds news c d p =
    two_below (on_spans less_of) (spans_below less_of less_monotone) olds news p d.clear
monotone Below ins out need f any param olds news c d p =
    two_below (on_truth below_of) (by_truth_below below_of below_monotone) olds news p d.clear
monotone Above ins out need f any param olds news c d p =
    two_below (on_truth above_of) (by_truth_below above_of above_monotone) olds news p d.clear
monotone Copy ins out need f any param olds news c d p =
    one_below (λ x. x) (λ x x' h n. h) olds news p d.clear
monotone Alike ins out need f any param olds news c d p =
    two_below comparer_of comparer_below olds news p d.clear
monotone Apart ins out need f any param olds news c d p =
    three_below parter_of parter_below olds news p d.clear
monotone Switch ins out need f any param olds news c d p =
    two_below passer_of passer_below olds news p d.clear
monotone Not ins out need f any param olds news c d p =
    one_below not_of (λ x x' h n. not_monotone x x' h) olds news p d.clear
monotone And ins out need f any param olds news c d p =
    two_below and_of (λ x y x' y' h k n m. and_monotone x y x' y' h k) olds news p d.clear
monotone AndBack ins out need f any param olds news c d p =
    two_below and_back_of (λ z y z' y' h k n m. and_back_monotone z y z' y' h k) olds news p d.clear
monotone Or ins out need f any param olds news c d p =
    two_below or_of (λ x y x' y' h k n m. or_monotone x y x' y' h k) olds news p d.clear
monotone OrBack ins out need f any param olds news c d p =
    two_below or_back_of (λ z y z' y' h k n m. or_back_monotone z y z' y' h k) olds news p d.clear
monotone Image ins out need f any param olds news c d p =
    rows_below image_of image_monotone param olds news p d.clear
monotone Coimage ins out need f any param olds news c d p =
    rows_below coimage_of coimage_monotone param olds news p d.clear

keeps_kind : (rule : Kit) (ins : List Shape) (out : Shape) (need : Need) → FormOf rule ins out need
    → KeepsKind (combined_of rule) ins out need
keeps_kind Add ins out need f any param args c =
    rw f.1 (two_kind kinds.Span 0 (on_spans sum_of) (spans_kind kinds.Span 0 sum_of (sum_kind 0))
    args)
keeps_kind Sub ins out need f any param args c =
    rw f.1 (two_kind kinds.Span 0 (on_spans difference_of)
    (spans_kind kinds.Span 0 difference_of (difference_kind 0)) args)
keeps_kind Mul ins out need f any param args c =
    rw f.1 (scale_kind kinds.Span 0 (λ k. on_spans (λ x y. product_of x y k))
    (λ k. spans_kind kinds.Span 0 (λ x y. product_of x y k) (λ x y. product_kind 0 x y k)) param
    args)
keeps_kind Div ins out need f any param args c =
    rw f.1 (scale_kind kinds.Span 0 (λ k. on_spans (λ z y. quotient_of z y k))
    (λ k. spans_kind kinds.Span 0 (λ z y. quotient_of z y k) (λ z y. quotient_kind 0 z y k))
    param args)
keeps_kind Square ins out need f any param args c =
    rw f.1 (one_kind kinds.Span 0 (on_span square_of) (span_kind square_of (square_kind 0)) args)
keeps_kind Root ins out need f any param args c =
    rw f.1 (two_kind kinds.Span 0 rooter_of rooter_kind args)
keeps_kind Less ins out need f any param args c =
    rw f.1 (two_kind (kinds.Set 0) 2 (on_spans less_of)
    (spans_kind (kinds.Set 0) 2 less_of (less_kind 0)) args)
keeps_kind Below ins out need f any param args c =
    rw f.1 (two_kind kinds.Span 0 (on_truth below_of) (by_truth_kind below_of (below_kind 0)) args)
keeps_kind Above ins out need f any param args c =
    rw f.1 (two_kind kinds.Span 0 (on_truth above_of) (by_truth_kind above_of (above_kind 0)) args)
keeps_kind Copy ins out need f any param args c = rw f.1 (by args (rw f.0 at c.of_kinds))
  where
    by : (args : List Info) → AreOf any (Any 0 ∷ []) args
        → IsOf (any (Any 0)).kind (any (Any 0)).size (at_one (λ x. x) args)
    by (x ∷ []) h = h.0
    by args h = search rules
keeps_kind Alike ins out need f any param args c =
    rw f.1 (two_kind (kinds.Set 0) 2 comparer_of comparer_kind args)
keeps_kind Apart ins out need f any param args c =
    rw f.1 (parter_kind any args (rw f.0 at c.of_kinds))
keeps_kind Switch ins out need f any param args c =
    rw f.1 (passer_kind any args (rw f.0 at c.of_kinds))
keeps_kind Not ins out need f any param args c =
    rw f.1 (one_kind (kinds.Set 0) 2 not_of not_kind args)
keeps_kind And ins out need f any param args c =
    rw f.1 (two_kind (kinds.Set 0) 2 and_of and_kind args)
keeps_kind AndBack ins out need f any param args c =
    rw f.1 (two_kind (kinds.Set 0) 2 and_back_of and_back_kind args)
keeps_kind Or ins out need f any param args c = rw f.1 (two_kind (kinds.Set 0) 2 or_of or_kind args)
keeps_kind OrBack ins out need f any param args c =
    rw f.1 (two_kind (kinds.Set 0) 2 or_back_of or_back_kind args)
keeps_kind Image ins out need f any param args c = rw f.1 (imager_kind any param args c.sides)
keeps_kind Coimage ins out need f any param args c = rw f.1 (coimager_kind any param args c.sides)

sound : (rule : Kit) (ins : List Shape) (out : Shape) (need : Need) → FormOf rule ins out need
    → IsSound (combined_of rule) (Combined rule) ins out need
sound Add ins out need f any param args points point c ps p h r =
    two_sound sum_of IsSum sum_sound args points point (rw f.1 at p) h r
sound Sub ins out need f any param args points point c ps p h r =
    two_sound difference_of (λ z x y. IsSum x y z) difference_sound args points point (rw f.1 at p)
    h r
sound Mul ins out need f any param args points point c ps p h r =
    scale_sound (λ k x y. product_of x y k) IsProduct
    (λ k s a b x y z. product_sound a b k x y z (at_least_one k s)) param args points point
    (rw f.1 at p) h r
sound Div ins out need f any param args points point c ps p h r =
    scale_sound (λ k z y. quotient_of z y k) (λ k z y x. IsProduct k x y z)
    (λ k s a b z y x. quotient_sound a b k z y x (at_least_one k s)) param args points point
    (rw f.1 at p) h r
sound Square ins out need f any param args points point c ps p h r =
    one_sound square_of IsSquare square_sound args points point (rw f.1 at p) h r
sound Root ins out need f any param args points point c ps p h r =
    rooter_sound args points point (rw f.1 at p) h r
sound Less ins out need f any param args points point c ps p h r =
    lesser_sound args points point (rw f.1 at p) h r
sound Below ins out need f any param args points point c ps p h r =
    by_truth_sound below_of (λ t y x. SaysLess x y t) below_sound any args points point
    (rw f.0 at ps) (rw f.1 at p) h r
sound Above ins out need f any param args points point c ps p h r =
    by_truth_sound above_of (λ t x y. SaysLess x y t) above_sound any args points point
    (rw f.0 at ps) (rw f.1 at p) h r
sound Copy ins out need f any param args points point c ps p h r = by args points h r
  where
    by : (args : List Info) (points : List Point) → EachHolds args points → RelatesSame points point
        → Holds (at_one (λ x. x) args) point
    by (x ∷ []) (q ∷ []) h r = rw r h.0
    by args points h r = search rules
sound Alike ins out need f any param args points point c ps p h r =
    comparer_sound args points point (rw f.1 at p) h r
sound Apart ins out need f any param args points point c ps p h r =
    parter_sound args points point h r
sound Switch ins out need f any param args points point c ps p h r =
    passer_sound args points point h r
sound Not ins out need f any param args points point c ps p h r =
    truth_sound not_of IsNot not_sound any args points point (rw f.0 at ps) (rw f.1 at p) h r
sound And ins out need f any param args points point c ps p h r =
    truths_sound and_of IsAnd and_sound any args points point (rw f.0 at ps) (rw f.1 at p) h r
sound AndBack ins out need f any param args points point c ps p h r =
    truths_sound and_back_of (λ z y x. IsAnd x y z) and_back_sound any args points point
    (rw f.0 at ps) (rw f.1 at p) h r
sound Or ins out need f any param args points point c ps p h r =
    truths_sound or_of IsOr or_sound any args points point (rw f.0 at ps) (rw f.1 at p) h r
sound OrBack ins out need f any param args points point c ps p h r =
    truths_sound or_back_of (λ z y x. IsOr x y z) or_back_sound any args points point (rw f.0 at ps)
    (rw f.1 at p) h r
sound Image ins out need f any param args points point c ps p h r =
    rows_sound image_of HasPair image_sound param args points point h r
sound Coimage ins out need f any param args points point c ps p h r =
    rows_sound coimage_of (λ m j i. HasPair m i j) coimage_sound param args points point h r

-- ---- and so by the tables

pub kit_monotone : (rule : Kit) (ins : List Shape) (out : Shape) (need : Need)
    → FormOf rule ins out need → IsMonotone (value_of rule) ins need
kit_monotone rule ins out need f =
    subst (λ (P : Type 0). P) (λ i. IsMonotone (λ param args. value_is rule param args i) ins need)
    (monotone rule ins out need f)

pub kit_keeps_kind : (rule : Kit) (ins : List Shape) (out : Shape) (need : Need)
    → FormOf rule ins out need → KeepsKind (value_of rule) ins out need
kit_keeps_kind rule ins out need f =
    subst (λ (P : Type 0). P) (λ i.
    KeepsKind (λ param args. value_is rule param args i) ins out need)
    (keeps_kind rule ins out need f)

pub kit_sound : (rule : Kit) (ins : List Shape) (out : Shape) (need : Need)
    → FormOf rule ins out need → IsSound (value_of rule) (Related rule) ins out need
kit_sound rule ins out need f =
    subst (λ (P : Type 0). P) (λ i.
    IsSound (λ param args. value_is rule param args i)
    (λ param points point. related_is rule param points point i) ins out need)
    (sound rule ins out need f)

-- ---- each stands in its one form, with one to three inputs

pub kit_formed : (rule : Kit)
    → FormOf rule (form_of rule).ins (form_of rule).out (form_of rule).need
kit_formed rule = (refl, refl, refl)

pub kit_few : (rule : Kit) → HasFewInputs (form_of rule)
kit_few Add = (omega arith, omega arith)
kit_few Sub = (omega arith, omega arith)
kit_few Mul = (omega arith, omega arith)
kit_few Div = (omega arith, omega arith)
kit_few Square = (omega arith, omega arith)
kit_few Root = (omega arith, omega arith)
kit_few Less = (omega arith, omega arith)
kit_few Below = (omega arith, omega arith)
kit_few Above = (omega arith, omega arith)
kit_few Copy = (omega arith, omega arith)
kit_few Alike = (omega arith, omega arith)
kit_few Apart = (omega arith, omega arith)
kit_few Switch = (omega arith, omega arith)
kit_few Not = (omega arith, omega arith)
kit_few And = (omega arith, omega arith)
kit_few AndBack = (omega arith, omega arith)
kit_few Or = (omega arith, omega arith)
kit_few OrBack = (omega arith, omega arith)
kit_few Image = (omega arith, omega arith)
kit_few Coimage = (omega arith, omega arith)
