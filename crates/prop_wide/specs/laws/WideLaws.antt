-- The laws of the rules.
use Rattle.std.specs.Prelude.{◌≡◌, List, [], ◌∷◌}
use Rattle.std.specs.Int.{int_max, int_min}
use Rattle.std.proofs.Common.{rules}
use Rattle.prop_lattice.specs.Order.{Below}
use Rattle.prop_lattice.specs.Points.{Point, Number, Element, Holds, IsPointOf}
use Rattle.prop_lattice.specs.Rank.{IsOf}
use Rattle.prop_lattice.specs.declared.info.Info.{Info}
use Rattle.prop_lattice.specs.declared.info.Kind.TheVariants as kinds
use Rattle.prop_procedures.specs.declared.shape.Kinded.{Kinded}
use Rattle.prop_procedures.specs.declared.shape.Param.{Param}
use Rattle.prop_procedures.specs.declared.shape.Shape.{Shape}
use Rattle.prop_procedures.specs.declared.shape.Shape.TheVariants.{Span}
use Rattle.prop_procedures.specs.declared.shape.Need.{Need}
use Rattle.prop_procedures.specs.Rules.{IsMonotone, KeepsKind, IsSound, EachBelow, EachHolds}
use Rattle.prop_procedures.specs.Rules.{AreClear}
use Rattle.prop_procedures.specs.inner.Places.{ArePointsOf}
use Rattle.prop_arith.specs.laws.ArgumentLaws.{one_below, one_kind, two_below, two_kind}
use Rattle.prop_arith.specs.laws.ArgumentLaws.{three_below}
use Rattle.prop_arith.specs.laws.Combined.{RelatesOne, RelatesTwo, at_one, at_two}
use Rattle.prop_arith.specs.laws.NumberLaws.{at_least_one}
use Rattle.prop_wide.specs.declared.wide.Wide.{Wide}
use Rattle.prop_wide.specs.declared.wide.Wide.TheVariants.{Max, MaxBack, Min, MinBack, Abs}
use Rattle.prop_wide.specs.declared.wide.Wide.TheVariants.{AbsBack, Choose, Decide, Count}
use Rattle.prop_wide.specs.declared.wide.Wide.TheVariants.{CountBack, Square, Root, Quotient}
use Rattle.prop_wide.specs.declared.wide.Wide.TheVariants.{Remainder, Divisor}
use Rattle.prop_wide.specs.Choices.{choose_of, decide_of}
use Rattle.prop_wide.specs.Distances.{IsDistance, abs_of, abs_back_of}
use Rattle.prop_wide.specs.Extremes.{max_of, max_back_of, min_of, min_back_of}
use Rattle.prop_wide.specs.Points.{Related, RelatesLast}
use Rattle.prop_wide.specs.Quotients.{IsQuotient, IsRemainder, quotient_of, remainder_of}
use Rattle.prop_wide.specs.Quotients.{divisor_of}
use Rattle.prop_wide.specs.Squares.{IsSquareBy, square_of, root_of}
use Rattle.prop_wide.specs.Values.{value_of}
use Rattle.prop_wide.specs.Wide.{FormOf, AreNumberAndTruths}
use Rattle.prop_wide.specs.laws.ArgumentLaws.{one_sound, two_sound, at_a_scale_below}
use Rattle.prop_wide.specs.laws.ArgumentLaws.{at_a_scale_kind, at_a_scale_sound}
use Rattle.prop_wide.specs.laws.QuotientLaws.{quotient_below, quotient_kind, quotient_sound}
use Rattle.prop_wide.specs.laws.QuotientLaws.{remainder_below, remainder_kind, remainder_sound}
use Rattle.prop_wide.specs.laws.QuotientLaws.{divisor_below, divisor_kind, divisor_sound}
use Rattle.prop_wide.specs.laws.SquareLaws.{square_below, square_kind, square_sound, root_below}
use Rattle.prop_wide.specs.laws.SquareLaws.{root_kind, root_sound}
use Rattle.prop_wide.specs.laws.ChoiceLaws.{choose_below, choose_kind, choose_sound, decide_below}
use Rattle.prop_wide.specs.laws.ChoiceLaws.{decide_kind, decide_sound}
use Rattle.prop_wide.specs.laws.CountLaws.{count_below, count_kind, count_sound, count_back_below}
use Rattle.prop_wide.specs.laws.CountLaws.{count_back_kind, count_back_holds}
use Rattle.prop_wide.specs.laws.DistanceLaws.{abs_below, abs_kind, abs_sound, abs_back_below}
use Rattle.prop_wide.specs.laws.DistanceLaws.{abs_back_kind, abs_back_sound}
use Rattle.prop_wide.specs.laws.ExtremeLaws.{max_below, max_kind, max_sound, max_back_below}
use Rattle.prop_wide.specs.laws.ExtremeLaws.{max_back_kind, max_back_sound, min_below, min_kind}
use Rattle.prop_wide.specs.laws.ExtremeLaws.{min_sound, min_back_below, min_back_kind}
use Rattle.prop_wide.specs.laws.ExtremeLaws.{min_back_sound}

-- ---- where who knows more is answered more

count_back_monotone : (param : Param) (olds news : List Info) → EachBelow olds news → AreClear news
    → Below (value_of CountBack param olds) (value_of CountBack param news)
count_back_monotone param (n ∷ olds) (n' ∷ news) p c = count_back_below n n' olds news p.0 c.0 p.1
count_back_monotone param olds news p c = search rules

pub wide_monotone : (rule : Wide) (ins : List Shape) (out : Shape) (need : Need)
    → FormOf rule ins out need → IsMonotone (value_of rule) ins need
wide_monotone Max ins out need f any param olds news c d p =
    two_below max_of max_below olds news p d.clear
wide_monotone MaxBack ins out need f any param olds news c d p =
    two_below max_back_of max_back_below olds news p d.clear
wide_monotone Min ins out need f any param olds news c d p =
    two_below min_of min_below olds news p d.clear
wide_monotone MinBack ins out need f any param olds news c d p =
    two_below min_back_of min_back_below olds news p d.clear
wide_monotone Abs ins out need f any param olds news c d p =
    one_below abs_of abs_below olds news p d.clear
wide_monotone AbsBack ins out need f any param olds news c d p =
    two_below abs_back_of abs_back_below olds news p d.clear
wide_monotone Choose ins out need f any param olds news c d p =
    three_below choose_of choose_below olds news p d.clear
wide_monotone Decide ins out need f any param olds news c d p =
    three_below decide_of decide_below olds news p d.clear
wide_monotone Count ins out need f any param olds news c d p = count_below olds news p
wide_monotone CountBack ins out need f any param olds news c d p =
    count_back_monotone param olds news p d.clear
wide_monotone Square ins out need f any param olds news c d p =
    at_a_scale_below (λ k. at_one (square_of k))
    (λ k s. one_below (square_of k) (square_below k (at_least_one k s))) param olds news p d.clear
wide_monotone Root ins out need f any param olds news c d p =
    at_a_scale_below (λ k. at_two (root_of k))
    (λ k s. two_below (root_of k) (root_below k (at_least_one k s))) param olds news p d.clear
wide_monotone Quotient ins out need f any param olds news c d p =
    two_below quotient_of quotient_below olds news p d.clear
wide_monotone Remainder ins out need f any param olds news c d p =
    one_below remainder_of remainder_below olds news p d.clear
wide_monotone Divisor ins out need f any param olds news c d p =
    two_below divisor_of divisor_below olds news p d.clear

-- ---- answers of their kind

count_back_keeps : (param : Param) (args : List Info)
    → IsOf (kinds.Set 0) 2 (value_of CountBack param args)
count_back_keeps param (n ∷ others) = count_back_kind n others
count_back_keeps param [] = tt

pub wide_keeps_kind : (rule : Wide) (ins : List Shape) (out : Shape) (need : Need)
    → FormOf rule ins out need → KeepsKind (value_of rule) ins out need
wide_keeps_kind Max ins out need f any param args c =
    rw f.1 (two_kind kinds.Span 0 max_of max_kind args)
wide_keeps_kind MaxBack ins out need f any param args c =
    rw f.1 (two_kind kinds.Span 0 max_back_of max_back_kind args)
wide_keeps_kind Min ins out need f any param args c =
    rw f.1 (two_kind kinds.Span 0 min_of min_kind args)
wide_keeps_kind MinBack ins out need f any param args c =
    rw f.1 (two_kind kinds.Span 0 min_back_of min_back_kind args)
wide_keeps_kind Abs ins out need f any param args c =
    rw f.1 (one_kind kinds.Span 0 abs_of abs_kind args)
wide_keeps_kind AbsBack ins out need f any param args c =
    rw f.1 (two_kind kinds.Span 0 abs_back_of abs_back_kind args)
wide_keeps_kind Choose ins out need f any param args c =
    rw f.1 (choose_kind any args (rw f.0 at c.of_kinds))
wide_keeps_kind Decide ins out need f any param args c = rw f.1 (decide_kind args)
wide_keeps_kind Count ins out need f any param args c = rw f.1 (count_kind args)
wide_keeps_kind CountBack ins out need f any param args c = rw f.1 (count_back_keeps param args)
wide_keeps_kind Square ins out need f any param args c =
    rw f.1 (at_a_scale_kind (λ k. at_one (square_of k))
    (λ k. one_kind kinds.Span 0 (square_of k) (square_kind k)) param args)
wide_keeps_kind Root ins out need f any param args c =
    rw f.1 (at_a_scale_kind (λ k. at_two (root_of k))
    (λ k. two_kind kinds.Span 0 (root_of k) (root_kind k)) param args)
wide_keeps_kind Quotient ins out need f any param args c =
    rw f.1 (two_kind kinds.Span 0 quotient_of quotient_kind args)
wide_keeps_kind Remainder ins out need f any param args c =
    rw f.1 (one_kind kinds.Span 0 remainder_of remainder_kind args)
wide_keeps_kind Divisor ins out need f any param args c =
    rw f.1 (two_kind kinds.Span 0 divisor_of divisor_kind args)

-- ---- answers that hold what belongs to the arguments

count_back_sound : (any : Shape → Kinded) (ins : List Shape) (param : Param) (args : List Info)
    (points : List Point) (point : Point) → AreNumberAndTruths ins → ArePointsOf any ins points
    → IsPointOf (kinds.Set 0) 2 point → EachHolds args points → RelatesLast points point
    → Holds (value_of CountBack param args) point
count_back_sound any (s ∷ ins) param (n ∷ others) (Number v ∷ points) (Element t) f ps k e r =
    by (rw f.0 at ps.0)
  where
    by : IsPointOf kinds.Span 0 (Number v) → Holds (value_of CountBack param (n ∷ others))
        (Element t)
    by i = count_back_holds any ins n others v points t f.1 ps.1 i k e.0 e.1 r
count_back_sound any ins param args points point f ps k e r = search rules

pub wide_sound : (rule : Wide) (ins : List Shape) (out : Shape) (need : Need)
    → FormOf rule ins out need → IsSound (value_of rule) (Related rule) ins out need
wide_sound Max ins out need f any param args points point c ps p h r =
    two_sound max_of (λ x y z. z ≡ int_max x y) max_sound any args points point (rw f.0 at ps)
    (rw f.1 at p) h r
wide_sound MaxBack ins out need f any param args points point c ps p h r =
    two_sound max_back_of (λ z y x. z ≡ int_max x y) max_back_sound any args points point
    (rw f.0 at ps) (rw f.1 at p) h r
wide_sound Min ins out need f any param args points point c ps p h r =
    two_sound min_of (λ x y z. z ≡ int_min x y) min_sound any args points point (rw f.0 at ps)
    (rw f.1 at p) h r
wide_sound MinBack ins out need f any param args points point c ps p h r =
    two_sound min_back_of (λ z y x. z ≡ int_min x y) min_back_sound any args points point
    (rw f.0 at ps) (rw f.1 at p) h r
wide_sound Abs ins out need f any param args points point c ps p h r =
    one_sound abs_of IsDistance abs_sound any args points point (rw f.0 at ps) (rw f.1 at p) h r
wide_sound AbsBack ins out need f any param args points point c ps p h r =
    two_sound abs_back_of (λ y x v. (v ≡ x) × IsDistance x y) abs_back_sound any args points point
    (rw f.0 at ps) (rw f.1 at p) h r
wide_sound Choose ins out need f any param args points point c ps p h r =
    choose_sound any args points point (rw f.0 at ps) h r
wide_sound Decide ins out need f any param args points point c ps p h r =
    decide_sound args points point (rw f.1 at p) h r
wide_sound Count ins out need f any param args points point c ps p h r =
    count_sound any ins args points point f.0 ps (rw f.1 at p) h r
wide_sound CountBack ins out need f any param args points point c ps p h r =
    count_back_sound any ins param args points point f.0 ps (rw f.1 at p) h r
wide_sound Square ins out need f any param args points point c ps p h r =
    at_a_scale_sound (λ k. at_one (square_of k)) (λ k. RelatesOne (IsSquareBy k)) any (Span ∷ [])
    (λ k s. one_sound (square_of k) (IsSquareBy k) (square_sound k (at_least_one k s)) any) param
    args points point (rw f.0 at ps) (rw f.1 at p) h r
wide_sound Root ins out need f any param args points point c ps p h r =
    at_a_scale_sound (λ k. at_two (root_of k))
    (λ k. RelatesTwo (λ y x v. (v ≡ x) × IsSquareBy k x y)) any (Span ∷ Span ∷ [])
    (λ k s. two_sound (root_of k) (λ y x v. (v ≡ x) × IsSquareBy k x y)
    (root_sound k (at_least_one k s)) any) param args points point (rw f.0 at ps) (rw f.1 at p) h r
wide_sound Quotient ins out need f any param args points point c ps p h r =
    two_sound quotient_of IsQuotient quotient_sound any args points point (rw f.0 at ps)
    (rw f.1 at p) h r
wide_sound Remainder ins out need f any param args points point c ps p h r =
    one_sound remainder_of IsRemainder remainder_sound any args points point (rw f.0 at ps)
    (rw f.1 at p) h r
wide_sound Divisor ins out need f any param args points point c ps p h r =
    two_sound divisor_of (λ r y v. (v ≡ y) × IsRemainder y r) divisor_sound any args points point
    (rw f.0 at ps) (rw f.1 at p) h r
