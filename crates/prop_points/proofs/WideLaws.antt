-- Of single points the rules beside the kit's answer those that belong to them.
use Rattle.std.specs.Prelude.{◌≡◌, ℤ, Bool, true, false, List, [], ◌∷◌, if◌then◌else◌}
use Rattle.prop_intervals.specs.laws.Relations.{IsInRange}
use Rattle.prop_lattice.specs.Points.{Point, Number, Holds, IsPointOf}
use Rattle.prop_lattice.specs.declared.info.Info.{Info}
use Rattle.prop_lattice.specs.declared.info.Info.TheVariants.{Nothing, Span}
use Rattle.prop_lattice.specs.declared.info.Kind.TheVariants as kinds
use Rattle.prop_lattice.specs.declared.span.Span as spans
use Rattle.prop_procedures.specs.declared.shape.Kinded.{Kinded}
use Rattle.prop_procedures.specs.declared.shape.Need.TheVariants as needs
use Rattle.prop_procedures.specs.declared.shape.Param.{Param}
use Rattle.prop_procedures.specs.declared.shape.Param.TheVariants.{Plain, Scale, Rows}
use Rattle.prop_procedures.specs.declared.shape.Shape.{Shape}
use Rattle.prop_procedures.specs.declared.shape.Shape.TheVariants as shapes
use Rattle.prop_procedures.specs.laws.Admitted.{may_be_given}
use Rattle.prop_procedures.specs.Rules.{is_scale}
use Rattle.prop_procedures.specs.inner.Places.{Admits}
use Rattle.prop_procedures.specs.inner.Places.{AreOf}
use Rattle.prop_arith.specs.laws.NumberLaws.{at_least_one}
use Rattle.prop_hall.specs.laws.HullLaws.{never}
use Rattle.prop_wide.specs.Points.{Related}
use Rattle.prop_wide.specs.Squares.{root_of, square_of}
use Rattle.prop_wide.specs.Values.{value_of}
use Rattle.prop_wide.specs.Wide.{AreTruths}
use Rattle.prop_wide.specs.declared.wide.Wide.TheVariants.{Max, MaxBack, Min, MinBack, Abs, AbsBack, Choose, Decide}
use Rattle.prop_wide.specs.declared.wide.Wide.TheVariants.{Count, CountBack, Square, Root, Quotient, Remainder, Divisor}
use Rattle.prop_points.specs.Singles.{IsSingle, AreSingle}
use Rattle.prop_points.specs.Wide.{WideIsExact}
use Rattle.prop_points.proofs.Arguments.{number_in, element_in, number_out, element_out, three_in}
use Rattle.prop_points.proofs.KitLaws.{one_number, two_numbers}
use Rattle.prop_points.proofs.WideNumbers.{max_exact, max_back_exact, min_exact, min_back_exact, abs_exact}
use Rattle.prop_points.proofs.WideNumbers.{abs_back_exact, square_exact, root_exact, quotient_exact, remainder_exact}
use Rattle.prop_points.proofs.WideNumbers.{divisor_exact}
use Rattle.prop_points.proofs.WideTruths.{choose_exact, decide_exact, counts, count_exact, count_back_exact}

chosen : (any : Shape → Kinded) (param : Param) (args : List Info) (points : List Point) (point : Point)
    → AreOf any (shapes.Truth ∷ shapes.Any 0 ∷ shapes.Any 0 ∷ []) args → AreSingle args points
    → Holds (value_of Choose param args) point → Related Choose param points point
chosen any param args points point o e =
    three_in any (λ infos ps. Holds (value_of Choose param infos) point → Related Choose param ps point)
    shapes.Truth (shapes.Any 0) (shapes.Any 0) args points o e (λ t a b i p q k d f g.
    element_in 0 2 t i (λ c r. Holds (value_of Choose param (c ∷ a ∷ b ∷ [])) point
    → Related Choose param (r ∷ p ∷ q ∷ []) point) k d (λ s j l d h.
    choose_exact s a b j p q point l d f g h))

decided : (any : Shape → Kinded) (param : Param) (args : List Info) (points : List Point) (point : Point)
    → AreOf any (shapes.Any 0 ∷ shapes.Any 0 ∷ shapes.Any 0 ∷ []) args → AreSingle args points
    → IsPointOf (kinds.Set 0) 2 point → Holds (value_of Decide param args) point
    → Related Decide param points point
decided any param args points point o e p =
    three_in any (λ infos ps. Holds (value_of Decide param infos) point → Related Decide param ps point)
    (shapes.Any 0) (shapes.Any 0) (shapes.Any 0) args points o e (λ a b c q r u k d f g.
    element_out 0 2 point (λ w. Holds (value_of Decide param (a ∷ b ∷ c ∷ [])) w
    → Related Decide param (q ∷ r ∷ u ∷ []) w) p (λ t l h. decide_exact a b c q r u t d f g h))

counted : (any : Shape → Kinded) (param : Param) (ins : List Shape) → AreTruths ins → (args : List Info)
    (points : List Point) (point : Point) → AreOf any ins args → AreSingle args points → IsPointOf kinds.Span 0 point
    → Holds (value_of Count param args) point → Related Count param points point
counted any param ins t args points point o e p =
    number_out 0 point (λ w. Holds (value_of Count param args) w → Related Count param points w) p
    (λ n i h. count_exact args points n (counts any ins args points t o e) h)

last_counted : (any : Shape → Kinded) (param : Param) (ins : List Shape) → AreTruths ins → (args : List Info)
    (points : List Point) (point : Point) → AreOf any (shapes.Span ∷ ins) args → AreSingle args points
    → IsPointOf (kinds.Set 0) 2 point → Holds (value_of CountBack param args) point
    → Related CountBack param points point
last_counted any param ins t (n ∷ others) (p ∷ ps) point o e q =
    number_in 0 n p (λ a r. Holds (value_of CountBack param (a ∷ others)) point
    → Related CountBack param (r ∷ ps) point) o.0 e.0 (λ s v d.
    element_out 0 2 point (λ w. Holds (value_of CountBack param (Span s ∷ others)) w
    → Related CountBack param (Number v ∷ ps) w) q (λ i l h.
    count_back_exact s others ps v i l d (counts any ins others ps t o.1 e.1) h))
last_counted any param ins t [] points point o e q = absurd o
last_counted any param ins t (n ∷ others) [] point o e q = absurd e

squared : (any : Shape → Kinded) (param : Param) → Admits needs.Scale param → (args : List Info)
    (points : List Point) (point : Point) → AreOf any (shapes.Span ∷ []) args → AreSingle args points
    → IsPointOf kinds.Span 0 point → Holds (value_of Square param args) point → Related Square param points point
squared any (Scale k) s =
    one_number any (value_of Square (Scale k)) (Related Square (Scale k)) (λ a x y i d h.
    by a x y d (is_scale k) s h)
  where
    by : (a : spans.Span) (x y : ℤ) → IsSingle (Span a) (Number x) → (t : Bool) → t ≡ true
        → Holds (if t then square_of k (Span a) else Nothing) (Number y)
        → Related Square (Scale k) (Number x ∷ []) (Number y)
    by a x y d true e h = square_exact k (at_least_one k s) a x y d h
    by a x y d false e h = absurd (never e)
squared any Plain s = absurd s
squared any (Rows m) s = absurd s

rooted : (any : Shape → Kinded) (param : Param) → Admits needs.Scale param → (args : List Info)
    (points : List Point) (point : Point) → AreOf any (shapes.Span ∷ shapes.Span ∷ []) args → AreSingle args points
    → IsPointOf kinds.Span 0 point → Holds (value_of Root param args) point → Related Root param points point
rooted any (Scale k) s =
    two_numbers any (value_of Root (Scale k)) (Related Root (Scale k)) (λ b a y x v i d e h.
    by b a y x v i d e (is_scale k) s h)
  where
    by : (b a : spans.Span) (y x v : ℤ) → IsInRange v → IsSingle (Span b) (Number y) → IsSingle (Span a) (Number x)
        → (t : Bool) → t ≡ true → Holds (if t then root_of k (Span b) (Span a) else Nothing) (Number v)
        → Related Root (Scale k) (Number y ∷ Number x ∷ []) (Number v)
    by b a y x v i d e true g h = root_exact k (at_least_one k s) b a y x v i d e h
    by b a y x v i d e false g h = absurd (never g)
rooted any Plain s = absurd s
rooted any (Rows m) s = absurd s

pub wide_is_exact : WideIsExact
wide_is_exact Max ins out need f any param args points point c e p =
    two_numbers any (value_of Max param) (Related Max param) max_exact args points point
    (rw f.0 at c.of_kinds) e (rw f.1 at p)
wide_is_exact MaxBack ins out need f any param args points point c e p =
    two_numbers any (value_of MaxBack param) (Related MaxBack param) max_back_exact args points point
    (rw f.0 at c.of_kinds) e (rw f.1 at p)
wide_is_exact Min ins out need f any param args points point c e p =
    two_numbers any (value_of Min param) (Related Min param) min_exact args points point
    (rw f.0 at c.of_kinds) e (rw f.1 at p)
wide_is_exact MinBack ins out need f any param args points point c e p =
    two_numbers any (value_of MinBack param) (Related MinBack param) min_back_exact args points point
    (rw f.0 at c.of_kinds) e (rw f.1 at p)
wide_is_exact Abs ins out need f any param args points point c e p =
    one_number any (value_of Abs param) (Related Abs param) abs_exact args points point
    (rw f.0 at c.of_kinds) e (rw f.1 at p)
wide_is_exact AbsBack ins out need f any param args points point c e p =
    two_numbers any (value_of AbsBack param) (Related AbsBack param) abs_back_exact args points point
    (rw f.0 at c.of_kinds) e (rw f.1 at p)
wide_is_exact Choose ins out need f any param args points point c e p =
    chosen any param args points point (rw f.0 at c.of_kinds) e
wide_is_exact Decide ins out need f any param args points point c e p =
    decided any param args points point (rw f.0 at c.of_kinds) e (rw f.1 at p)
wide_is_exact Count ins out need f any param args points point c e p =
    counted any param ins f.0 args points point c.of_kinds e (rw f.1 at p)
wide_is_exact CountBack [] out need f any param args points point c e p = absurd f.0
wide_is_exact CountBack (s ∷ ins) out need f any param args points point c e p =
    last_counted any param ins f.0.1 args points point (rw f.0.0 at c.of_kinds) e (rw f.1 at p)
wide_is_exact Square ins out need f any param args points point c e p =
    squared any param (rw f.2 at (may_be_given need param c.admits)) args points point (rw f.0 at c.of_kinds) e
    (rw f.1 at p)
wide_is_exact Root ins out need f any param args points point c e p =
    rooted any param (rw f.2 at (may_be_given need param c.admits)) args points point (rw f.0 at c.of_kinds) e
    (rw f.1 at p)
wide_is_exact Quotient ins out need f any param args points point c e p =
    two_numbers any (value_of Quotient param) (Related Quotient param) quotient_exact args points point
    (rw f.0 at c.of_kinds) e (rw f.1 at p)
wide_is_exact Remainder ins out need f any param args points point c e p =
    one_number any (value_of Remainder param) (Related Remainder param) remainder_exact args points point
    (rw f.0 at c.of_kinds) e (rw f.1 at p)
wide_is_exact Divisor ins out need f any param args points point c e p =
    two_numbers any (value_of Divisor param) (Related Divisor param) divisor_exact args points point
    (rw f.0 at c.of_kinds) e (rw f.1 at p)
