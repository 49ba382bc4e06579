-- The rules answer as narrowly as can be.
use Rattle.std.specs.Prelude.{◌≡◌, List, [], ◌∷◌}
use Rattle.std.specs.Int.{int_max, int_min}
use Rattle.std.proofs.Common.{refl, sym, subst}
use Rattle.prop_arith.specs.laws.Combined.{RelatesTwo, at_two}
use Rattle.prop_arith.specs.laws.NumberLaws.{at_least_one}
use Rattle.prop_lattice.specs.declared.info.Info.{Info}
use Rattle.prop_procedures.specs.declared.shape.Kinded.{Kinded}
use Rattle.prop_procedures.specs.declared.shape.Need.{Need}
use Rattle.prop_procedures.specs.declared.shape.Param.{Param}
use Rattle.prop_procedures.specs.declared.shape.Shape.{Shape}
use Rattle.prop_procedures.specs.declared.shape.Shape.TheVariants.{Span}
use Rattle.prop_procedures.specs.Rules.{AreClear, kind_of}
use Rattle.prop_procedures.specs.inner.Places.{Admits}
use Rattle.prop_procedures.specs.laws.Admitted.{may_be_given}
use Rattle.prop_procedures.specs.inner.Places.{AreOf}
use Rattle.prop_wide.specs.Answers.{EachIsNarrowest, HavePoints, IsInside}
use Rattle.prop_wide.specs.Distances.{IsDistance, abs_of, abs_back_of}
use Rattle.prop_wide.specs.Extremes.{max_of, max_back_of, min_of, min_back_of}
use Rattle.prop_wide.specs.Points.{Related}
use Rattle.prop_wide.specs.Quotients.{IsQuotient, IsRemainder, quotient_of, remainder_of}
use Rattle.prop_wide.specs.Quotients.{divisor_of}
use Rattle.prop_wide.specs.Squares.{IsSquareBy, root_of}
use Rattle.prop_wide.specs.Values.{value_of}
use Rattle.prop_wide.specs.Wide.{FormOf, AreNumberAndTruths, out_of, need_of}
use Rattle.prop_wide.specs.declared.wide.Wide.{Wide}
use Rattle.prop_wide.specs.declared.wide.Wide.TheVariants.{Max, MaxBack, Min, MinBack, Abs}
use Rattle.prop_wide.specs.declared.wide.Wide.TheVariants.{AbsBack, Choose, Decide, Count}
use Rattle.prop_wide.specs.declared.wide.Wide.TheVariants.{CountBack, Square, Root, Quotient}
use Rattle.prop_wide.specs.declared.wide.Wide.TheVariants.{Remainder, Divisor}
use Rattle.prop_wide.specs.laws.ChoiceNarrowest.{choose_within, decide_within}
use Rattle.prop_wide.specs.laws.CountNarrowest.{count_within, count_back_within}
use Rattle.prop_wide.specs.laws.DistanceNarrowest.{abs_narrowest, abs_back_narrowest}
use Rattle.prop_wide.specs.laws.ExtremeNarrowest.{max_narrowest, max_back_narrowest, min_narrowest}
use Rattle.prop_wide.specs.laws.ExtremeNarrowest.{min_back_narrowest}
use Rattle.prop_wide.specs.laws.NarrowestPoints.{IsWithin, one_within}
use Rattle.prop_wide.specs.laws.NarrowestPoints.{two_within, at_a_scale_within}
use Rattle.prop_wide.specs.laws.QuotientNarrowest.{quotient_narrowest}
use Rattle.prop_wide.specs.laws.RemainderNarrowest.{remainder_narrowest, divisor_narrowest}
use Rattle.prop_wide.specs.laws.SquareNarrowest.{square_within, root_narrowest}
use Rattle.prop_wide.specs.laws.WideLaws.{wide_sound}

-- a call's answer, at these shapes and this parameter
abbrev IsAnswer : Wide → (Shape → Kinded) → Param → List Info → List Shape → Shape → Need → Type 0
IsAnswer rule any param args ins out need =
    Admits need param → AreOf any ins args → AreClear args → HavePoints any ins
    → IsInside rule param args →
    IsWithin any ins (kind_of any out) (Related rule param) args (value_of rule param args)

-- it is as narrow where the shapes and the parameter are those of the rule
of_form : (rule : Wide) (any : Shape → Kinded) (param : Param) (args : List Info)
    (ins shapes : List Shape) (out : Shape) (need : Need) → ins ≡ shapes → out ≡ out_of rule
    → need ≡ need_of rule → IsAnswer rule any param args shapes (out_of rule) (need_of rule)
    → IsAnswer rule any param args ins out need
of_form rule any param args ins shapes out need e f g h =
    subst (λ (P : Type 0). P)
    (λ i. IsAnswer rule any param args (sym e i) (sym f i) (sym g i)) h

count_back_answer : (any : Shape → Kinded) (param : Param) (args : List Info) (ins : List Shape)
    → AreNumberAndTruths ins
    → IsAnswer CountBack any param args ins (out_of CountBack) (need_of CountBack)
count_back_answer any param (n ∷ others) (s ∷ ins) f =
    subst (λ s. IsAnswer CountBack any param (n ∷ others) (s ∷ ins) (out_of CountBack)
    (need_of CountBack)) (sym f.0)
    (λ a k c p u. count_back_within any ins n others f.1 k c)
count_back_answer any param args [] f = absurd f
count_back_answer any param [] (s ∷ ins) f = λ a k c p u. absurd k

pub wide_within : (rule : Wide) (ins : List Shape) (out : Shape) (need : Need)
    → FormOf rule ins out need → (any : Shape → Kinded) (param : Param) (args : List Info)
    → IsAnswer rule any param args ins out need
wide_within Max ins out need f any param args =
    of_form Max any param args ins _ out need f.0 f.1 f.2
    (λ a k c p u. two_within max_of (λ x y z. z ≡ int_max x y) max_narrowest any args k c)
wide_within MaxBack ins out need f any param args =
    of_form MaxBack any param args ins _ out need f.0 f.1 f.2
    (λ a k c p u. two_within max_back_of (λ z y x. z ≡ int_max x y) max_back_narrowest any args k
    c)
wide_within Min ins out need f any param args =
    of_form Min any param args ins _ out need f.0 f.1 f.2
    (λ a k c p u. two_within min_of (λ x y z. z ≡ int_min x y) min_narrowest any args k c)
wide_within MinBack ins out need f any param args =
    of_form MinBack any param args ins _ out need f.0 f.1 f.2
    (λ a k c p u. two_within min_back_of (λ z y x. z ≡ int_min x y) min_back_narrowest any args k
    c)
wide_within Abs ins out need f any param args =
    of_form Abs any param args ins _ out need f.0 f.1 f.2
    (λ a k c p u. one_within abs_of IsDistance abs_narrowest any args k c)
wide_within AbsBack ins out need f any param args =
    of_form AbsBack any param args ins _ out need f.0 f.1 f.2
    (λ a k c p u. two_within abs_back_of (λ y x v. (v ≡ x) × IsDistance x y) abs_back_narrowest any
    args k c)
wide_within Choose ins out need f any param args =
    of_form Choose any param args ins _ out need f.0 f.1 f.2
    (λ a k c p u. choose_within any args k c p)
wide_within Decide ins out need f any param args =
    of_form Decide any param args ins _ out need f.0 f.1 f.2
    (λ a k c p u. decide_within any args k c p)
wide_within Count ins out need f any param args =
    of_form Count any param args ins ins out need refl f.1 f.2
    (λ a k c p u. count_within any ins args f.0 k c)
wide_within CountBack ins out need f any param args =
    of_form CountBack any param args ins ins out need refl f.1 f.2
    (count_back_answer any param args ins f.0)
wide_within Square ins out need f any param args =
    of_form Square any param args ins _ out need f.0 f.1 f.2
    (λ a k c p u. square_within any param args a k c u)
wide_within Root ins out need f any param args =
    of_form Root any param args ins _ out need f.0 f.1 f.2
    (λ a k c p u. at_a_scale_within (λ k. at_two (root_of k))
    (λ k. RelatesTwo (λ y x v. (v ≡ x) × IsSquareBy k x y)) any (Span ∷ Span ∷ []) param args a
    (λ s e. two_within (root_of s) (λ y x v. (v ≡ x) × IsSquareBy s x y)
    (root_narrowest s (at_least_one s e)) any args k c))
wide_within Quotient ins out need f any param args =
    of_form Quotient any param args ins _ out need f.0 f.1 f.2
    (λ a k c p u. two_within quotient_of IsQuotient quotient_narrowest any args k c)
wide_within Remainder ins out need f any param args =
    of_form Remainder any param args ins _ out need f.0 f.1 f.2
    (λ a k c p u. one_within remainder_of IsRemainder remainder_narrowest any args k c)
wide_within Divisor ins out need f any param args =
    of_form Divisor any param args ins _ out need f.0 f.1 f.2
    (λ a k c p u. two_within divisor_of (λ r y v. (v ≡ y) × IsRemainder y r) divisor_narrowest any
    args k c)

pub wide_narrowest : EachIsNarrowest
wide_narrowest rule ins out need f any param args c p u = record {
  holds = λ q i b. wide_sound rule ins out need f any param args b.points q c b.of_kinds i b.held
      b.belongs;
  within = wide_within rule ins out need f any param args
      (may_be_given need param c.admits) c.of_kinds c.clear p u;
}
