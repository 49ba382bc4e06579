-- The laws of what is seen at a glance of an information.
use Rattle.std.specs.Prelude.{◌≡◌, ℤ, Bool, true, false, ◌||◌, Some}
use Rattle.std.specs.Bool.{then_some}
use Rattle.std.specs.Ordering.{int_eq}
use Rattle.std.proofs.Common.{arith, refl, ap, sym, subst, ◌∙◌}
use Rattle.std.proofs.lemmas.Bool.Decides.{Decides-int_eq}
use Rattle.std.proofs.lemmas.Int.{ints}
use Rattle.std.proofs.lemmas.Option.{same_Some, none-some}
use Rattle.prop_lattice.proofs.EndLemmas.{span_from-ends}
use Rattle.prop_lattice.specs.Points.{Point, Number, Element, Symbol, Holds}
use Rattle.prop_lattice.specs.declared.info.Info.{Info}
use Rattle.prop_lattice.specs.declared.info.Info.TheVariants.{Nothing, Span, Set, Sym}
use Rattle.prop_lattice.specs.declared.info.Info.TheVariants.{Contradiction}
use Rattle.prop_lattice.specs.declared.span.Span as spans
use Rattle.prop_sets.specs.Truth.{is_nothing}
use Rattle.prop_arith.specs.laws.SingleLaws.{never}
use Rattle.prop_guards.specs.Known.{number_of, just}

pub nothing_is : (x : Info) → is_nothing x ≡ true → x ≡ Nothing
nothing_is Nothing e = refl
nothing_is (Span a) e = absurd (never e)
nothing_is (Set s) e = absurd (never e)
nothing_is (Sym a) e = absurd (never e)
nothing_is Contradiction e = absurd (never e)

pub or_first : (b : Bool) → (b || false) ≡ true → b ≡ true
or_first true e = refl
or_first false e = e

-- the information is the span from v to v
pub record IsJust (x : Info) (v : ℤ) : Type 0 where
  pub span : spans.Span
  pub is : x ≡ Span span
  pub lo : span.lo ≡ v
  pub hi : span.hi ≡ v

pub number_is : (x : Info) (v : ℤ) → number_of x ≡ Some v → IsJust x v
number_is (Span a) v e = by (int_eq a.lo a.hi) refl e
  where
    by : (s : Bool) → int_eq a.lo a.hi ≡ s → then_some s a.lo ≡ Some v → IsJust (Span a) v
    by true f g =
        let first : a.lo ≡ v = same_Some a.lo v g in
        record {
          span = a;
          is = refl;
          lo = first;
          hi = sym ((Decides-int_eq a.lo a.hi).0 f) ∙ first;
        }
    by false f g = absurd (none-some v g)
number_is Nothing v e = absurd (none-some v e)
number_is (Set s) v e = absurd (none-some v e)
number_is (Sym a) v e = absurd (none-some v e)
number_is Contradiction v e = absurd (none-some v e)

-- an information that is just v holds no other point
pub just_holds : (x : Info) (v : ℤ) → IsJust x v → (p : Point) → Holds x p → p ≡ Number v
just_holds x v j p h = by p (subst (λ a. Holds a p) j.is h)
  where
    by : (p : Point) → Holds (Span j.span) p → p ≡ Number v
    by (Number u) h = ap Number (omega (arith, ints, h.0, h.1, j.lo, j.hi))
    by (Element i) h = absurd h
    by (Symbol n) h = absurd h

pub just_is : (x : Info) (v : ℤ) → IsJust x v → just v ≡ x
just_is x v j = span_from-ends v v j.span j.lo j.hi ∙ sym j.is
