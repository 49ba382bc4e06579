-- From what is the narrowest of numbers and of truths to answers at lists of arguments.
use Rattle.std.specs.Prelude.{◌≡◌, suc, zero, ℤ, neg_ℤ, ◌≤ℤ◌, Bool, true, false}
use Rattle.std.specs.Prelude.{List, [], ◌∷◌, if◌then◌else◌}
use Rattle.std.proofs.Common.{arith, refl, sym, subst}
use Rattle.std.proofs.lemmas.Int.{ints}
use Rattle.prop_arith.specs.laws.Combined.{RelatesOne, RelatesTwo, at_one, at_two}
use Rattle.prop_intervals.specs.Comparisons.{yes_bits, no_bits}
use Rattle.prop_intervals.specs.laws.Relations.{IsInRange}
use Rattle.prop_lattice.specs.Points.{Point, Number, Element, Symbol, Holds, IsPointOf}
use Rattle.prop_lattice.specs.Rank.{IsOf}
use Rattle.prop_lattice.specs.declared.span.TheConstants.{B}
use Rattle.prop_lattice.specs.declared.span.Span as spans
use Rattle.prop_lattice.specs.declared.info.Info.{Info}
use Rattle.prop_lattice.specs.declared.info.Info.TheVariants as infos
use Rattle.prop_lattice.specs.declared.info.Info.TheVariants.{Nothing, Set, Sym, Contradiction}
use Rattle.prop_lattice.specs.declared.info.Kind.TheVariants as kinds
use Rattle.prop_procedures.specs.declared.shape.Kinded.{Kinded}
use Rattle.prop_procedures.specs.declared.shape.Need.TheVariants as needs
use Rattle.prop_procedures.specs.declared.shape.Param.{Param}
use Rattle.prop_procedures.specs.declared.shape.Param.TheVariants.{Plain, Scale, Rows}
use Rattle.prop_procedures.specs.declared.shape.Shape.{Shape}
use Rattle.prop_procedures.specs.declared.shape.Shape.TheVariants.{Span}
use Rattle.prop_procedures.specs.Rules.{AreClear, is_scale}
use Rattle.prop_procedures.specs.inner.Places.{Admits}
use Rattle.prop_procedures.specs.inner.Places.{AreOf}
use Rattle.prop_sets.specs.laws.NarrowestLaws.{bit_from_held}
use Rattle.prop_wide.specs.Answers.{Belongs}
use Rattle.prop_wide.specs.Narrowest.{IsNarrowest, BelongsToOne, BelongsToTwo, OneIsNarrowest}
use Rattle.prop_wide.specs.Narrowest.{TwoIsNarrowest}
use Rattle.prop_wide.specs.Points.{RelatesAtScale}
use Rattle.prop_wide.specs.Truths.{told_of}
use Rattle.prop_wide.specs.Values.{at_a_scale}

-- no point is left out by another information of the kind which leaves all that belong
abbrev pub IsWithin : (Shape → Kinded) → List Shape → Kinded → (List Point → Point → Type 0)
    → List Info → Info → Type 0
IsWithin any ins out related args r =
    (other : Info) → IsOf out.kind out.size other
    → ((p : Point) → IsPointOf out.kind out.size p → Belongs any ins related args p
    → Holds other p)
    → (p : Point) → IsPointOf out.kind out.size p → Holds r p → Holds other p

abbrev pub of_numbers : Kinded
of_numbers = record { kind = kinds.Span; size = 0 }

abbrev pub of_truths : Kinded
of_truths = record { kind = kinds.Set 0; size = 2 }

-- ---- numbers

abbrev greatest_alone : spans.Span
greatest_alone = record {
  lo = B;
  hi = B;
  above = omega (arith, ints);
  ordered = omega (arith, ints);
  below = omega (arith, ints);
}

abbrev least_alone : spans.Span
least_alone = record {
  lo = neg_ℤ B;
  hi = neg_ℤ B;
  above = omega (arith, ints);
  ordered = omega (arith, ints);
  below = omega (arith, ints);
}

pub number_within : (P : ℤ → Type 0) (r : Info) → IsNarrowest P r → (other : Info)
    → IsOf kinds.Span 0 other → ((v : ℤ) → IsInRange v → P v → Holds other (Number v))
    → (p : Point) → IsPointOf kinds.Span 0 p → Holds r p → Holds other p
number_within P r n Nothing o h p i e = tt
number_within P r n (infos.Span s) o h (Number v) i e = n.within s h v i e
number_within P r n Contradiction o h (Number v) i e = apart v
    (n.within greatest_alone (λ u j q. absurd (h u j q)) v i e)
    (n.within least_alone (λ u j q. absurd (h u j q)) v i e)
  where
    apart : (v : ℤ) → (B ≤ℤ v) × (v ≤ℤ B) → (neg_ℤ B ≤ℤ v) × (v ≤ℤ neg_ℤ B) → ⊥
    apart v p q = omega (arith, ints, p.0, q.1)
number_within P r n other o h (Element t) i e = absurd i
number_within P r n other o h (Symbol t) i e = absurd i
number_within P r n (Set s) o h (Number v) i e = absurd o
number_within P r n (Sym s) o h (Number v) i e = absurd o

pub one_answer : (related : ℤ → ℤ → Type 0) (any : Shape → Kinded) (x r : Info)
    → IsNarrowest (BelongsToOne related x) r
    → IsWithin any (Span ∷ []) of_numbers (RelatesOne related) (x ∷ []) r
one_answer related any x r n other o h =
    number_within (BelongsToOne related x) r n other o
    (λ w i b. h (Number w) i (record {
      points = Number b.0 ∷ [];
      of_kinds = (b.1.in_range, tt);
      held = (b.1.held, tt);
      belongs = b.2;
    }))

pub one_within : (f : Info → Info) (related : ℤ → ℤ → Type 0) → OneIsNarrowest f related
    → (any : Shape → Kinded) (args : List Info) → AreOf any (Span ∷ []) args → AreClear args
    → IsWithin any (Span ∷ []) of_numbers (RelatesOne related) args (at_one f args)
one_within f related n any (x ∷ []) k c =
    one_answer related any x (f x) (n x (record { of_kind = k.0; clear = c.0 }))
one_within f related n any [] k c = absurd k
one_within f related n any (x ∷ y ∷ args) k c = absurd k.1

pub two_within : (f : Info → Info → Info) (related : ℤ → ℤ → ℤ → Type 0)
    → TwoIsNarrowest f related → (any : Shape → Kinded) (args : List Info)
    → AreOf any (Span ∷ Span ∷ []) args → AreClear args
    → IsWithin any (Span ∷ Span ∷ []) of_numbers (RelatesTwo related) args (at_two f args)
two_within f related n any (x ∷ y ∷ []) k c other o h =
    number_within (BelongsToTwo related x y) (f x y)
    (n x y (record { of_kind = k.0; clear = c.0 }) (record { of_kind = k.1.0; clear = c.1.0 }))
    other o
    (λ w i b. h (Number w) i (record {
      points = Number b.0 ∷ Number b.1 ∷ [];
      of_kinds = (b.2.in_range, (b.3.in_range, tt));
      held = (b.2.held, (b.3.held, tt));
      belongs = b.4;
    }))
two_within f related n any [] k c other o h = absurd k
two_within f related n any (x ∷ []) k c other o h = absurd k.1
two_within f related n any (x ∷ y ∷ z ∷ args) k c other o h = absurd k.1.1

-- ---- at a scale

pub at_a_scale_within : (f : ℤ → List Info → Info) (related : ℤ → List Point → Point → Type 0)
    (any : Shape → Kinded) (ins : List Shape) (param : Param) (args : List Info)
    → Admits needs.Scale param
    → ((k : ℤ) → is_scale k ≡ true → IsWithin any ins of_numbers (related k) args (f k args))
    → IsWithin any ins of_numbers (RelatesAtScale related param) args (at_a_scale f param args)
at_a_scale_within f related any ins Plain args a h = absurd a
at_a_scale_within f related any ins (Rows m) args a h = absurd a
at_a_scale_within f related any ins (Scale k) args a h =
    subst (λ s. IsWithin any ins of_numbers (related k) args (if s then f k args else Nothing))
    (sym a) (h k a)

-- ---- truths

yes_from : (y n : Bool) → Holds (told_of y n) (Element 0) → y ≡ true
yes_from true n h = refl
yes_from false false h = absurd h
yes_from false true h = absurd (omega (arith, bit_from_held no_bits 0 h))

no_from : (y n : Bool) → Holds (told_of y n) (Element 1) → n ≡ true
no_from y true h = refl
no_from false false h = absurd h
no_from true false h = absurd (omega (arith, bit_from_held yes_bits 1 h))

pub told_within : (y n : Bool) (other : Info) → (y ≡ true → Holds other (Element 0))
    → (n ≡ true → Holds other (Element 1)) → (p : Point) → IsPointOf (kinds.Set 0) 2 p
    → Holds (told_of y n) p → Holds other p
told_within y n other first second (Element zero) i e = first (yes_from y n e)
told_within y n other first second (Element (suc zero)) i e = second (no_from y n e)
told_within y n other first second (Element (suc (suc t))) i e = absurd (omega (arith, i))
told_within y n other first second (Number v) i e = absurd i
told_within y n other first second (Symbol v) i e = absurd i
