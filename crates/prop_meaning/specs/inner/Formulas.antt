-- How operators are made of the functions of steps: which kinds they take, and what they make of
-- points.
use Rattle.std.specs.Prelude.{◌≡◌, ℕ, List, Bool, true, false, ⊤}
use Rattle.prop_lattice.specs.Points.{Point}
use Rattle.prop_lattice.specs.Points as points
use Rattle.prop_terms.specs.Meaning.{power}
use Rattle.prop_procedures.specs.declared.shape.Kinded.{Kinded}
use Rattle.prop_terms.specs.Terms.{Term, Two}
use Rattle.prop_terms.specs.declared.operators.Infix.{Infix}
use Rattle.prop_terms.specs.declared.operators.Infix.TheVariants.{Comma}
use Rattle.prop_terms.specs.declared.operators.Infix.TheVariants.{Iff, Implies, Xor, Or, And, Equal}
use Rattle.prop_terms.specs.declared.operators.Infix.TheVariants.{Unequal, Less, AtMost, Greater}
use Rattle.prop_terms.specs.declared.operators.Infix.TheVariants.{AtLeast, Plus, Minus, Times}
use Rattle.prop_terms.specs.declared.operators.Infix.TheVariants.{Over, Remainder}
use Rattle.prop_terms.specs.declared.operators.Prefix.{Prefix}
use Rattle.prop_terms.specs.declared.operators.Prefix.TheVariants as before
use Rattle.prop_meaning.specs.declared.steps.Single.TheVariants.{Abs, Not}
use Rattle.prop_meaning.specs.declared.steps.Pair.TheVariants as pairs
use Rattle.prop_meaning.specs.inner.Steps.{of_one, of_two, negative, quotient_point}
use Rattle.prop_meaning.specs.inner.Steps.{remainder_point}
use Rattle.prop_meaning.specs.Words.{Lexicon}
use Rattle.prop_meaning.specs.declared.draft.Made.{Made}
use Rattle.prop_meaning.specs.inner.Drafts.{Has, number_kind, truth_kind}

-- both sides of the operator may be of this kind
abbrev pub Takes : Infix → Kinded → Type 0
Takes Equal kinded = ⊤
Takes Unequal kinded = ⊤
Takes And kinded = kinded ≡ truth_kind
Takes Or kinded = kinded ≡ truth_kind
Takes Xor kinded = kinded ≡ truth_kind
Takes Iff kinded = kinded ≡ truth_kind
Takes Implies kinded = kinded ≡ truth_kind
Takes Less kinded = kinded ≡ number_kind
Takes AtMost kinded = kinded ≡ number_kind
Takes Greater kinded = kinded ≡ number_kind
Takes AtLeast kinded = kinded ≡ number_kind
Takes Plus kinded = kinded ≡ number_kind
Takes Minus kinded = kinded ≡ number_kind
Takes Times kinded = kinded ≡ number_kind
Takes Over kinded = kinded ≡ number_kind
Takes Remainder kinded = kinded ≡ number_kind
Takes op kinded = ⊥

-- both cells are of a kind that the operator takes
abbrev pub AreFitting : Lexicon → List Made → Infix → ℕ → ℕ → Type 0
AreFitting lexicon made op x y =
    (both : Kinded) × Takes op both × Has lexicon made x both × Has lexicon made y both

abbrev pub kind_of : Infix → Kinded
kind_of Plus = number_kind
kind_of Minus = number_kind
kind_of Times = number_kind
kind_of Over = number_kind
kind_of Remainder = number_kind
kind_of op = truth_kind

abbrev pub formula : Infix → Point → Point → Point
formula Plus p q = of_two pairs.Sum p q
formula Minus p q = of_two pairs.Difference p q
formula Times p q = of_two pairs.Product p q
formula Over p q = quotient_point p q
formula Remainder p q = remainder_point p q
formula Equal p q = of_two pairs.Same p q
formula Unequal p q = of_one Not (of_two pairs.Same p q)
formula Less p q = of_two pairs.Less p q
formula Greater p q = of_two pairs.Less q p
formula AtMost p q = of_one Not (of_two pairs.Less q p)
formula AtLeast p q = of_one Not (of_two pairs.Less p q)
formula And p q = of_two pairs.And p q
formula Or p q = of_two pairs.Or p q
formula Iff p q = of_two pairs.Same p q
formula Xor p q = of_one Not (of_two pairs.Same p q)
formula Implies p q = of_two pairs.Or (of_one Not p) q
formula op p q = p

abbrev pub power_point : ℕ → Point → Point
power_point n (points.Number x) = points.Number (power x n)
power_point n p = p

-- ---- operators before one term

abbrev pub is_taken : Prefix → Bool
is_taken before.Negated = true
is_taken before.Abs = true
is_taken before.Not = true
is_taken op = false

abbrev pub kind_before : Prefix → Kinded
kind_before before.Not = truth_kind
kind_before op = number_kind

abbrev pub formula_before : Prefix → Point → Point
formula_before before.Negated p = negative p
formula_before before.Abs p = of_one Abs p
formula_before before.Not p = of_one Not p
formula_before op p = p

-- ---- ranges

-- several terms between commas
abbrev pub is_list : Term → Bool
is_list (Two Comma t u) = true
is_list t = false

-- whether the first point lies between the two others, or is one of them
abbrev pub within : Point → Point → Point → Point
within p low high =
    of_two pairs.And (of_one Not (of_two pairs.Less p low)) (of_one Not (of_two pairs.Less high p))
