-- The laws of what is known of the kit's rules without a call.
use Rattle.std.specs.Prelude.{◌≡◌, ◌≢◌, ℕ, zero, suc, ℤ, pos, ◌+ℤ◌, Bool, true, false}
use Rattle.std.specs.Prelude.{not, ◌&&◌, ◌||◌, ◌==◌, List, [], ◌∷◌, Option, Some, None, IfSome}
use Rattle.std.specs.Prelude.{if◌then◌else◌, int_le, int_lt}
use Rattle.std.specs.Ordering.{int_eq}
use Rattle.std.proofs.Common.{arith, refl, rules, ap, sym, subst, ◌∙◌, eq-eqb}
use Rattle.std.proofs.lemmas.Bool.{and_parts}
use Rattle.std.proofs.lemmas.Bool.Decides.{Decides-int_eq}
use Rattle.std.proofs.lemmas.Int.{ints}
use Rattle.prop_intervals.specs.Comparisons as numbers
use Rattle.prop_intervals.specs.Comparisons.{yes_bits, no_bits}
use Rattle.prop_intervals.specs.inner.Parts.{less_of, below_of, above_of, square_of}
use Rattle.prop_intervals.specs.Spans.{sum_of, difference_of, product_of, quotient_of}
use Rattle.prop_lattice.proofs.EndLemmas.{span_from-none}
use Rattle.prop_lattice.specs.Ends.{elements_from}
use Rattle.prop_lattice.specs.Points.{Point, Number, Element, Holds}
use Rattle.prop_lattice.specs.declared.elements.Elements as sets
use Rattle.prop_lattice.specs.declared.info.Info.{Info}
use Rattle.prop_lattice.specs.declared.info.Info.TheVariants.{Nothing, Span, Set, Sym}
use Rattle.prop_lattice.specs.declared.info.Info.TheVariants.{Contradiction}
use Rattle.prop_lattice.specs.declared.span.Span as spans
use Rattle.prop_procedures.specs.Rules.{AreClear, EachHolds, is_scale}
use Rattle.prop_procedures.specs.declared.shape.Param.{Param}
use Rattle.prop_procedures.specs.declared.shape.Param.TheVariants.{Plain, Scale, Rows}
use Rattle.prop_sets.specs.Chosen.{bits_where, any_below}
use Rattle.prop_sets.specs.Images.{image_of, coimage_of}
use Rattle.prop_sets.specs.Relation.{Relation}
use Rattle.prop_sets.specs.Truth.{leaves, is_nothing, is_and, is_or, truth_of}
use Rattle.prop_sets.specs.Truth.{and_of, and_back_of, or_of, or_back_of, not_of}
use Rattle.prop_sets.specs.inner.Truths.{outputs_of}
use Rattle.prop_arith.specs.Comparing.{is_single, others_of}
use Rattle.prop_arith.specs.Points.{Related}
use Rattle.prop_arith.specs.Values.{value_of}
use Rattle.prop_arith.specs.declared.kit.Kit.{Kit}
use Rattle.prop_arith.specs.declared.kit.Kit.TheVariants.{Add, Sub, Mul, Div, Square, Root, Less}
use Rattle.prop_arith.specs.declared.kit.Kit.TheVariants.{Below, Above, Copy, Alike, Apart, Switch}
use Rattle.prop_arith.specs.declared.kit.Kit.TheVariants.{Not, And, AndBack, Or, OrBack, Image}
use Rattle.prop_arith.specs.declared.kit.Kit.TheVariants.{Coimage}
use Rattle.prop_arith.specs.inner.Compared.{is_just, comparer_of}
use Rattle.prop_arith.specs.laws.Combined.{at_one, at_two, at_three, at_scale, at_rows, on_span}
use Rattle.prop_arith.specs.laws.Combined.{on_spans, on_truth, on_set, rooter_of, parter_of}
use Rattle.prop_arith.specs.laws.Combined.{passer_of}
use Rattle.prop_arith.specs.laws.CombinedLaws.{value_is}
use Rattle.prop_arith.specs.laws.SingleLaws.{never, no_element}
use Rattle.prop_guards.specs.Guards.{AreSilent, AreRepeated, AreRuledOut, IsOwn}
use Rattle.prop_guards.specs.Guards.{IsRuledOut}
use Rattle.prop_guards.specs.Kit.{is_silent, is_silent_of_two, is_repeated, is_inside}
use Rattle.prop_guards.specs.Kit.{are_mixed, leaves_open, own_of, ruled_out}
use Rattle.prop_guards.specs.Known.{is_settled, number_of, just}
use Rattle.prop_guards.specs.laws.KnownLaws.{IsJust, just_holds, just_is, nothing_is, number_is}
use Rattle.prop_guards.specs.laws.KnownLaws.{or_first}

and_none : (s : Bool) → (s && false) ≡ false
and_none true = refl
and_none false = refl

-- ---- at lists of arguments

one_silent : (f : Info → Info) (P : List Info → Type 0) → ((x : Info) → P (x ∷ []) → f x ≡ Nothing)
    → (args : List Info) → P args → at_one f args ≡ Nothing
one_silent f P h (x ∷ []) p = h x p
one_silent f P h [] p = refl
one_silent f P h (x ∷ y ∷ rest) p = refl

pub two_silent : (f : Info → Info → Info) (P : List Info → Type 0)
    → ((x y : Info) → P (x ∷ y ∷ []) → f x y ≡ Nothing) → (args : List Info) → P args
    → at_two f args ≡ Nothing
two_silent f P h (x ∷ y ∷ []) p = h x y p
two_silent f P h [] p = refl
two_silent f P h (x ∷ []) p = refl
two_silent f P h (x ∷ y ∷ z ∷ rest) p = refl

pub three_silent : (f : Info → Info → Info → Info) (P : List Info → Type 0)
    → ((x y z : Info) → P (x ∷ y ∷ z ∷ []) → f x y z ≡ Nothing) → (args : List Info) → P args
    → at_three f args ≡ Nothing
three_silent f P h (x ∷ y ∷ z ∷ []) p = h x y z p
three_silent f P h [] p = refl
three_silent f P h (x ∷ []) p = refl
three_silent f P h (x ∷ y ∷ []) p = refl
three_silent f P h (x ∷ y ∷ z ∷ u ∷ rest) p = refl

scale_silent : (f : ℤ → Info → Info → Info) (param : Param) (args : List Info)
    → ((k : ℤ) → at_two (f k) args ≡ Nothing) → at_scale f param args ≡ Nothing
scale_silent f Plain args h = refl
scale_silent f (Rows m) args h = refl
scale_silent f (Scale k) args h = by (is_scale k)
  where
    by : (s : Bool) → (if s then at_two (f k) args else Nothing) ≡ Nothing
    by true = h k
    by false = refl

rows_silent : (f : Relation → Info → Info) (param : Param) (args : List Info)
    → ((m : Relation) → at_one (f m) args ≡ Nothing) → at_rows f param args ≡ Nothing
rows_silent f Plain args h = refl
rows_silent f (Scale k) args h = refl
rows_silent f (Rows m) args h = h m

-- ---- where nothing is known of some number or set

span_silent : (f : spans.Span → Info) (x : Info) → (is_nothing x || false) ≡ true
    → on_span f x ≡ Nothing
span_silent f (Span a) e = absurd (never e)
span_silent f x e = refl

spans_silent : (f : spans.Span → spans.Span → Info) (x y : Info)
    → (is_nothing x || is_nothing y) ≡ true → on_spans f x y ≡ Nothing
spans_silent f (Span a) (Span b) e = absurd (never e)
spans_silent f x y e = refl

less_silent : (x y : Info) → are_mixed x y ≡ true → on_spans less_of x y ≡ Nothing
less_silent (Span x) (Span y) e = by (int_lt x.hi y.lo) refl (int_le y.hi x.lo) refl
  where
    parts : (int_le y.lo x.hi ≡ true) × (int_lt x.lo y.hi ≡ true)
    parts = and_parts (int_le y.lo x.hi) (int_lt x.lo y.hi) e

    by : (s : Bool) → int_lt x.hi y.lo ≡ s → (t : Bool) → int_le y.hi x.lo ≡ t
        → (if s then elements_from yes_bits else (if t then elements_from no_bits else Nothing))
        ≡ Nothing
    by true u t v = absurd (omega (arith, ints, parts.0))
    by false u true v = absurd (omega (arith, ints, parts.1))
    by false u false v = refl
less_silent x y e = spans_silent less_of x y e

set_silent : (f : sets.Elements → Info) (x : Info) → (is_nothing x || false) ≡ true
    → on_set f x ≡ Nothing
set_silent f (Set a) e = absurd (never e)
set_silent f x e = refl

root_silent : (y x : Info) → is_nothing y ≡ true → rooter_of y x ≡ Nothing
root_silent (Span y) x e = absurd (never e)
root_silent y x e = refl

-- ---- where a truth isn't known that says whether there is anything to say

by_truth_silent : (f : sets.Elements → spans.Span → Info)
    → ((t : sets.Elements) (a : spans.Span) → (t.bits == yes_bits) ≡ false
    → (t.bits == no_bits) ≡ false → f t a ≡ Nothing) → (t x : Info)
    → (not (is_settled t) || is_nothing x) ≡ true → on_truth f t x ≡ Nothing
by_truth_silent f h (Set t) (Span a) e = by (t.bits == yes_bits) refl (t.bits == no_bits) refl e
  where
    by : (p : Bool) → (t.bits == yes_bits) ≡ p → (q : Bool) → (t.bits == no_bits) ≡ q
        → (not (p || q) || false) ≡ true → f t a ≡ Nothing
    by true u q v e = absurd (never e)
    by false u true v e = absurd (never e)
    by false u false v e = h t a u v
by_truth_silent f h t x e = refl

below_open : (t : sets.Elements) (a : spans.Span) → (t.bits == yes_bits) ≡ false
    → (t.bits == no_bits) ≡ false → below_of t a ≡ Nothing
below_open t a u v = rw (u, v) refl

above_open : (t : sets.Elements) (a : spans.Span) → (t.bits == yes_bits) ≡ false
    → (t.bits == no_bits) ≡ false → above_of t a ≡ Nothing
above_open t a u v = rw (u, v) refl

passer_silent : (t x : Info) → (not (is_just yes_bits t) || is_nothing x) ≡ true
    → passer_of t x ≡ Nothing
passer_silent t x e = by (is_just yes_bits t) e
  where
    by : (s : Bool) → (not s || is_nothing x) ≡ true → (if s then x else Nothing) ≡ Nothing
    by true e = nothing_is x e
    by false e = refl

-- ---- where there are several points, or none is known

several_silent : (x y : Info) → is_single x ≡ false → others_of x y ≡ Nothing
several_silent (Span x) (Span y) e = rw e refl
several_silent (Set x) (Set y) e = rw e refl
several_silent (Sym x) y e = absurd (never (sym e))
several_silent x y e = refl

unknown_silent : (x : Info) → others_of x Nothing ≡ Nothing
unknown_silent Nothing = refl
unknown_silent (Span x) = refl
unknown_silent (Set x) = refl
unknown_silent (Sym x) = refl
unknown_silent Contradiction = refl

parter_silent : (t x y : Info)
    → ((not (is_just no_bits t) || not (is_single x)) || is_nothing y) ≡ true
    → parter_of t x y ≡ Nothing
parter_silent t x y e = by (is_just no_bits t) (is_single x) refl e
  where
    by : (s v : Bool) → is_single x ≡ v → ((not s || not v) || is_nothing y) ≡ true
        → (if s then others_of x y else Nothing) ≡ Nothing
    by true true f e = subst (λ a. others_of x a ≡ Nothing) (sym (nothing_is y e))
        (unknown_silent x)
    by true false f e = several_silent x y f
    by false v f e = refl

pub comparer_silent : (x y : Info) → x ≢ Contradiction → y ≢ Contradiction
    → (is_nothing x || is_nothing y) ≡ true → comparer_of x y ≡ Nothing
comparer_silent Nothing Contradiction n m e = absurd (m refl)
comparer_silent Nothing y n m e = refl
comparer_silent Contradiction y n m e = absurd (n refl)
comparer_silent (Span x) Nothing n m e = rw and_none refl
comparer_silent (Set x) Nothing n m e = rw and_none refl
comparer_silent (Sym x) Nothing n m e = refl
comparer_silent x y n m e = absurd (never e)

-- ---- truths

-- which truths are left: the first tells of `yes`, the second of `no`
abbrev two : Bool → Bool → ℕ → Bool
two first second zero = first
two first second (suc n) = second

same_outputs : (related : ℕ → ℕ → ℕ → Bool) (x y : ℕ → Bool) (a b c d : Bool) → x 0 ≡ a → x 1 ≡ b
    → y 0 ≡ c → y 1 ≡ d → outputs_of related x y ≡ outputs_of related (two a b) (two c d)
unfolding bits_where any_below
same_outputs related x y a b c d p q r s = rw (p, q, r, s) refl

-- where the truths that the inputs leave tell both truths, both are told of the inputs
tells_both : (related : ℕ → ℕ → ℕ → Bool) (x y : Info) (a b c d : Bool) → leaves x 0 ≡ a
    → leaves x 1 ≡ b → leaves y 0 ≡ c → leaves y 1 ≡ d
    → outputs_of related (two a b) (two c d) ≡ 3
    → (outputs_of related (leaves x) (leaves y) == 3) ≡ true
tells_both related x y a b c d p q r s e =
    eq-eqb (outputs_of related (leaves x) (leaves y)) 3
    (same_outputs related (leaves x) (leaves y) a b c d p q r s ∙ e)

-- where one of the inputs is unknown and both truths are told, the answer is nothing
truth_silent : (related : ℕ → ℕ → ℕ → Bool) (x y : Info) → (is_nothing x || is_nothing y) ≡ true
    → (outputs_of related (leaves x) (leaves y) == 3) ≡ true → truth_of related x y ≡ Nothing
truth_silent related x y e f = rw (e, f) refl

and_table : (s : Bool) → (outputs_of is_and (two true true) (two true s) ≡ 3)
    × (outputs_of is_and (two true s) (two true true) ≡ 3)
unfolding bits_where any_below
and_table true = (refl, refl)
and_table false = (refl, refl)

or_table : (s : Bool) → (outputs_of is_or (two true true) (two s true) ≡ 3)
    × (outputs_of is_or (two s true) (two true true) ≡ 3)
unfolding bits_where any_below
or_table true = (refl, refl)
or_table false = (refl, refl)

and_back_table : (c d : Bool) → (c || d) ≡ true
    → outputs_of (λ z y x. is_and x y z) (two true true) (two c d) ≡ 3
unfolding bits_where any_below
and_back_table true true e = refl
and_back_table true false e = refl
and_back_table false true e = refl
and_back_table false false e = absurd (never e)

and_back_unknown : (s : Bool) → outputs_of (λ z y x. is_and x y z) (two s true) (two true true) ≡ 3
unfolding bits_where any_below
and_back_unknown true = refl
and_back_unknown false = refl

or_back_table : (c d : Bool) → (c || d) ≡ true
    → outputs_of (λ z y x. is_or x y z) (two true true) (two c d) ≡ 3
unfolding bits_where any_below
or_back_table true true e = refl
or_back_table true false e = refl
or_back_table false true e = refl
or_back_table false false e = absurd (never e)

or_back_unknown : (s : Bool) → outputs_of (λ z y x. is_or x y z) (two true s) (two true true) ≡ 3
unfolding bits_where any_below
or_back_unknown true = refl
or_back_unknown false = refl

-- the answer is nothing where one of the inputs is unknown, whichever, and both truths are told
-- then
one_open : (related : ℕ → ℕ → ℕ → Bool) (x y : Info) → (is_nothing x || is_nothing y) ≡ true
    → outputs_of related (two true true) (two (leaves y 0) (leaves y 1)) ≡ 3
    → outputs_of related (two (leaves x 0) (leaves x 1)) (two true true) ≡ 3
    → truth_of related x y ≡ Nothing
one_open related x y e p q = truth_silent related x y e (by (is_nothing x) refl e)
  where
    both : (a : Info) → is_nothing a ≡ true → (t : ℕ) → leaves a t ≡ true
    both a u t = ap (λ b. leaves b t) (nothing_is a u)

    by : (s : Bool) → is_nothing x ≡ s → (s || is_nothing y) ≡ true
        → (outputs_of related (leaves x) (leaves y) == 3) ≡ true
    by true u h = tells_both related x y true true (leaves y 0) (leaves y 1) (both x u 0)
        (both x u 1)
        refl refl p
    by false u h = tells_both related x y (leaves x 0) (leaves x 1) true true refl refl (both y h 0)
        (both y h 1) q

and_silent : (x y : Info) → is_silent_of_two And x y ≡ true → and_of x y ≡ Nothing
and_silent x y e =
    let parts = and_parts (is_nothing x || is_nothing y) (leaves x 0 && leaves y 0) e in
    let left = and_parts (leaves x 0) (leaves y 0) parts.1 in
    one_open is_and x y parts.0 (rw left.1 (and_table (leaves y 1)).0)
    (rw left.0 (and_table (leaves x 1)).1)

or_silent : (x y : Info) → is_silent_of_two Or x y ≡ true → or_of x y ≡ Nothing
or_silent x y e =
    let parts = and_parts (is_nothing x || is_nothing y) (leaves x 1 && leaves y 1) e in
    let left = and_parts (leaves x 1) (leaves y 1) parts.1 in
    one_open is_or x y parts.0 (rw left.1 (or_table (leaves y 0)).0)
    (rw left.0 (or_table (leaves x 0)).1)

and_back_silent : (z y : Info) → leaves_open z y 1 ≡ true → and_back_of z y ≡ Nothing
and_back_silent z y e =
    let parts = and_parts (is_nothing z || is_nothing y) (leaves z 1 && (leaves y 0 || leaves y 1))
    e in
    let left = and_parts (leaves z 1) (leaves y 0 || leaves y 1) parts.1 in
    one_open (λ z y x. is_and x y z) z y parts.0 (and_back_table (leaves y 0) (leaves y 1) left.1)
    (rw left.0 (and_back_unknown (leaves z 0)))

or_back_silent : (z y : Info) → leaves_open z y 0 ≡ true → or_back_of z y ≡ Nothing
or_back_silent z y e =
    let parts = and_parts (is_nothing z || is_nothing y) (leaves z 0 && (leaves y 0 || leaves y 1))
    e in
    let left = and_parts (leaves z 0) (leaves y 0 || leaves y 1) parts.1 in
    one_open (λ z y x. is_or x y z) z y parts.0 (or_back_table (leaves y 0) (leaves y 1) left.1)
    (rw left.0 (or_back_unknown (leaves z 1)))

not_unknown : not_of Nothing ≡ Nothing
unfolding bits_where any_below
not_unknown = refl

not_silent : (x : Info) → (is_nothing x || false) ≡ true → not_of x ≡ Nothing
not_silent x e = ap not_of (nothing_is x (or_first (is_nothing x) e)) ∙ not_unknown

pub kit_silent : (rule : Kit) → AreSilent (value_of rule) (λ param args. is_silent rule args)
kit_silent Add param args c e =
    sym (value_is Add param args) ∙ two_silent (on_spans sum_of) (λ a. is_silent Add a ≡ true)
    (spans_silent sum_of) args e
kit_silent Sub param args c e =
    sym (value_is Sub param args) ∙ two_silent (on_spans difference_of)
    (λ a. is_silent Sub a ≡ true)
    (spans_silent difference_of) args e
kit_silent Mul param args c e =
    sym (value_is Mul param args) ∙ scale_silent (λ k. on_spans (λ x y. product_of x y k)) param
    args
    (λ k. two_silent (on_spans (λ x y. product_of x y k)) (λ a. is_silent Mul a ≡ true)
    (spans_silent (λ x y. product_of x y k)) args e)
kit_silent Div param args c e =
    sym (value_is Div param args) ∙ scale_silent (λ k. on_spans (λ z y. quotient_of z y k)) param
    args
    (λ k. two_silent (on_spans (λ z y. quotient_of z y k)) (λ a. is_silent Div a ≡ true)
    (spans_silent (λ z y. quotient_of z y k)) args e)
kit_silent Square param args c e =
    sym (value_is Square param args) ∙ one_silent (on_span square_of)
    (λ a. is_silent Square a ≡ true)
    (span_silent square_of) args e
kit_silent Root param args c e =
    sym (value_is Root param args) ∙ two_silent rooter_of (λ a. is_silent Root a ≡ true)
    root_silent args e
kit_silent Less param args c e =
    sym (value_is Less param args) ∙ two_silent (on_spans less_of) (λ a. is_silent Less a ≡ true)
    less_silent args e
kit_silent Below param args c e =
    sym (value_is Below param args) ∙ two_silent (on_truth below_of) (λ a. is_silent Below a ≡ true)
    (by_truth_silent below_of below_open) args e
kit_silent Above param args c e =
    sym (value_is Above param args) ∙ two_silent (on_truth above_of) (λ a. is_silent Above a ≡ true)
    (by_truth_silent above_of above_open) args e
kit_silent Copy param args c e =
    sym (value_is Copy param args) ∙ one_silent (λ x. x) (λ a. is_silent Copy a ≡ true)
    (λ x e. nothing_is x (or_first (is_nothing x) e)) args e
kit_silent Alike param args c e =
    sym (value_is Alike param args)
    ∙ two_silent comparer_of (λ a. AreClear a × (is_silent Alike a ≡ true))
    (λ x y p. comparer_silent x y p.0.0 p.0.1.0 p.1) args (c, e)
kit_silent Apart param args c e =
    sym (value_is Apart param args) ∙ three_silent parter_of (λ a. is_silent Apart a ≡ true)
    parter_silent
    args e
kit_silent Switch param args c e =
    sym (value_is Switch param args) ∙ two_silent passer_of (λ a. is_silent Switch a ≡ true)
    passer_silent
    args e
kit_silent Image param args c e =
    sym (value_is Image param args) ∙ rows_silent (λ m. on_set (image_of m)) param args
    (λ m. one_silent (on_set (image_of m)) (λ a. is_silent Image a ≡ true) (set_silent (image_of m))
    args e)
kit_silent Coimage param args c e =
    sym (value_is Coimage param args) ∙ rows_silent (λ m. on_set (coimage_of m)) param args
    (λ m. one_silent (on_set (coimage_of m)) (λ a. is_silent Coimage a ≡ true)
    (set_silent (coimage_of m)) args e)
kit_silent Not param args c e =
    sym (value_is Not param args) ∙ one_silent not_of (λ a. is_silent Not a ≡ true) not_silent args
    e
kit_silent And param args c e =
    sym (value_is And param args) ∙ two_silent and_of (λ a. is_silent And a ≡ true) and_silent args
    e
kit_silent AndBack param args c e =
    sym (value_is AndBack param args) ∙ two_silent and_back_of (λ a. is_silent AndBack a ≡ true)
    and_back_silent args e
kit_silent Or param args c e =
    sym (value_is Or param args) ∙ two_silent or_of (λ a. is_silent Or a ≡ true) or_silent args e
kit_silent OrBack param args c e =
    sym (value_is OrBack param args) ∙ two_silent or_back_of (λ a. is_silent OrBack a ≡ true)
    or_back_silent args e

-- ---- where the answer is y

not_false : (b : Bool) → not b ≡ true → b ≡ false
not_false true e = absurd (never e)
not_false false e = refl

inside_stays : (x y : Info) → is_inside x y ≡ true → others_of x y ≡ y
inside_stays (Span x) (Span y) e =
    let parts = and_parts (int_eq x.lo x.hi) (not (int_eq y.lo x.lo) && not (int_eq y.hi x.lo)) e in
    let ends = and_parts (not (int_eq y.lo x.lo)) (not (int_eq y.hi x.lo)) parts.1 in
    rw (parts.0, not_false (int_eq y.lo x.lo) ends.0, not_false (int_eq y.hi x.lo) ends.1) refl
inside_stays (Sym x) (Sym y) e = rw (not_false (x == y) e) refl
inside_stays x y e = absurd (never e)

apart_repeats : (param : Param) (t x y : Info) → (is_just no_bits t && is_inside x y) ≡ true
    → value_of Apart param (t ∷ x ∷ y ∷ []) ≡ y
apart_repeats param t x y e =
    let parts = and_parts (is_just no_bits t) (is_inside x y) e in
    sym (value_is Apart param (t ∷ x ∷ y ∷ [])) ∙ rw parts.0 (inside_stays x y parts.1)

pub kit_repeated : (rule : Kit)
    → AreRepeated (value_of rule) (own_of rule) (λ param args. is_repeated rule args)
kit_repeated Apart param (t ∷ x ∷ y ∷ []) e = ap Some (sym (apart_repeats param t x y e))
kit_repeated rule param args e = absurd (never e)

pub kit_own : (rule : Kit) → IsOwn (Related rule) (own_of rule)
kit_own Root param (Number y ∷ Number x ∷ []) (Number v) r = ap Some (ap Number (sym r.0))
kit_own Apart param (Element t ∷ x ∷ y ∷ []) z r = ap Some (sym r.0)
kit_own rule param points point r = search rules

-- ---- numbers that are ruled out

itself : (b : ℤ) → int_eq b b ≡ true
itself b = (Decides-int_eq b b).1 refl

-- a single number without itself leaves nothing
none_left : (a : spans.Span) → a.lo ≡ a.hi → numbers.without_of a a.lo ≡ Contradiction
none_left a e = rw (itself a.lo)
    (span_from-none (a.lo +ℤ pos 1) a.hi (λ ends. absurd (omega (arith, ints, e, ends.1))))

other_than_itself : (a : spans.Span) → a.lo ≡ a.hi → others_of (Span a) (Span a) ≡ Contradiction
other_than_itself a e = rw ((Decides-int_eq a.lo a.hi).1 e) (none_left a e)

apart_left_out : (param : Param) (t x : Info) (v : ℤ) → is_just no_bits t ≡ true → IsJust x v
    → value_of Apart param (t ∷ x ∷ just v ∷ []) ≡ Contradiction
apart_left_out param t x v e j =
    let same : x ≡ Span j.span = j.is in
    let left : just v ≡ Span j.span = just_is x v j ∙ same in
    sym (value_is Apart param (t ∷ x ∷ just v ∷ [])) ∙ rw (e, left, same)
    (other_than_itself j.span (j.lo ∙ sym j.hi))

apart_none : (param : Param) (t x y : Info) (v : ℤ) → is_just no_bits t ≡ true → IsJust x v
    → (points : List Point) → EachHolds (t ∷ x ∷ y ∷ []) points
    → ¬ (Related Apart param points (Number v))
apart_none param t x y v e j (Element i ∷ p ∷ q ∷ []) h r =
    r.1 (no_element t i e h.0) (sym (just_holds x v j p h.1.0))
apart_none param t x y v e j points h r = search rules

apart_rules_out : (param : Param) (t x y : Info) (v : ℤ) → is_just no_bits t ≡ true → IsJust x v
    → IsRuledOut (value_of Apart) (Related Apart) (own_of Apart) param (t ∷ x ∷ y ∷ []) v
apart_rules_out param t x y v e j = record {
  belongs_to_none = apart_none param t x y v e j;
  left_out = subst (λ a. ¬ (Holds a (Number v))) (sym (apart_left_out param t x v e j)) (λ h. h);
}

pub kit_barred : (rule : Kit) → AreRuledOut (value_of rule) (Related rule) (own_of rule)
    (λ param args place. ruled_out rule args place)
kit_barred Apart param (t ∷ x ∷ y ∷ []) (suc zero) =
    by (is_just no_bits t) refl (number_of x) refl
  where
    by : (s : Bool) → is_just no_bits t ≡ s → (o : Option ℤ) → number_of x ≡ o
        → IfSome (if s then o else None)
        (IsRuledOut (value_of Apart) (Related Apart) (own_of Apart) param (t ∷ x ∷ y ∷ []))
    by true e (Some v) f = apart_rules_out param t x y v e (number_is x v f)
    by true e None f = tt
    by false e o f = tt
kit_barred rule param args place = search rules
