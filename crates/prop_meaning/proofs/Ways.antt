-- The instances that make a cell hold just where its point is what is made.
use Rattle.std.proofs.Common.{◌≡◌, ◌↔◌, ℕ, ℤ, pos, ◌+ℤ◌, ◌-ℤ◌, ◌*ℤ◌, ◌<ℤ◌, List, [], ◌∷◌}
use Rattle.std.proofs.Common.{Bool, true, false, cond, refl, ap, sym, subst, arith, int_lt}
use Rattle.std.specs.Int.{int_max, int_min}
use Rattle.std.proofs.lemmas.Int.{ints, clamps}
use lib.IntN.{*ℤ_comm}
use Rattle.prop_intervals.specs.Relations.{IsProduct}
use Rattle.prop_lattice.specs.Points.{Point, Number, IsPointOf}
use Rattle.prop_lattice.specs.declared.info.Kind.TheVariants.{Span as SpanKind, Set}
use Rattle.prop_procedures.specs.declared.shape.Kinded.{Kinded}
use Rattle.prop_procedures.specs.declared.shape.Param.{Param}
use Rattle.prop_meaning.specs.Acts.{RelatedBy, TellsBy, param_of}
use Rattle.prop_meaning.specs.declared.acts.Rule.{Rule}
use Rattle.prop_meaning.specs.declared.steps.Pair as pairs
use Rattle.prop_meaning.specs.declared.steps.Pair.TheVariants.{Sum, Difference, Product, Max, Min, Less, Same, And, Or}
use Rattle.prop_meaning.specs.inner.Drafts.{number_kind, truth_kind, TakesTwo, kind_between}
use Rattle.prop_meaning.specs.inner.Expanding.{Rules, rules_of}
use Rattle.prop_meaning.specs.inner.Steps.{truth_point, of_two}
use Rattle.prop_meaning.proofs.Formulas.{on_number, on_numbers, on_truth, on_truths}

-- three points at the rules of three instances
abbrev pub Three : (Rule → Param → List Point → Point → Type 0) → Rules → Point → Point → Point → Type 0
Three related r p q s = related r.forth (param_of r.forth) (p ∷ q ∷ []) s
    × (related r.first (param_of r.first) (s ∷ q ∷ []) p ×
    (related r.second (param_of r.second) (s ∷ p ∷ []) q × Unit {0}))

-- ---- numbers

sum_comm : (x y : ℤ) → x +ℤ y ≡ y +ℤ x
sum_comm x y = omega (arith, ints)

max_comm : (x y : ℤ) → int_max x y ≡ int_max y x
max_comm x y = omega (arith, ints, clamps)

min_comm : (x y : ℤ) → int_min x y ≡ int_min y x
min_comm x y = omega (arith, ints, clamps)

product_of : (x y t : ℤ) → x *ℤ y ≡ t → IsProduct (pos 1) x y t
product_of x y t e = rw e (around t)
  where
    around : (t : ℤ) → ((pos 1 *ℤ (t -ℤ pos 1)) <ℤ t) × (t <ℤ (pos 1 *ℤ (t +ℤ pos 1)))
    around t = (omega (arith, ints), omega (arith, ints))

is_product : (x y z : ℤ) → IsProduct (pos 1) x y z → z ≡ x *ℤ y
is_product x y z h = by (x *ℤ y) h.0 h.1
  where
    by : (t : ℤ) → (pos 1 *ℤ (z -ℤ pos 1)) <ℤ t → t <ℤ (pos 1 *ℤ (z +ℤ pos 1)) → z ≡ t
    by t h i = omega (arith, ints)

-- the number of a truth
abbrev pub truth_number : Bool → ℕ
truth_number b = cond b 0 1

pub zero_one : {P : Type 0} → ◌≡◌ {A = ℕ} 0 1 → P
zero_one e = absurd (omega (arith, e))

pub one_zero : {P : Type 0} → ◌≡◌ {A = ℕ} 1 0 → P
one_zero e = absurd (omega (arith, e))

says_less : (x y : ℤ) → (truth_number (int_lt x y) ≡ 0) ↔ (x <ℤ y)
says_less x y = by (int_lt x y) refl
  where
    less : int_lt x y ≡ true → x <ℤ y
    less e = grind (arith, ints)

    by : (b : Bool) → int_lt x y ≡ b → (truth_number b ≡ 0) ↔ (x <ℤ y)
    by true e = (λ f. less e, λ l. refl)
    by false e = (λ f. one_zero f, λ l. absurd (apart e l))
      where
        apart : int_lt x y ≡ false → x <ℤ y → ⊥
        apart e l = grind (arith, ints)

-- ---- forth

forth_numbers : (op : pairs.Pair) →
    ((x y : ℤ) → Three RelatedBy (rules_of op) (Number x) (Number y)
    (of_two op (Number x) (Number y)))
    → (kinded : Kinded) → kinded ≡ number_kind → (p q : Point) → IsPointOf kinded.kind kinded.size p
    → IsPointOf kinded.kind kinded.size q → Three RelatedBy (rules_of op) p q (of_two op p q)
forth_numbers op f kinded k p q h i =
    let P : Kinded → Type 0 = λ n. IsPointOf n.kind n.size p → IsPointOf n.kind n.size q → Three
    RelatedBy (rules_of op) p q (of_two op p q) in
    subst P (sym k) (λ h i. on_numbers 0 (λ p q. Three RelatedBy (rules_of op) p q (of_two op p q)) f p q h i) h i

forth_truths : (op : pairs.Pair) →
    ((b c : Bool) → Three RelatedBy (rules_of op) (truth_point b) (truth_point c)
    (of_two op (truth_point b) (truth_point c)))
    → (kinded : Kinded) → kinded ≡ truth_kind → (p q : Point) → IsPointOf kinded.kind kinded.size p
    → IsPointOf kinded.kind kinded.size q → Three RelatedBy (rules_of op) p q (of_two op p q)
forth_truths op f kinded k p q h i =
    let P : Kinded → Type 0 = λ n. IsPointOf n.kind n.size p → IsPointOf n.kind n.size q → Three
    RelatedBy (rules_of op) p q (of_two op p q) in
    subst P (sym k) (λ h i. on_truths (λ p q. Three RelatedBy (rules_of op) p q (of_two op p q)) f p q h i) h i

and_forth : (b c : Bool) → Three RelatedBy (rules_of And) (truth_point b) (truth_point c)
    (of_two And (truth_point b) (truth_point c))
and_forth true true = (refl, (refl, (refl, tt)))
and_forth true false = (refl, (refl, (refl, tt)))
and_forth false true = (refl, (refl, (refl, tt)))
and_forth false false = (refl, (refl, (refl, tt)))

or_forth : (b c : Bool) → Three RelatedBy (rules_of Or) (truth_point b) (truth_point c)
    (of_two Or (truth_point b) (truth_point c))
or_forth true true = (refl, (refl, (refl, tt)))
or_forth true false = (refl, (refl, (refl, tt)))
or_forth false true = (refl, (refl, (refl, tt)))
or_forth false false = (refl, (refl, (refl, tt)))

-- the rules of the two and what is made of them hold at these
pub ways_forth : (op : pairs.Pair) (kinded : Kinded) (p q : Point) → (op ≡ Same → ⊥) → (op ≡ Difference → ⊥)
    → TakesTwo op kinded → IsPointOf kinded.kind kinded.size p → IsPointOf kinded.kind kinded.size q
    → Three RelatedBy (rules_of op) p q (of_two op p q)
ways_forth Sum kinded p q n m t h i = forth_numbers Sum (λ x y. (refl, (sum_comm x y, (refl, tt)))) kinded t p q h i
ways_forth Product kinded p q n m t h i = forth_numbers Product
    (λ x y. (product_of x y _ refl, (product_of x y _ refl, (product_of y x _ (*ℤ_comm y x), tt)))) kinded t p q h i
ways_forth Max kinded p q n m t h i = forth_numbers Max (λ x y. (refl, (refl, (max_comm x y, tt)))) kinded t p q h i
ways_forth Min kinded p q n m t h i = forth_numbers Min (λ x y. (refl, (refl, (min_comm x y, tt)))) kinded t p q h i
ways_forth Less kinded p q n m t h i =
    forth_numbers Less (λ x y. (says_less x y, (says_less x y, (says_less x y, tt)))) kinded t p q h i
ways_forth And kinded p q n m t h i = forth_truths And and_forth kinded t p q h i
ways_forth Or kinded p q n m t h i = forth_truths Or or_forth kinded t p q h i
ways_forth Same kinded p q n m t h i = absurd (n refl)
ways_forth Difference kinded p q n m t h i = absurd (m refl)

-- ---- back

pub on_three_numbers : (P : Point → Point → Point → Type 0) → ((x y z : ℤ) → P (Number x) (Number y) (Number z))
    → (kinded : Kinded) → kinded ≡ number_kind → (p q s : Point) → IsPointOf kinded.kind kinded.size p
    → IsPointOf kinded.kind kinded.size q → IsPointOf SpanKind 0 s → P p q s
on_three_numbers P f kinded k p q s h i j =
    let Q : Kinded → Type 0 = λ n. IsPointOf n.kind n.size p → IsPointOf n.kind n.size q → P p q s in
    subst Q (sym k) (λ h i. on_numbers 0 (λ p q. P p q s)
    (λ x y. on_number 0 (λ s. P (Number x) (Number y) s) (λ z. f x y z) s j) p q h i) h i

on_two_numbers : (P : Point → Point → Point → Type 0) → ((x y : ℤ) (b : Bool) → P (Number x) (Number y) (truth_point b))
    → (kinded : Kinded) → kinded ≡ number_kind → (p q s : Point) → IsPointOf kinded.kind kinded.size p
    → IsPointOf kinded.kind kinded.size q → IsPointOf (Set 0) 2 s → P p q s
on_two_numbers P f kinded k p q s h i j =
    let Q : Kinded → Type 0 = λ n. IsPointOf n.kind n.size p → IsPointOf n.kind n.size q → P p q s in
    subst Q (sym k) (λ h i. on_numbers 0 (λ p q. P p q s)
    (λ x y. on_truth (λ s. P (Number x) (Number y) s) (λ b. f x y b) s j) p q h i) h i

on_three_truths : (P : Point → Point → Point → Type 0) →
    ((b c d : Bool) → P (truth_point b) (truth_point c) (truth_point d))
    → (kinded : Kinded) → kinded ≡ truth_kind → (p q s : Point) → IsPointOf kinded.kind kinded.size p
    → IsPointOf kinded.kind kinded.size q → IsPointOf (Set 0) 2 s → P p q s
on_three_truths P f kinded k p q s h i j =
    let Q : Kinded → Type 0 = λ n. IsPointOf n.kind n.size p → IsPointOf n.kind n.size q → P p q s in
    subst Q (sym k) (λ h i. on_truths (λ p q. P p q s)
    (λ b c. on_truth (λ s. P (truth_point b) (truth_point c) s) (λ d. f b c d) s j) p q h i) h i

abbrev Back : pairs.Pair → Point → Point → Point → Type 0
Back op p q s = Three TellsBy (rules_of op) p q s → s ≡ of_two op p q

less_back : (x y : ℤ) (b : Bool) → Back Less (Number x) (Number y) (truth_point b)
less_back x y true t = by (int_lt x y) refl
  where
    by : (b : Bool) → int_lt x y ≡ b → truth_point true ≡ truth_point b
    by true e = refl
    by false e = absurd (apart e (t.0.0 refl))
      where
        apart : int_lt x y ≡ false → x <ℤ y → ⊥
        apart e l = grind (arith, ints)
less_back x y false t = by (int_lt x y) refl
  where
    by : (b : Bool) → int_lt x y ≡ b → truth_point false ≡ truth_point b
    by false e = refl
    by true e = one_zero (t.0.1 (less e))
      where
        less : int_lt x y ≡ true → x <ℤ y
        less e = grind (arith, ints)

and_back : (b c d : Bool) → Back And (truth_point b) (truth_point c) (truth_point d)
and_back true true true t = refl
and_back true true false t = absurd (cc)
and_back true false true t = absurd (cc)
and_back true false false t = refl
and_back false true true t = absurd (cc)
and_back false true false t = refl
and_back false false true t = absurd (cc)
and_back false false false t = refl

or_back : (b c d : Bool) → Back Or (truth_point b) (truth_point c) (truth_point d)
or_back true true true t = refl
or_back true true false t = absurd (cc)
or_back true false true t = refl
or_back true false false t = absurd (cc)
or_back false true true t = refl
or_back false true false t = absurd (cc)
or_back false false true t = absurd (cc)
or_back false false false t = refl

-- where the rules hold, the third point is what is made of the two
pub ways_back : (op : pairs.Pair) (kinded : Kinded) (p q s : Point) → (op ≡ Same → ⊥) → (op ≡ Difference → ⊥)
    → TakesTwo op kinded → IsPointOf kinded.kind kinded.size p → IsPointOf kinded.kind kinded.size q
    → IsPointOf (kind_between op).kind (kind_between op).size s → Three TellsBy (rules_of op) p q s → s ≡ of_two op p q
ways_back Sum kinded p q s n m t h i j =
    on_three_numbers (Back Sum) (λ x y z t. ap Number t.0) kinded t p q s h i j
ways_back Product kinded p q s n m t h i j =
    on_three_numbers (Back Product) (λ x y z t. ap Number (is_product x y z t.0)) kinded t p q s h i j
ways_back Max kinded p q s n m t h i j =
    on_three_numbers (Back Max) (λ x y z t. ap Number t.0) kinded t p q s h i j
ways_back Min kinded p q s n m t h i j =
    on_three_numbers (Back Min) (λ x y z t. ap Number t.0) kinded t p q s h i j
ways_back Less kinded p q s n m t h i j = on_two_numbers (Back Less) less_back kinded t p q s h i j
ways_back And kinded p q s n m t h i j = on_three_truths (Back And) and_back kinded t p q s h i j
ways_back Or kinded p q s n m t h i j = on_three_truths (Back Or) or_back kinded t p q s h i j
ways_back Same kinded p q s n m t h i j = absurd (n refl)
ways_back Difference kinded p q s n m t h i j = absurd (m refl)
