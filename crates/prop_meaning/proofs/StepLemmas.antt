-- The instances and the constant of a step hold just where its cell's point is what it makes.
use Rattle.std.proofs.Common.{◌≡◌, ◌↔◌, ◌∙◌, ℕ, ℤ, ◌+ℤ◌, ◌-ℤ◌, List, [], ◌∷◌}
use Rattle.std.proofs.Common.{Bool, true, false, cond, ◌&&◌, ◌==◌, refl, ap, sym, subst, arith, int_le}
use Rattle.std.specs.List.{AllByRecursion}
use Rattle.std.specs.Bool.{Decides}
use Rattle.std.proofs.lemmas.Bool.Decides.{Decides-eqb}
use Rattle.std.proofs.lemmas.Int.{ints}
use Rattle.prop_lattice.specs.Points.{Point, Number, Element, Symbol, IsPointOf}
use Rattle.prop_lattice.specs.declared.info.Kind.TheVariants.{Span as SpanKind, Set}
use Rattle.prop_procedures.specs.declared.shape.Kinded.{Kinded}
use Rattle.prop_procedures.specs.declared.shape.Param.{Param}
use Rattle.prop_meaning.specs.Acts.{RelatedBy, TellsBy, HoldsAt}
use Rattle.prop_meaning.specs.declared.acts.Act.{Act}
use Rattle.prop_meaning.specs.declared.acts.Rule.{Rule}
use Rattle.prop_meaning.specs.declared.acts.Rule.TheVariants.{OfKit, OfWide}
use Rattle.prop_arith.specs.declared.kit.Kit.TheVariants as kits
use Rattle.prop_wide.specs.declared.wide.Wide.TheVariants as wides
use Rattle.prop_procedures.specs.declared.shape.Param.TheVariants.{Plain}
use Rattle.prop_meaning.specs.declared.steps.Single as singles
use Rattle.prop_meaning.specs.declared.steps.Single.TheVariants.{Abs, Not}
use Rattle.prop_meaning.specs.declared.steps.Pair as pairs
use Rattle.prop_meaning.specs.declared.steps.Pair.TheVariants.{Sum, Difference, Product, Max, Min, Less, Same, And, Or}
use Rattle.prop_meaning.specs.inner.Drafts.{number_kind, TakesTwo, kind_between, kind_before}
use Rattle.prop_meaning.specs.inner.Expanding.{rules_of, all_ways, alike_acts, square_acts, pair_acts, single_acts}
use Rattle.prop_meaning.specs.inner.Expanding.{choice_acts}
use Rattle.prop_meaning.specs.inner.Steps.{truth_point, same_point, of_one, of_two, chosen}
use Rattle.prop_meaning.proofs.Formulas.{on_number, on_numbers, on_truth, on_truths}
use Rattle.prop_meaning.proofs.Ways.{Three, ways_forth, ways_back, on_three_numbers, truth_number, zero_one, one_zero}

abbrev All : (Rule → Param → List Point → Point → Type 0) → (ℕ → Point) → List Act → Type 0
All related a acts = AllByRecursion (HoldsAt related a) acts

-- ---- whether points are the same

points_decide : (p q : Point) → Decides (same_point p q) (p ≡ q)
points_decide (Number x) (Number y) = (λ e. ap Number (forth e), λ e. back x y (number_in e))
  where
    forth : (int_le x y && int_le y x) ≡ true → x ≡ y
    forth e = grind (arith, ints)

    number_in : Number x ≡ Number y → x ≡ y
    number_in e = cc

    back : (x y : ℤ) → x ≡ y → (int_le x y && int_le y x) ≡ true
    back x y e = grind (arith, ints)
points_decide (Element i) (Element j) =
    (λ e. ap Element ((Decides-eqb i j).0 e), λ e. (Decides-eqb i j).1 (element_in e))
  where
    element_in : Element i ≡ Element j → i ≡ j
    element_in e = cc
points_decide (Symbol m) (Symbol n) = (λ e. ap Symbol ((Decides-eqb m n).0 e), λ e. (Decides-eqb m n).1 (symbol_in e))
  where
    symbol_in : Symbol m ≡ Symbol n → m ≡ n
    symbol_in e = cc
points_decide (Number x) (Element j) = (λ e. absurd (cc), λ e. absurd (cc))
points_decide (Number x) (Symbol n) = (λ e. absurd (cc), λ e. absurd (cc))
points_decide (Element i) (Number y) = (λ e. absurd (cc), λ e. absurd (cc))
points_decide (Element i) (Symbol n) = (λ e. absurd (cc), λ e. absurd (cc))
points_decide (Symbol m) (Number y) = (λ e. absurd (cc), λ e. absurd (cc))
points_decide (Symbol m) (Element j) = (λ e. absurd (cc), λ e. absurd (cc))

-- what the rules of `alike` say of points
abbrev Alike : Point → Point → ℕ → Type 0
Alike p q t = ((t ≡ 0) ↔ (p ≡ q)) × ((t ≡ 0 → q ≡ p) × ((t ≡ 0 → p ≡ q)
    × (((q ≡ q) × (t ≡ 1 → q ≡ p → ⊥)) × (((p ≡ p) × (t ≡ 1 → p ≡ q → ⊥)) × Unit {0}))))

alike_forth : (p q : Point) → (b : Bool) → same_point p q ≡ b → Alike p q (truth_number b)
alike_forth p q true e =
    let same : p ≡ q = (points_decide p q).0 e in (
      (λ _. same, λ _. refl),
      (λ _. sym same, (λ _. same, ((refl, λ f. zero_one f), ((refl, λ f. zero_one f), tt)))),
    )
alike_forth p q false e =
    let other : p ≡ q → ⊥ = λ f. clash (sym e ∙ (points_decide p q).1 f) in (
      (λ f. one_zero f, λ f. absurd (other f)),
      (λ f. one_zero f, (λ f. one_zero f, ((refl, λ _ f. other (sym f)), ((refl, λ _ f. other f), tt)))),
    )
  where
    clash : false ≡ true → ⊥
    clash e = cc

alike_back : (p q : Point) (d : Bool) → ((truth_number d ≡ 0) ↔ (p ≡ q)) → (b : Bool) → same_point p q ≡ b → d ≡ b
alike_back p q true h true e = refl
alike_back p q true h false e = absurd (clash (sym e ∙ (points_decide p q).1 (h.0 refl)))
  where
    clash : false ≡ true → ⊥
    clash e = cc
alike_back p q false h true e = one_zero (h.1 ((points_decide p q).0 e))
alike_back p q false h false e = refl

-- ---- two points

minus_back : (x y : ℤ) → x ≡ y +ℤ (x -ℤ y)
minus_back x y = omega (arith, ints)

minus_first : (x y : ℤ) → x ≡ (x -ℤ y) +ℤ y
minus_first x y = omega (arith, ints)

minus_is : (x y z : ℤ) → x ≡ y +ℤ z → z ≡ x -ℤ y
minus_is x y z e = omega (arith, ints)

difference_forth : (a : ℕ → Point) (x y z : ℕ) (kinded : Kinded) → kinded ≡ number_kind
    → IsPointOf kinded.kind kinded.size (a x) → IsPointOf kinded.kind kinded.size (a y)
    → a z ≡ of_two Difference (a x) (a y) → All RelatedBy a (pair_acts Difference x y z)
difference_forth a x y z kinded k h i e =
    let P : Kinded → Type 0 = λ n. IsPointOf n.kind n.size (a x) → IsPointOf n.kind n.size (a y)
    → Three RelatedBy (rules_of Sum) (a y) (of_two Difference (a x) (a y)) (a x) in
    let Q : Point → Type 0 = λ s. Three RelatedBy (rules_of Sum) (a y) s (a x) in
    subst Q (sym e) (subst P (sym k) (λ h i. on_numbers 0
    (λ p q. Three RelatedBy (rules_of Sum) q (of_two Difference p q) p)
    (λ u v. (minus_back u v, (minus_first u v, (minus_back u v, tt)))) (a x) (a y) h i) h i)

difference_back : (a : ℕ → Point) (x y z : ℕ) (kinded : Kinded) → kinded ≡ number_kind
    → IsPointOf kinded.kind kinded.size (a x) → IsPointOf kinded.kind kinded.size (a y) → IsPointOf SpanKind 0 (a z)
    → All TellsBy a (pair_acts Difference x y z) → a z ≡ of_two Difference (a x) (a y)
difference_back a x y z kinded k h i j t = on_three_numbers
    (λ p q s. Three TellsBy (rules_of Sum) q s p → s ≡ of_two Difference p q)
    (λ u v w t. ap Number (minus_is u v w t.0)) kinded k (a x) (a y) (a z) h i j t

same_forth : (a : ℕ → Point) (x y z : ℕ) → a z ≡ of_two Same (a x) (a y) → All RelatedBy a (alike_acts x y z)
same_forth a x y z e =
    let Q : Point → Type 0 = λ s. (RelatedBy (OfKit kits.Alike) Plain (a x ∷ a y ∷ []) s) ×
    ((RelatedBy (OfKit kits.Switch) Plain (s ∷ a x ∷ []) (a y))
    × ((RelatedBy (OfKit kits.Switch) Plain (s ∷ a y ∷ []) (a x)) ×
    ((RelatedBy (OfKit kits.Apart) Plain (s ∷ a x ∷ a y ∷ []) (a y))
    × ((RelatedBy (OfKit kits.Apart) Plain (s ∷ a y ∷ a x ∷ []) (a x)) × Unit {0})))) in
    subst Q (sym e) (alike_forth (a x) (a y) (same_point (a x) (a y)) refl)

same_back : (a : ℕ → Point) (x y z : ℕ) → IsPointOf (Set 0) 2 (a z) → All TellsBy a (alike_acts x y z)
    → a z ≡ of_two Same (a x) (a y)
same_back a x y z j t = on_truth
    (λ s. TellsBy (OfKit kits.Alike) Plain (a x ∷ a y ∷ []) s → s ≡ truth_point (same_point (a x) (a y)))
    (λ d u. ap truth_point (alike_back (a x) (a y) d u (same_point (a x) (a y)) refl)) (a z) j t.0

square_of : (a : ℕ → Point) (x y z : ℕ) (kinded : Kinded) → x ≡ y → kinded ≡ number_kind
    → IsPointOf kinded.kind kinded.size (a x) → a z ≡ of_two Product (a x) (a y) → All RelatedBy a (square_acts x z)
square_of a x y z kinded same k h e =
    let P : Kinded → Type 0 = λ n. IsPointOf n.kind n.size (a x) → a z ≡ of_two Product (a x) (a x)
    → All RelatedBy a (square_acts x z) in
    let Q : ℕ → Type 0 = λ n. a z ≡ of_two Product (a x) (a n) in
    subst P (sym k) (λ h e. by (a x) (a z) h e) h (subst Q (sym same) e)
  where
    by : (p s : Point) → IsPointOf SpanKind 0 p → s ≡ of_two Product p p
        → (RelatedBy (OfKit kits.Square) Plain (p ∷ []) s) ×
        ((RelatedBy (OfKit kits.Root) Plain (s ∷ p ∷ []) p) × Unit {0})
    by p s h e = on_number 0 (λ p. s ≡ of_two Product p p
        → (RelatedBy (OfKit kits.Square) Plain (p ∷ []) s) ×
        ((RelatedBy (OfKit kits.Root) Plain (s ∷ p ∷ []) p) × Unit {0}))
        (λ u e. let R : Point → Type 0 = λ s. (RelatedBy (OfKit kits.Square) Plain (Number u ∷ []) s)
        × ((RelatedBy (OfKit kits.Root) Plain (s ∷ Number u ∷ []) (Number u)) × Unit {0}) in
        subst R (sym e) (refl, ((refl, refl), tt))) p h e

square_back : (a : ℕ → Point) (x y z : ℕ) (kinded : Kinded) → x ≡ y → kinded ≡ number_kind
    → IsPointOf kinded.kind kinded.size (a x) → IsPointOf SpanKind 0 (a z) → All TellsBy a (square_acts x z)
    → a z ≡ of_two Product (a x) (a y)
square_back a x y z kinded same k h j t =
    let P : Kinded → Type 0 = λ n. IsPointOf n.kind n.size (a x) → a z ≡ of_two Product (a x) (a x) in
    let Q : ℕ → Type 0 = λ n. a z ≡ of_two Product (a x) (a n) in
    subst Q same (subst P (sym k)
    (λ h. on_numbers 0 (λ p s. TellsBy (OfKit kits.Square) Plain (p ∷ []) s → s ≡ of_two Product
    p p)
    (λ u v e. ap Number e) (a x) (a z) h j t.0) h)

product_forth : (a : ℕ → Point) (x y z : ℕ) (kinded : Kinded) → kinded ≡ number_kind
    → IsPointOf kinded.kind kinded.size (a x) → IsPointOf kinded.kind kinded.size (a y)
    → a z ≡ of_two Product (a x) (a y) → (b : Bool) → (x == y) ≡ b
    → All RelatedBy a (cond b (square_acts x z) (all_ways (rules_of Product) x y z))
product_forth a x y z kinded k h i e true f = square_of a x y z kinded ((Decides-eqb x y).0 f) k h e
product_forth a x y z kinded k h i e false f =
    let Q : Point → Type 0 = λ s. Three RelatedBy (rules_of Product) (a x) (a y) s in
    subst Q (sym e) (ways_forth Product kinded (a x) (a y) (λ g. cc) (λ g. cc) k h i)

product_back : (a : ℕ → Point) (x y z : ℕ) (kinded : Kinded) → kinded ≡ number_kind
    → IsPointOf kinded.kind kinded.size (a x) → IsPointOf kinded.kind kinded.size (a y) → IsPointOf SpanKind 0 (a z)
    → (b : Bool) → (x == y) ≡ b
    → All TellsBy a (cond b (square_acts x z) (all_ways (rules_of Product) x y z)) → a z ≡ of_two Product (a x) (a y)
product_back a x y z kinded k h i j true f t = square_back a x y z kinded ((Decides-eqb x y).0 f) k h j t
product_back a x y z kinded k h i j false f t =
    ways_back Product kinded (a x) (a y) (a z) (λ g. cc) (λ g. cc) k h i j t

-- the instances of what is made of two cells
pub pair_forth : (a : ℕ → Point) (op : pairs.Pair) (x y z : ℕ) (kinded : Kinded) → TakesTwo op kinded
    → IsPointOf kinded.kind kinded.size (a x) → IsPointOf kinded.kind kinded.size (a y)
    → a z ≡ of_two op (a x) (a y) → All RelatedBy a (pair_acts op x y z)
pair_forth a Same x y z kinded k h i e = same_forth a x y z e
pair_forth a Difference x y z kinded k h i e = difference_forth a x y z kinded k h i e
pair_forth a Product x y z kinded k h i e = product_forth a x y z kinded k h i e (x == y) refl
pair_forth a Sum x y z kinded k h i e =
    let Q : Point → Type 0 = λ s. Three RelatedBy (rules_of Sum) (a x) (a y) s in
    subst Q (sym e) (ways_forth Sum kinded (a x) (a y) (λ g. cc) (λ g. cc) k h i)
pair_forth a Max x y z kinded k h i e =
    let Q : Point → Type 0 = λ s. Three RelatedBy (rules_of Max) (a x) (a y) s in
    subst Q (sym e) (ways_forth Max kinded (a x) (a y) (λ g. cc) (λ g. cc) k h i)
pair_forth a Min x y z kinded k h i e =
    let Q : Point → Type 0 = λ s. Three RelatedBy (rules_of Min) (a x) (a y) s in
    subst Q (sym e) (ways_forth Min kinded (a x) (a y) (λ g. cc) (λ g. cc) k h i)
pair_forth a Less x y z kinded k h i e =
    let Q : Point → Type 0 = λ s. Three RelatedBy (rules_of Less) (a x) (a y) s in
    subst Q (sym e) (ways_forth Less kinded (a x) (a y) (λ g. cc) (λ g. cc) k h i)
pair_forth a And x y z kinded k h i e =
    let Q : Point → Type 0 = λ s. Three RelatedBy (rules_of And) (a x) (a y) s in
    subst Q (sym e) (ways_forth And kinded (a x) (a y) (λ g. cc) (λ g. cc) k h i)
pair_forth a Or x y z kinded k h i e =
    let Q : Point → Type 0 = λ s. Three RelatedBy (rules_of Or) (a x) (a y) s in
    subst Q (sym e) (ways_forth Or kinded (a x) (a y) (λ g. cc) (λ g. cc) k h i)

pub pair_back : (a : ℕ → Point) (op : pairs.Pair) (x y z : ℕ) (kinded : Kinded) → TakesTwo op kinded
    → IsPointOf kinded.kind kinded.size (a x) → IsPointOf kinded.kind kinded.size (a y)
    → IsPointOf (kind_between op).kind (kind_between op).size (a z) → All TellsBy a (pair_acts op x y z)
    → a z ≡ of_two op (a x) (a y)
pair_back a Same x y z kinded k h i j t = same_back a x y z j t
pair_back a Difference x y z kinded k h i j t = difference_back a x y z kinded k h i j t
pair_back a Product x y z kinded k h i j t = product_back a x y z kinded k h i j (x == y) refl t
pair_back a Sum x y z kinded k h i j t = ways_back Sum kinded (a x) (a y) (a z) (λ g. cc) (λ g. cc) k h i j t
pair_back a Max x y z kinded k h i j t = ways_back Max kinded (a x) (a y) (a z) (λ g. cc) (λ g. cc) k h i j t
pair_back a Min x y z kinded k h i j t = ways_back Min kinded (a x) (a y) (a z) (λ g. cc) (λ g. cc) k h i j t
pair_back a Less x y z kinded k h i j t = ways_back Less kinded (a x) (a y) (a z) (λ g. cc) (λ g. cc) k h i j t
pair_back a And x y z kinded k h i j t = ways_back And kinded (a x) (a y) (a z) (λ g. cc) (λ g. cc) k h i j t
pair_back a Or x y z kinded k h i j t = ways_back Or kinded (a x) (a y) (a z) (λ g. cc) (λ g. cc) k h i j t

-- ---- one point

pub single_forth : (a : ℕ → Point) (op : singles.Single) (x y : ℕ)
    → IsPointOf (kind_before op).kind (kind_before op).size (a x) → a y ≡ of_one op (a x)
    → All RelatedBy a (single_acts op x y)
single_forth a Not x y h e =
    let Q : Point → Type 0 = λ s. (RelatedBy (OfKit kits.Not) Plain (a x ∷ []) s) ×
    ((RelatedBy (OfKit kits.Not) Plain (s ∷ []) (a x)) × Unit {0}) in
    subst Q (sym e) (on_truth
    (λ p. (RelatedBy (OfKit kits.Not) Plain (p ∷ []) (of_one Not p)) ×
    ((RelatedBy (OfKit kits.Not) Plain (of_one Not p ∷ []) p) × Unit {0}))
    by (a x) h)
  where
    by : (b : Bool) → (RelatedBy (OfKit kits.Not) Plain (truth_point b ∷ []) (of_one Not (truth_point b)))
        × ((RelatedBy (OfKit kits.Not) Plain (of_one Not (truth_point b) ∷ []) (truth_point b)) × Unit {0})
    by true = (refl, (refl, tt))
    by false = (refl, (refl, tt))
single_forth a Abs x y h e =
    let Q : Point → Type 0 = λ s. (RelatedBy (OfWide wides.Abs) Plain (a x ∷ []) s) ×
    ((RelatedBy (OfWide wides.AbsBack) Plain (s ∷ a x ∷ []) (a x)) × Unit {0}) in
    subst Q (sym e) (on_number 0 (λ p. (RelatedBy (OfWide wides.Abs) Plain (p ∷ []) (of_one Abs p))
    × ((RelatedBy (OfWide wides.AbsBack) Plain (of_one Abs p ∷ p ∷ []) p) × Unit {0}))
    (λ u. (refl, ((refl, refl), tt))) (a x) h)

pub single_back : (a : ℕ → Point) (op : singles.Single) (x y : ℕ)
    → IsPointOf (kind_before op).kind (kind_before op).size (a x)
    → IsPointOf (kind_before op).kind (kind_before op).size (a y) → All TellsBy a (single_acts op x y)
    → a y ≡ of_one op (a x)
single_back a Not x y h j t = on_truths
    (λ p s. TellsBy (OfKit kits.Not) Plain (p ∷ []) s → s ≡ of_one Not p) by (a x) (a y) h j t.0
  where
    by : (b c : Bool) → TellsBy (OfKit kits.Not) Plain (truth_point b ∷ []) (truth_point c) →
        truth_point c ≡ of_one Not (truth_point b)
    by true true e = absurd (cc)
    by true false e = refl
    by false true e = refl
    by false false e = absurd (cc)
single_back a Abs x y h j t =
    on_numbers 0 (λ p s. TellsBy (OfWide wides.Abs) Plain (p ∷ []) s → s ≡ of_one Abs p)
    (λ u v e. ap Number e) (a x) (a y) h j t.0

-- ---- a choice

pub choice_forth : (a : ℕ → Point) (t x y z : ℕ) → IsPointOf (Set 0) 2 (a t) → a z ≡ chosen (a t) (a x) (a y)
    → All RelatedBy a (choice_acts t x y z)
choice_forth a t x y z h e = on_truth (λ p. (s : Point) → s ≡ chosen p (a x) (a y)
    → (RelatedBy (OfWide wides.Choose) Plain (p ∷ a x ∷ a y ∷ []) s) ×
    ((RelatedBy (OfWide wides.Decide) Plain (a x ∷ a y ∷ s ∷ []) p)
    × ((RelatedBy (OfKit kits.Switch) Plain (p ∷ s ∷ []) (a x)) ×
    ((RelatedBy (OfWide wides.Choose) Plain (p ∷ a y ∷ s ∷ []) (a y)) × Unit {0})))) by (a t) h
    (a z) e
  where
    by : (b : Bool) (s : Point) → s ≡ chosen (truth_point b) (a x) (a y)
        → (RelatedBy (OfWide wides.Choose) Plain (truth_point b ∷ a x ∷ a y ∷ []) s) ×
        ((RelatedBy (OfWide wides.Decide) Plain (a x ∷ a y ∷ s ∷ []) (truth_point b))
        × ((RelatedBy (OfKit kits.Switch) Plain (truth_point b ∷ s ∷ []) (a x))
        × ((RelatedBy (OfWide wides.Choose) Plain (truth_point b ∷ a y ∷ s ∷ []) (a y)) × Unit {0})))
    by true s e = (
      record { first = λ _. e; second = λ f. zero_one f },
      (
        record { first = λ _. e; second = λ f. zero_one f },
        (λ _. sym e, (record { first = λ _. refl; second = λ f. zero_one f }, tt)),
      ),
    )
    by false s e = (
      record { first = λ f. one_zero f; second = λ _. e },
      (
        record { first = λ f. one_zero f; second = λ _. e },
        (λ f. one_zero f, (record { first = λ f. one_zero f; second = λ _. sym e }, tt)),
      ),
    )

pub choice_back : (a : ℕ → Point) (t x y z : ℕ) → IsPointOf (Set 0) 2 (a t) → All TellsBy a (choice_acts t x y z)
    → a z ≡ chosen (a t) (a x) (a y)
choice_back a t x y z h all = on_truth
    (λ p. TellsBy (OfWide wides.Choose) Plain (p ∷ a x ∷ a y ∷ []) (a z) → a z ≡ chosen p (a x) (a y)) by (a t) h all.0
  where
    by : (b : Bool) → TellsBy (OfWide wides.Choose) Plain (truth_point b ∷ a x ∷ a y ∷ []) (a z) → a
        z ≡ chosen (truth_point b) (a x) (a y)
    by true e = e.first refl
    by false e = e.second refl
