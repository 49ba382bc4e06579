-- Which rules answer the narrowest information, and why.
use Rattle.std.specs.Prelude.{◌≡◌, ℕ, ◌≤◌, ◌*◌, zero, suc, ℤ, pos, neg_ℤ, ◌+ℤ◌, ◌*ℤ◌, ◌≤ℤ◌, ◌<ℤ◌}
use Rattle.std.specs.Prelude.{if◌then◌else◌, List, [], ◌∷◌, Option, Some, None}
use Rattle.std.proofs.Common.{arith, refl, rules, sym, subst, negsuc}
use Rattle.std.proofs.lemmas.Nat.{mul-le}
use borrow.Author.Differences.{product_is, same_in}
use Rattle.std.proofs.lemmas.Int.{ints}
use Rattle.prop_intervals.specs.Narrowest.{IsNarrowest as IsTightest}
use Rattle.prop_intervals.specs.Quotients.{int_div_ceil}
use Rattle.prop_intervals.specs.inner.Parts.{int_div_floor}
use Rattle.prop_intervals.specs.laws.QuotientLaws.{product-add, floor-lt, ceil-parts}
use Rattle.prop_intervals.specs.Relations.{IsSum, IsProduct, IsSquare, BelongsToOne, BelongsToTwo}
use Rattle.prop_intervals.specs.Roots.{IsRoot, first_of, last_of, root_of}
use Rattle.prop_intervals.specs.laws.RootLaws.{square_is, root_of-narrowest, root_kind}
use Rattle.prop_intervals.specs.Spans.{least_product, greatest_product, product_of}
use Rattle.prop_intervals.specs.laws.SumLaws.{sum_kind, sum_narrowest, difference_kind}
use Rattle.prop_intervals.specs.laws.SumLaws.{difference_narrowest}
use Rattle.prop_intervals.specs.laws.ProductLaws.{product_within, product_kind, product_narrowest}
use Rattle.prop_intervals.specs.laws.SquareLaws.{square_within, square_kind, square_narrowest}
use Rattle.prop_lattice.specs.Points.{Number, Element, Holds}
use Rattle.prop_lattice.specs.Order.{HasElement}
use Rattle.prop_lattice.specs.Rank.{IsOf}
use Rattle.prop_lattice.specs.declared.info.Info.{Info}
use Rattle.prop_lattice.specs.declared.info.Info.TheVariants.{Nothing, Span, Set}
use Rattle.prop_lattice.specs.declared.info.Kind.{Kind}
use Rattle.prop_lattice.specs.declared.info.Kind.TheVariants as kinds
use Rattle.prop_lattice.specs.declared.elements.Elements as sets
use Rattle.prop_lattice.specs.declared.span.Span as spans
use Rattle.prop_sets.specs.laws.ImageLaws.{image_kind, image_narrowest, coimage_kind}
use Rattle.prop_sets.specs.laws.ImageLaws.{coimage_narrowest}
use Rattle.prop_sets.specs.Narrowest.{IsNarrowest as IsLeast}
use Rattle.prop_sets.specs.Relation.{HasPair}
use Rattle.prop_arith.specs.laws.Combined.{Combined, RelatesOne, RelatesTwo, RelatesElement}
use Rattle.prop_arith.specs.laws.CombinedLaws.{related_is}
use Rattle.prop_arith.specs.laws.NumberLaws.{at_least_one}
use Rattle.prop_arith.specs.Points.{Related}
use Rattle.prop_arith.specs.declared.kit.Kit.{Kit}
use Rattle.prop_arith.specs.declared.kit.Kit.TheVariants.{Add, Sub, Mul, Square, Root, Image}
use Rattle.prop_arith.specs.declared.kit.Kit.TheVariants.{Coimage}
use Rattle.prop_procedures.specs.declared.shape.Param.{Param}
use Rattle.prop_procedures.specs.declared.shape.Param.TheVariants.{Scale, Rows}
use Rattle.prop_arith.specs.Narrowest.{HoldsRelated, IsNarrowest, AddIsNarrowest, SubIsNarrowest}
use Rattle.prop_arith.specs.Narrowest.{MulIsNarrowest, SquareIsNarrowest, RootIsNarrowest}
use Rattle.prop_arith.specs.Narrowest.{ImageIsNarrowest, CoimageIsNarrowest}

-- what is narrowest by functions of functions is so by the table
of_rule : (rule : Kit) (param : Param) (kind : Kind) (size : ℕ) (args : List Info) (v : Info)
    → IsNarrowest (Combined rule param) kind size args v
    → IsNarrowest (Related rule param) kind size args v
of_rule rule param kind size args v =
    subst (λ (P : Type 0). P) (λ i.
    IsNarrowest (λ points point. related_is rule param points point i) kind size args v)

-- ---- from numbers to points

one_narrowest : (related : ℤ → ℤ → Type 0) (a : spans.Span) (v : Info) → IsOf kinds.Span 0 v
    → IsTightest (BelongsToOne related a) v
    → IsNarrowest (RelatesOne related) kinds.Span 0 (Span a ∷ []) v
one_narrowest related a v k n = record {
  of_kind = k;
  holds = holds;
  highest = λ other j h. n.highest other (λ y p. h (Number p.0 ∷ []) (Number y) (p.1, tt) p.2);
}
  where
    holds : HoldsRelated (RelatesOne related) (Span a ∷ []) v
    holds (Number x ∷ []) (Number y) e r = n.holds y (x, e.0, r)
    holds points point e r = search rules

two_narrowest : (related : ℤ → ℤ → ℤ → Type 0) (a b : spans.Span) (v : Info) → IsOf kinds.Span 0 v
    → IsTightest (BelongsToTwo related a b) v
    → IsNarrowest (RelatesTwo related) kinds.Span 0 (Span a ∷ Span b ∷ []) v
two_narrowest related a b v k n = record {
  of_kind = k;
  holds = holds;
  highest = λ other j h. n.highest other
      (λ z p. h (Number p.0 ∷ Number p.1 ∷ []) (Number z) (p.2, (p.3, tt)) p.4);
}
  where
    holds : HoldsRelated (RelatesTwo related) (Span a ∷ Span b ∷ []) v
    holds (Number x ∷ Number y ∷ []) (Number z) e r = n.holds z (x, y, e.0, e.1.0, r)
    holds points point e r = search rules

-- ---- sums and differences

pub add_is_narrowest : AddIsNarrowest
add_is_narrowest param x y r =
    of_rule Add param _ _ _ _ (two_narrowest IsSum x y _ (sum_kind 0 x y)
    (sum_narrowest x y (r.0, omega (arith, ints, x.ordered, y.ordered), r.1)))

pub sub_is_narrowest : SubIsNarrowest
sub_is_narrowest param z x r =
    of_rule Sub param _ _ _ _ (two_narrowest (λ z x y. IsSum x y z) z x _ (difference_kind 0 z x)
    (difference_narrowest z x (r.0, omega (arith, ints, z.ordered, x.ordered), r.1)))

-- ---- products

one_product : (d : ℤ) → (pos 1 *ℤ d) ≡ d
one_product d = same_in _ _ (omega (arith, product_is (pos 1) d))

rounded_ordered : (m n k : ℤ) → pos 1 ≤ℤ k → m ≤ℤ n → int_div_floor m k ≤ℤ int_div_ceil n k
rounded_ordered m n k s h =
    let up = (ceil-parts n k (omega (arith, ints))).0 in
    let less = floor-lt m k (int_div_ceil n k +ℤ pos 1) (omega (arith, ints))
    (over (int_div_ceil n k *ℤ k) ((int_div_ceil n k +ℤ pos 1) *ℤ k) (pos 1 *ℤ k)
    (product-add (int_div_ceil n k) (pos 1) k) (one_product k) up) in
    omega (arith, ints)
  where
    over : (q t e : ℤ) → t ≡ q +ℤ e → e ≡ k → n ≤ℤ q → m <ℤ t
    over q t e i j l = omega (arith, ints, h, s)

pub mul_is_narrowest : MulIsNarrowest
mul_is_narrowest k x y s r =
    let within = product_within x y x.lo y.lo (omega (arith, ints), x.ordered)
    (omega (arith, ints), y.ordered) in
    let ordered = rounded_ordered (least_product x y) (greatest_product x y) k (at_least_one k s)
    (between _ _ _ within.0 within.1) in
    of_rule Mul (Scale k) _ _ _ _
    (subst (λ t. IsNarrowest (RelatesTwo (IsProduct k)) kinds.Span 0 (Span x ∷ Span y ∷ [])
    (if t then product_of x y k else Nothing)) (sym s)
    (two_narrowest (IsProduct k) x y _ (product_kind 0 x y k)
    (product_narrowest x y k (at_least_one k s) (r.0, ordered, r.1))))
  where
    between : (a b c : ℤ) → a ≤ℤ b → b ≤ℤ c → a ≤ℤ c
    between a b c p q = omega (arith, ints)

-- ---- squares and roots

pub square_is_narrowest : SquareIsNarrowest
square_is_narrowest param x r =
    let within = square_within x x.lo (omega (arith, ints), x.ordered) in
    of_rule Square param _ _ _ _ (one_narrowest IsSquare x _ (square_kind 0 x)
    (square_narrowest x (r.0, between _ _ _ within.0 within.1, r.1)))
  where
    between : (a b c : ℤ) → a ≤ℤ b → b ≤ℤ c → a ≤ℤ c
    between a b c p q = omega (arith, ints)

-- no number is larger in magnitude than its square
at_most_square : (n : ℕ) → n ≤ n * n
at_most_square zero = omega arith
at_most_square (suc n) = omega (arith, mul-le 1 (suc n) (suc n) (suc n) (omega arith) (omega arith))

square_bounds : (v m : ℤ) → (v *ℤ v) ≤ℤ m → (neg_ℤ m ≤ℤ v) × (v ≤ℤ m)
square_bounds (pos n) m h =
    let least = at_most_square n in
    let is = square_is (pos n) in
    (omega (arith, ints), omega (arith, ints))
square_bounds (negsuc n) m h =
    let least = at_most_square (suc n) in
    let is = square_is (negsuc n) in
    (omega (arith, ints), omega (arith, ints))

root_narrowest : (y : spans.Span) (x : Option spans.Span) (known : Info)
    → ((v : ℤ) → first_of x ≤ℤ v → v ≤ℤ last_of x → Holds known (Number v))
    → ((v : ℤ) → Holds known (Number v) → (v *ℤ v) ≤ℤ y.hi → (first_of x ≤ℤ v) × (v ≤ℤ last_of x))
    → IsNarrowest (RelatesTwo (λ w u v. (v ≡ u) × IsSquare u w)) kinds.Span 0 (Span y ∷ known ∷ [])
    (root_of y x)
root_narrowest y x known into out = record {
  of_kind = root_kind 0 y x;
  holds = holds;
  highest = λ other j h. n.highest other
      (λ v p. h (Number (v *ℤ v) ∷ Number v ∷ []) (Number v)
      ((p.square_from, p.square_to), (into v p.from p.to, tt)) (refl, refl));
}
  where
    n : IsTightest (IsRoot y x) (root_of y x)
    n = root_of-narrowest y x

    holds : HoldsRelated (RelatesTwo (λ w u v. (v ≡ u) × IsSquare u w)) (Span y ∷ known ∷ [])
        (root_of y x)
    holds (Number w ∷ Number u ∷ []) (Number v) e r =
        let to : (u *ℤ u) ≤ℤ y.hi = rw (← r.1) e.0.1 in
        let range = out u e.1.0 to in
        rw r.0 (n.holds u (record {
          from = range.0;
          to = range.1;
          square_from = rw (← r.1) e.0.0;
          square_to = to;
        }))
    holds points point e r = search rules

pub root_is_narrowest : RootIsNarrowest
root_is_narrowest param y x = (
  of_rule Root param _ _ _ _ (root_narrowest y (Some x) (Span x) (λ v p q. (p, q))
      (λ v h l. (h.0, h.1))),
  of_rule Root param _ _ _ _ (root_narrowest y None Nothing (λ v p q. tt)
      (λ v h l. let b = square_bounds v y.hi l
      in (omega (arith, ints, y.below), omega (arith, ints, y.below)))),
)

-- ---- along a relation

set_narrowest : (kind : Kind) (size : ℕ) (related : ℕ → ℕ → Type 0) (a : sets.Elements) (v : Info)
    → IsOf kind size v → IsLeast (λ j. (i : ℕ) × HasElement a i × related i j) v
    → IsNarrowest (RelatesElement related) kind size (Set a ∷ []) v
set_narrowest kind size related a v k n = record {
  of_kind = k;
  holds = holds;
  highest = λ other j h. n.highest other (λ y p. h (Element p.0 ∷ []) (Element y) (p.1, tt) p.2);
}
  where
    holds : HoldsRelated (RelatesElement related) (Set a ∷ []) v
    holds (Element x ∷ []) (Element y) e r = n.holds y (x, e.0, r)
    holds points point e r = search rules

pub image_is_narrowest : ImageIsNarrowest
image_is_narrowest m x =
    of_rule Image (Rows m) _ _ _ _
    (set_narrowest (kinds.Set m.to.domain) m.to.size (HasPair m) x _
    (image_kind m.to.domain m x) (image_narrowest m x))

pub coimage_is_narrowest : CoimageIsNarrowest
coimage_is_narrowest m y =
    of_rule Coimage (Rows m) _ _ _ _
    (set_narrowest (kinds.Set m.from.domain) m.from.size (λ j i. HasPair m i j) y _
    (coimage_kind m.from.domain m y) (coimage_narrowest m y))
