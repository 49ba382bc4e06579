-- Of single points the rules of excluding answer another one, and only where no two are the same.
use Rattle.std.specs.Prelude.{◌≡◌, ◌≢◌, ◌⊎◌, ℕ, zero, suc, ◌<◌, ℤ, ◌+ℤ◌, ◌-ℤ◌, ◌≤ℤ◌, pos, Bool, true, false}
use Rattle.std.specs.Prelude.{◌==◌, List, [], ◌∷◌, map, length, replicate, if◌then◌else◌}
use Rattle.std.specs.Int.{bit_at}
use Rattle.std.specs.List.{AllByRecursion as Each}
use Rattle.std.proofs.Common.{arith, refl, rules, ap, sym, subst, ◌∙◌, inl, inr, eqb-true, eq-eqb}
use Rattle.std.proofs.lemmas.Int.{ints}
use Rattle.std.proofs.lemmas.Nat.Bits.{bit_at_ones}
use Rattle.prop_lattice.specs.Ends.{some_or_not, elements_from}
use Rattle.prop_lattice.specs.inner.Ends.{AreSome, elements_if}
use Rattle.prop_lattice.specs.Order.{Below, HasElement}
use Rattle.prop_lattice.specs.Points.{Point, Number, Element, Symbol, Holds, IsPointOf}
use Rattle.prop_lattice.specs.declared.elements.Elements as sets
use Rattle.prop_lattice.specs.declared.info.Info.{Info}
use Rattle.prop_lattice.specs.declared.info.Info.TheVariants.{Nothing, Span, Set, Sym, Contradiction}
use Rattle.prop_lattice.specs.declared.info.Kind.TheVariants as kinds
use Rattle.prop_lattice.specs.laws.OrderLaws.{info_laws}
use Rattle.prop_procedures.specs.declared.shape.Kinded.{Kinded}
use Rattle.prop_procedures.specs.declared.shape.Param.{Param}
use Rattle.prop_procedures.specs.declared.shape.Param.TheVariants.{Plain, Scale, Rows}
use Rattle.prop_procedures.specs.declared.shape.Shape.{Shape}
use Rattle.prop_procedures.specs.declared.shape.Shape.TheVariants.{Any, From}
use Rattle.prop_procedures.specs.declared.shape.Need.TheVariants as needs
use Rattle.prop_procedures.specs.laws.Admitted.{may_be_given}
use Rattle.prop_procedures.specs.inner.Places.{Admits, AreSides}
use Rattle.prop_procedures.specs.inner.Places.{AreOf}
use Rattle.prop_sets.specs.laws.NarrowestLaws.{bit_from_held}
use Rattle.prop_hall.specs.Excluder.{IsAnother, among, beside, left_by, others_of}
use Rattle.prop_hall.specs.Excluding.{excluded_of, told, told_by}
use Rattle.prop_hall.specs.Hulls.{all_bits, all_of, hull_of, narrowed, points_in, without_of}
use Rattle.prop_hall.specs.Points.{AreDifferent, IsNoneOf}
use Rattle.prop_hall.specs.Selections.{selections}
use Rattle.prop_hall.specs.declared.excluder.Excluder.TheVariants.{Eight}
use Rattle.prop_hall.specs.laws.ExcludingLaws.{first_is, last_is, others, others_lacks, told_over, told_tight}
use Rattle.prop_hall.specs.laws.HullLaws.{below_holds, fewer_points, hull_greatest, never}
use Rattle.prop_hall.specs.laws.MergeLaws.{all_above_each, all_above_first}
use Rattle.prop_hall.specs.laws.SelectionLaws.{each_split, each_unmap, each_weaker}
use Rattle.prop_points.specs.Singles.{IsSingle, AreSingle}
use Rattle.prop_points.specs.Wide.{ExcludersAreExact}
use Rattle.prop_points.proofs.Numbers.{span_from_held}
use Rattle.prop_points.proofs.Singles.{single_only}

-- ---- single points

single_count : (a : Info) (p : Point) → IsSingle a p → points_in a ≡ 1
single_count (Span s) (Number v) e = omega (arith, ints, e.0, e.1)
single_count (Set s) (Element i) e = e.0
single_count (Sym a) (Symbol b) e = refl
single_count a p e = search rules

hull_alone : (a : Info) → hull_of (a ∷ []) ≡ a
hull_alone Nothing = refl
hull_alone (Span s) = refl
hull_alone (Set s) = refl
hull_alone (Sym s) = refl
hull_alone Contradiction = refl

-- what holds the point of a single one says no more
below_held : (x : Info) (p : Point) (y : Info) → IsSingle x p → IsSingle y p → Below y x
below_held (Span a) (Number v) (Span b) e f = (omega (arith, ints, e.0, f.0), omega (arith, ints, e.1, f.1))
below_held (Set a) (Element i) (Set b) e f = λ j k. by (single_only (Set a) (Element i) (Element j) e k)
  where
    by : {j : ℕ} → Element j ≡ Element i → HasElement b j
    by {j} s = subst (Holds (Set b)) (sym s) f.1
below_held (Sym a) (Symbol c) (Sym b) e f = f ∙ sym e
below_held x p y e f = search rules

-- two single ones of one point have no more than one together
hull_same : (a b : Info) (p : Point) → IsSingle a p → IsSingle b p → points_in (hull_of (a ∷ b ∷ [])) < 2
hull_same a b p e f =
    let fewer = fewer_points a (hull_of (a ∷ b ∷ []))
    (hull_greatest a (hull_of (b ∷ [])) a (info_laws.reflexive a)
    (subst (Below a) (sym (hull_alone b)) (below_held b p a f e))) in
    omega (arith, fewer.0, single_count a p e)

-- ---- what selections tell

empty_selected : {X : Type 0} (P : List X → Type 0) (xs : List X) → Each P (selections xs) → P []
empty_selected P [] h = h.0
empty_selected P (x ∷ xs) h =
    empty_selected P xs (each_split P (selections xs) (map (λ s. x ∷ s) (selections xs)) h).0

-- those with the first item
with_first : {X : Type 0} (P : List X → Type 0) (x : X) (xs : List X) → Each P (selections (x ∷ xs))
    → Each (λ s. P (x ∷ s)) (selections xs)
with_first P x xs h =
    each_unmap P (λ s. x ∷ s) (selections xs)
    (each_split P (selections xs) (map (λ s. x ∷ s) (selections xs)) h).1

without_first : {X : Type 0} (P : List X → Type 0) (x : X) (xs : List X) → Each P (selections (x ∷ xs))
    → Each P (selections xs)
without_first P x xs h = (each_split P (selections xs) (map (λ s. x ∷ s) (selections xs)) h).0

module _ (y : Info) (point : Point)
    (apart : (o : Info) (q : Point) → IsSingle o q → Holds (without_of y o) point → point ≢ q) where
  -- what a selection tells leaves the point
  abbrev Leaves : List Info → Type 0
  Leaves s = Holds (told_by y s) point

  another : (o : Info) (q : Point) → IsSingle o q → Leaves (o ∷ []) → point ≢ q
  another o q e h =
      apart o q e (subst (λ a. Holds a point) (told_tight 1 o y (single_count o q e))
      (subst (λ a. Holds (told 1 a y) point) (hull_alone o) h))

  two : (o u : Info) (q r : Point) → IsSingle o q → IsSingle u r → Leaves (o ∷ u ∷ []) → q ≢ r
  two o u q r e f h same =
      subst (λ a. Holds a point) (told_over 2 (hull_of (o ∷ u ∷ [])) y
      (hull_same o u q e (subst (IsSingle u) (sym same) f))) h

  none : (others : List Info) (points : List Point) → AreSingle others points → Each Leaves (selections others)
      → IsNoneOf point points
  none [] [] e h = tt
  none (o ∷ others) (q ∷ points) e h = (
    another o q e.0 (empty_selected (λ s. Leaves (o ∷ s)) others (with_first Leaves o others h)),
    none others points e.1 (without_first Leaves o others h),
  )
  none [] (q ∷ points) e h = absurd e
  none (o ∷ others) [] e h = absurd e

  first_differs : (o : Info) (q : Point) → IsSingle o q → (others : List Info) (points : List Point)
      → AreSingle others points → Each (λ s. Leaves (o ∷ s)) (selections others) → IsNoneOf q points
  first_differs o q d [] [] e h = tt
  first_differs o q d (u ∷ others) (r ∷ points) e h = (
    two o u q r d e.0
        (empty_selected (λ s. Leaves (o ∷ u ∷ s)) others (with_first (λ s. Leaves (o ∷ s)) u others h)),
    first_differs o q d others points e.1 (without_first (λ s. Leaves (o ∷ s)) u others h),
  )
  first_differs o q d [] (r ∷ points) e h = absurd e
  first_differs o q d (u ∷ others) [] e h = absurd e

  all_differ : (others : List Info) (points : List Point) → AreSingle others points
      → Each Leaves (selections others) → AreDifferent points
  all_differ [] [] e h = tt
  all_differ (o ∷ others) (q ∷ points) e h = (
    first_differs o q e.0 others points e.1 (with_first Leaves o others h),
    all_differ others points e.1 (without_first Leaves o others h),
  )
  all_differ [] (q ∷ points) e h = absurd e
  all_differ (o ∷ others) [] e h = absurd e

  pub different : (others : List Info) (points : List Point) → AreSingle others points
      → Holds (excluded_of y others) point → AreDifferent (point ∷ points)
  different others points e h = (none others points e leaves, all_differ others points e leaves)
    where
      leaves : Each Leaves (selections others)
      leaves = each_unmap (λ a. Holds a point) (told_by y) (selections others)
          (each_weaker (λ a. Below a (excluded_of y others)) (λ a. Holds a point)
          (λ a b. below_holds a (excluded_of y others) point b h) (map (told_by y) (selections others))
          (all_above_each y (map (told_by y) (selections others))))

-- ---- without a point

-- nothing is left of a single one without it
nothing_left : (y o : Info) (p : Point) → IsSingle y p → IsSingle o p → Holds (without_of y o) p → ⊥
nothing_left (Span y) (Span o) (Number v) e f h = by (first_is y o) (last_is y o) (span_from_held _ _ v h)
  where
    by : {a b : ℤ} → ((o.lo ≤ℤ y.lo) × (y.lo ≤ℤ o.hi) × (a ≡ o.hi +ℤ pos 1))
        ⊎ (((o.lo ≤ℤ y.lo) × (y.lo ≤ℤ o.hi) → ⊥) × (a ≡ y.lo))
        → ((o.lo ≤ℤ y.hi) × (y.hi ≤ℤ o.hi) × (b ≡ o.lo -ℤ pos 1))
        ⊎ (((o.lo ≤ℤ y.hi) × (y.hi ≤ℤ o.hi) → ⊥) × (b ≡ y.hi)) → (a ≤ℤ v) × (v ≤ℤ b) → ⊥
    by (inl i) last h = omega (arith, ints, i.2, f.1, h.0)
    by (inr i) last h = i.0 (omega (arith, ints, e.0, f.0), omega (arith, ints, e.0, f.1))
nothing_left (Set y) (Set o) (Element i) e f h = others_lacks y o i (bit_from_held _ i h) f.1
nothing_left (Sym y) (Sym o) (Symbol c) e f h = by (y == o) refl h
  where
    by : (t : Bool) → (y == o) ≡ t → Holds (if t then Contradiction else Sym y) (Symbol c) → ⊥
    by true g h = h
    by false g h = never (sym g ∙ eq-eqb y o (e ∙ sym f))
nothing_left y o p e f h = search rules

-- nor any element of a set without it
element_left : (bits : ℕ) (o : sets.Elements) (i : ℕ) → HasElement o i
    → Holds (without_of (elements_from bits) (Set o)) (Element i) → ⊥
unfolding elements_from
element_left bits o i f h = by (some_or_not bits) h
  where
    by : (d : AreSome bits ⊎ ¬ (AreSome bits)) → Holds (without_of (elements_if bits d) (Set o)) (Element i) → ⊥
    by (inl d) h =
        others_lacks (record { bits = bits; some = d.0; fits = d.1 }) o i (bit_from_held (others bits o.bits) i h) f
    by (inr d) h = h

-- ---- the rules

length_of : (any : Shape → Kinded) (s : Shape) (n : ℕ) (infos : List Info) → AreOf any (replicate n s) infos
    → length infos ≡ n
length_of any s zero [] o = refl
length_of any s (suc n) (a ∷ infos) o = ap suc (length_of any s n infos o.1)
length_of any s zero (a ∷ infos) o = absurd o
length_of any s (suc n) [] o = absurd o

beside_exact : (any : Shape → Kinded) (many : ℕ) (args : List Info) (points : List Point) (point : Point)
    → AreOf any (Any 0 ∷ replicate many (Any 0)) args → AreSingle args points → Holds (beside many args) point
    → IsAnother points point
beside_exact any many (y ∷ others) (p ∷ points) point o e h =
    by (length others == many) (eq-eqb (length others) many (length_of any (Any 0) many others o.1)) h
  where
    found : Holds (excluded_of y others) point → IsAnother (p ∷ points) point
    found h =
        let same : point ≡ p = single_only y p point e.0
        (below_holds y (excluded_of y others) point (all_above_first y (map (told_by y) (selections others))) h) in
        let all = different y point (λ u q f k i. nothing_left y u point (subst (IsSingle y) (sym same) e.0)
        (subst (IsSingle u) (sym i) f) k) others points e.1 h in
        (same, subst (λ q. AreDifferent (q ∷ points)) same all)

    by : (t : Bool) → t ≡ true → Holds (if t then excluded_of y others else Nothing) point
        → IsAnother (p ∷ points) point
    by true g h = found h
    by false g h = absurd (never g)
beside_exact any many [] points point o e h = absurd o
beside_exact any many (y ∷ others) [] point o e h = absurd e

-- where all elements are left, each is
narrowed_held : (d size : ℕ) (a : Info) (p : Point) → IsPointOf (kinds.Set d) size p → Holds (narrowed size a) p
    → Holds a p
narrowed_held d size (Set s) (Element i) l h = by (s.bits == all_bits size) refl h
  where
    by : (t : Bool) → (s.bits == all_bits size) ≡ t → Holds (if t then Nothing else Set s) (Element i)
        → HasElement s i
    by true g h = ap (λ n. bit_at n i) (eqb-true s.bits (all_bits size) g) ∙ bit_at_ones size i l
    by false g h = h
narrowed_held d size (Set s) (Number v) l h = absurd l
narrowed_held d size (Set s) (Symbol c) l h = absurd l
narrowed_held d size a p l h = h

among_exact : (any : Shape → Kinded) (param : Param) (args : List Info) (points : List Point) (point : Point)
    → AreSides any param → AreOf any (replicate 8 From) args → AreSingle args points
    → IsPointOf (any From).kind (any From).size point → Holds (among param args) point
    → Admits needs.Rows param → AreDifferent (point ∷ points)
among_exact any (Rows m) args points point s o e p h a =
    by (length args == 8) (eq-eqb (length args) 8 (length_of any From 8 args o)) h
  where
    all : Info
    all = all_of m.from.size

    of_kind : IsPointOf (kinds.Set m.from.domain) m.from.size point
    of_kind = subst (λ k. IsPointOf k.kind k.size point) s.0 p

    apart : (u : Info) (q : Point) → IsSingle u q → Holds (without_of all u) point → point ≢ q
    apart (Set u) (Element i) f h same =
        element_left (all_bits m.from.size) u i f.1 (subst (Holds (without_of all (Set u))) same h)
    apart (Span u) q f h same = by q f (subst (IsPointOf (kinds.Set m.from.domain) m.from.size) same of_kind)
      where
        by : (q : Point) → IsSingle (Span u) q → IsPointOf (kinds.Set m.from.domain) m.from.size q → ⊥
        by (Number v) f k = k
        by (Element i) f k = f
        by (Symbol c) f k = f
    apart (Sym u) q f h same = by q f (subst (IsPointOf (kinds.Set m.from.domain) m.from.size) same of_kind)
      where
        by : (q : Point) → IsSingle (Sym u) q → IsPointOf (kinds.Set m.from.domain) m.from.size q → ⊥
        by (Number v) f k = f
        by (Element i) f k = f
        by (Symbol c) f k = k
    apart (Set u) (Number v) f h same = f
    apart (Set u) (Symbol c) f h same = f
    apart Nothing q f h same = f
    apart Contradiction q f h same = f

    by : (t : Bool) → t ≡ true → Holds (if t then left_by m args else Nothing) point → AreDifferent (point ∷ points)
    by true g h =
        different all point apart args points e
        (narrowed_held m.from.domain m.from.size (excluded_of all args) point of_kind h)
    by false g h = absurd (never g)
among_exact any Plain args points point s o e p h a = absurd a
among_exact any (Scale k) args points point s o e p h a = absurd a

pub excluders_are_exact : ExcludersAreExact
excluders_are_exact Eight ins out need f any param args points point c e p h =
    among_exact any param args points point c.sides (rw f.0 at c.of_kinds) e (rw f.1 at p) h
    (rw f.2 at (may_be_given need param c.admits))
excluders_are_exact rule ins out need f any param args points point c e p h =
    beside_exact any (others_of rule) args points point (rw f.0 at c.of_kinds) e h
