-- What the functions of truths, and of any kind, answer to single points.
use Rattle.std.specs.Prelude.{◌≡◌, ◌≢◌, ◌↔◌, ℕ, ◌<◌, Bool, true, false, ◌&&◌, if◌then◌else◌}
use Rattle.std.proofs.Common.{arith, refl, rules, ap, sym, subst, ◌∙◌, inl, inr, eq-eqb}
use Rattle.prop_intervals.specs.Comparisons.{yes_bits, no_bits}
use Rattle.prop_lattice.specs.Ends.{elements_from}
use Rattle.prop_lattice.specs.Order.{Below, HasElement, merge_of, is_contradiction}
use Rattle.prop_lattice.specs.Points.{Point, Number, Element, Symbol, Holds}
use Rattle.prop_lattice.specs.declared.elements.Elements as sets
use Rattle.prop_lattice.specs.declared.info.Info.{Info}
use Rattle.prop_lattice.specs.declared.info.Info.TheVariants.{Nothing, Span, Set, Sym, Contradiction}
use Rattle.prop_lattice.specs.laws.OrderLaws.{info_laws}
use Rattle.std.proofs.lemmas.Int.{ints}
use Rattle.prop_sets.specs.Images.{image_of, coimage_of}
use Rattle.prop_sets.specs.Relation.{Relation, HasPair}
use Rattle.prop_sets.specs.Truth.{LeavesJust, IsLeftByOne, IsLeftByTwo}
use Rattle.prop_sets.specs.laws.ImageLaws.{image_just, coimage_just}
use Rattle.prop_arith.specs.Comparing.{is_single}
use Rattle.prop_arith.specs.inner.Compared.{is_just}
use Rattle.prop_arith.specs.inner.Compared.{comparer_of}
use Rattle.prop_arith.specs.laws.SingleLaws.{single_stays}
use Rattle.prop_hall.specs.laws.HullLaws.{below_holds, never}
use Rattle.prop_points.specs.Singles.{IsSingle}
use Rattle.prop_points.proofs.Numbers.{yes_held, no_held, truth_is}
use Rattle.prop_points.proofs.Singles.{single_tested, single_holds, single_only}

element_of : Point → ℕ
element_of (Element i) = i
element_of p = 0

-- the only element of a single set
pub only_element : (x : Info) (i j : ℕ) → IsSingle x (Element i) → Holds x (Element j) → j ≡ i
unfolding element_of
only_element x i j e h = ap element_of (single_only x (Element i) (Element j) e h)

-- ---- not, and, or

pub one_truth_exact : (related : ℕ → ℕ → Type 0) (x r : Info) (i y : ℕ) → LeavesJust (IsLeftByOne related x) r
    → y < 2 → IsSingle x (Element i) → Holds r (Element y) → related i y
one_truth_exact related x r i y just l e h =
    let left = (just y l).0 h in
    subst (λ t. related t y) (only_element x i left.input e left.left) left.belongs

pub two_truths_exact : (related : ℕ → ℕ → ℕ → Type 0) (x y r : Info) (i j z : ℕ)
    → LeavesJust (IsLeftByTwo related x y) r → z < 2 → IsSingle x (Element i) → IsSingle y (Element j)
    → Holds r (Element z) → related i j z
two_truths_exact related x y r i j z just l e f h =
    let left = (just z l).0 h in
    let first : related i left.second z =
    subst (λ t. related t left.second z) (only_element x i left.first e left.first_left) left.belongs in
    subst (λ t. related i t z) (only_element y j left.second f left.second_left) first

-- ---- along a relation

pub image_exact : (m : Relation) (x : sets.Elements) (i j : ℕ) → IsSingle (Set x) (Element i)
    → Holds (image_of m x) (Element j) → HasPair m i j
image_exact m x i j e h =
    let pair = (image_just m x j).0 h in
    subst (λ t. HasPair m t j) (only_element (Set x) i pair.0 e pair.1) pair.2

pub coimage_exact : (m : Relation) (y : sets.Elements) (j i : ℕ) → IsSingle (Set y) (Element j)
    → Holds (coimage_of m y) (Element i) → HasPair m i j
coimage_exact m y j i e h =
    let pair = (coimage_just m y i).0 h in
    subst (λ t. HasPair m i t) (only_element (Set y) j pair.0 e pair.1) pair.2

-- ---- the same

contradiction_is : (a : Info) → is_contradiction a ≡ true → a ≡ Contradiction
contradiction_is Contradiction e = refl
contradiction_is Nothing e = absurd (never e)
contradiction_is (Span a) e = absurd (never e)
contradiction_is (Set a) e = absurd (never e)
contradiction_is (Sym a) e = absurd (never e)

no_contradiction : (a : Info) → is_contradiction a ≡ false → a ≢ Contradiction
no_contradiction a e f = never (sym e ∙ ap is_contradiction f)

-- what holds the point of a single one says no more
below_held : (x : Info) (p : Point) (y : Info) → IsSingle x p → Holds y p → Below y x
below_held (Span a) (Number v) (Span b) e h = (omega (arith, ints, e.0, h.0), omega (arith, ints, e.1, h.1))
below_held (Set a) (Element i) (Set b) e h =
    λ j k. subst (HasElement b) (sym (only_element (Set a) i j e k)) h
below_held (Sym a) (Symbol c) (Sym b) e h = h ∙ sym e
below_held x p Nothing e h = tt
below_held x p y e h = search rules

-- where both leave one point, which is the same, they don't contradict each other
same_merge : (x y : Info) (p : Point) → IsSingle x p → IsSingle y p → merge_of x y ≢ Contradiction
same_merge x y p e f h =
    subst (λ a. Holds a p) h (below_holds (merge_of x y) x p
    ((info_laws.least_above x y).least x (info_laws.reflexive x) (below_held x p y e (single_holds y p f)))
    (single_holds x p e))

-- single points that don't contradict each other are the same
pub merged_same : (x y : Info) (p q : Point) → IsSingle x p → IsSingle y q → is_contradiction (merge_of x y) ≡ false
    → p ≡ q
merged_same x y p q e f g =
    let n = no_contradiction (merge_of x y) g in
    let above = info_laws.least_above x y in
    let first : x ≡ merge_of x y = single_stays x (merge_of x y) above.above_first n (single_tested x p e) in
    let second : y ≡ merge_of x y = single_stays y (merge_of x y) above.above_second n (single_tested y q f) in
    single_only y q p f (subst (λ a. Holds a p) (first ∙ sym second) (single_holds x p e))

pub comparer_exact : (x y : Info) (p q : Point) (t : ℕ) → IsSingle x p → IsSingle y q
    → Holds (comparer_of x y) (Element t) → (t ≡ 0) ↔ (p ≡ q)
comparer_exact x y p q t e f h =
    by (is_contradiction (merge_of x y)) refl (is_single x && is_single y) refl h
  where
    tested : (is_single x && is_single y) ≡ true
    tested = (λ i. single_tested x p e i && is_single y) ∙ single_tested y q f

    by : (r : Bool) → is_contradiction (merge_of x y) ≡ r → (s : Bool) → (is_single x && is_single y) ≡ s
        → Holds (if r then elements_from no_bits else (if s then elements_from yes_bits else Nothing)) (Element t)
        → (t ≡ 0) ↔ (p ≡ q)
    by true g s k h = (
      λ z. absurd (omega (arith, z, no_held t h)),
      λ z. absurd (same_merge x y p e (subst (IsSingle y) (sym z) f) (contradiction_is (merge_of x y) g)),
    )
    by false g true k h = (λ z. merged_same x y p q e f g, λ z. yes_held t h)
    by false g false k h = absurd (never (sym k ∙ tested))

-- ---- passing on

pub yes_tested : (s : sets.Elements) (i : ℕ) → i < 2 → IsSingle (Set s) (Element i) → i ≡ 0
    → is_just yes_bits (Set s) ≡ true
yes_tested s i l e z = elim (truth_is s i l e) [
  | inl d ↦ eq-eqb s.bits yes_bits d.1
  | inr d ↦ absurd (omega (arith, z, d.0))
]
