-- What sets cost that have others, and nodes that move.
use Rattle.std.proofs.Common.{◌≡◌, ◌∙◌, ◌≤◌, ◌<◌, ◌⊎◌, ◌==◌, ◌||◌, ◌++◌, ◌+◌, ℕ, Bool, true, false, List, [], ◌∷◌}
use Rattle.std.proofs.Common.{arith, length, get_or, take, drop, refl, ap, suc, zero, subst, sym, inl, inr}
use Rattle.std.specs.List.{AllByRecursion, sum_by}
use Rattle.std.specs.List.Sorted.{IsStrictlyIncreasing}
use Rattle.std.proofs.lemmas.Bool.Decides.{eqb_tells}
use Rattle.std.proofs.lemmas.List.{take_more}
use Rattle.std.proofs.lemmas.List.Sums.{sum_by-cons}
use Rattle.prop_numbers.specs.Sets.{Members, IsPart, set_of}
use Rattle.prop_numbers.proofs.MergeLemmas.{Rising, rising_from_increasing}
use Rattle.prop_hitting.specs.declared.node.Node.{Node}
use Rattle.prop_hitting.specs.inner.Nodes.{IsIn, IsOneOf}
use Rattle.prop_hitting.proofs.HittingLemmas.{decide}
use Rattle.prop_hitting.proofs.NodeLemmas.{one_first, one_last, one_parts, one_alone}

-- ---- a set costs as much as what it has of it

same : (n p : ℕ) → (n == p) ≡ true → n ≡ p
same n p h = elim (eqb_tells n p) [ inl e ↦ e.1 | inr e ↦ cc (e.0, h) ]

same_test : (p : ℕ) → (p == p) ≡ true
same_test p = elim (eqb_tells p p) [ inl e ↦ e.0 | inr e ↦ absurd (e.1 refl) ]

or_first : (b c : Bool) → b ≡ true → (b || c) ≡ true
or_first true c e = refl
or_first false c e = cc

or_last : (b c : Bool) → c ≡ true → (b || c) ≡ true
or_last true c e = refl
or_last false c e = e

or_cases : (b c : Bool) → (b || c) ≡ true → (b ≡ true) ⊎ (c ≡ true)
or_cases true c h = inl refl
or_cases false c h = inr h

above : (x p : ℕ) (xs : List ℕ) → AllByRecursion (λ y. x < y) xs → set_of xs p ≡ true → x < p
above x p [] h t = cc
above x p (y ∷ ys) h t = elim (or_cases (y == p) (set_of ys p) t) [
  | inl e ↦ omega (arith, same y p e, h.0)
  | inr e ↦ above x p ys h.1 e
]

-- numbers that are all above the first of a list are among the others
behind : (y : ℕ) (ys xs : List ℕ) → ((p : ℕ) → set_of xs p ≡ true → y < p)
    → IsPart (set_of xs) (set_of (y ∷ ys)) → IsPart (set_of xs) (set_of ys)
behind y ys xs over part p has = elim (or_cases (y == p) (set_of ys p) (part p has)) [
  | inl e ↦ absurd (omega (arith, same y p e, over p has))
  | inr e ↦ e
]

cost_rising : (w : ℕ → ℕ) (xs ys : List ℕ) → Rising xs → Rising ys → IsPart (set_of xs) (set_of ys)
    → sum_by w xs ≤ sum_by w ys
cost_rising w [] ys h k part = omega arith
cost_rising w (x ∷ xs) [] h k part = absurd (cc (part x (or_first (x == x) (set_of xs x) (same_test x))))
cost_rising w (x ∷ xs) (y ∷ ys) h k part = elim (decide (y == x)) [
  | inl e ↦
      let first = same y x e in
      let rest = cost_rising w xs ys h.1 k.1
      (behind y ys xs (λ p has. omega (arith, first, above x p xs h.0 has))
      (λ p has. part p (or_last (x == p) (set_of xs p) has))) in
      let costs : w y ≡ w x = ap w first in
      omega (arith, rest, costs, sum_by-cons w x xs, sum_by-cons w y ys)
  | inr e ↦ elim (or_cases (y == x) (set_of ys x) (part x (or_first (x == x) (set_of xs x) (same_test x)))) [
    | inl here ↦ cc (e, here)
    | inr there ↦
        let below = above y x ys k.0 there in
        let rest = cost_rising w (x ∷ xs) ys h k.1 (behind y ys (x ∷ xs)
        (λ p has. elim (or_cases (x == p) (set_of xs p) has) [
          | inl f ↦ omega (arith, below, same x p f)
          | inr f ↦ omega (arith, below, above x p xs h.0 f)
        ]) part) in
        omega (arith, rest, sum_by-cons w y ys)
  ]
]

pub cost_part : (w : ℕ → ℕ) (xs ys : List ℕ) → IsStrictlyIncreasing xs → IsStrictlyIncreasing ys
    → IsPart (set_of xs) (set_of ys) → sum_by w xs ≤ sum_by w ys
cost_part w xs ys h k = cost_rising w xs ys (rising_from_increasing xs h) (rising_from_increasing ys k)

-- ---- nodes

-- a node that is put last
pub one_moved : (h : Members) (ns : List Node) (i : ℕ) (n : Node) → i < length ns → get_or ns i n ≡ n
    → IsOneOf h ns → IsOneOf h ((take i ns ++ drop (suc i) ns) ++ n ∷ [])
one_moved h [] i n within is there = absurd there
one_moved h (m ∷ ms) zero n within is (inl here) =
    one_last h ms (n ∷ []) (inl (subst (λ (x : Node). IsIn x h) is here))
one_moved h (m ∷ ms) zero n within is (inr there) = one_first h ms (n ∷ []) there
one_moved h (m ∷ ms) (suc i) n within is (inl here) = inl here
one_moved h (m ∷ ms) (suc i) n within is (inr there) = inr (one_moved h ms i n (omega (arith, within)) is there)

-- a set of one of the first nodes, and one more
pub one_taken : (h : Members) (ns : List Node) (i : ℕ) (n : Node) → i < length ns → get_or ns i n ≡ n
    → IsOneOf h (take (i + 1) ns) → IsOneOf h (take i ns) ⊎ IsIn n h
one_taken h ns i n within is there =
    elim (one_parts h (take i ns) (n ∷ []) (subst (IsOneOf h) (take_more ns i n within
    ∙ ap (λ x. take i ns ++ x ∷ []) is) there)) [ inl a ↦ inl a | inr b ↦ inr (one_alone h n b) ]
