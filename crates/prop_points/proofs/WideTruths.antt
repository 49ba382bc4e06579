-- What the functions beside the kit's answer to single truths, and to single points of any kind.
use Rattle.std.specs.Prelude.{◌≡◌, ◌⊎◌, ℕ, zero, suc, ◌+◌, ◌<◌, ℤ, pos, Bool, true, false, not, cond, ◌==◌, ◌&&◌}
use Rattle.std.specs.Prelude.{List, [], ◌∷◌, length, filter, if◌then◌else◌}
use Rattle.std.proofs.Common.{arith, refl, ap, sym, subst, ◌∙◌, inl, inr}
use Rattle.std.proofs.lemmas.Int.{ints}
use Rattle.prop_intervals.specs.Comparisons.{yes_bits, no_bits}
use Rattle.prop_lattice.proofs.EndLemmas.{elements_from-bits}
use Rattle.prop_lattice.specs.Ends.{elements_from}
use Rattle.prop_lattice.specs.Order.{is_contradiction, merge_of}
use Rattle.prop_lattice.specs.Points.{Point, Number, Element, Holds}
use Rattle.prop_lattice.specs.declared.elements.Elements as sets
use Rattle.prop_lattice.specs.declared.info.Info.{Info}
use Rattle.prop_lattice.specs.declared.info.Info.TheVariants.{Nothing, Span, Set, Sym, Contradiction}
use Rattle.prop_lattice.specs.declared.span.Span as spans
use Rattle.prop_procedures.specs.declared.shape.Kinded.{Kinded}
use Rattle.prop_procedures.specs.declared.shape.Shape.{Shape}
use Rattle.prop_procedures.specs.declared.shape.Shape.TheVariants as shapes
use Rattle.prop_procedures.specs.inner.Places.{AreOf}
use Rattle.prop_sets.specs.inner.Words.{is_set}
use Rattle.prop_sets.specs.Truth.{leaves}
use Rattle.prop_arith.specs.Comparing.{is_single}
use Rattle.prop_arith.specs.inner.Compared.{is_just}
use Rattle.prop_hall.specs.laws.HullLaws.{never}
use Rattle.prop_wide.specs.Choices.{agree, choose_of, decide_of}
use Rattle.prop_wide.specs.Counts.{yes_among, sure_of, possible_of, count_of, count_back_of, may_lie}
use Rattle.prop_wide.specs.Hulls.{hull_of}
use Rattle.prop_wide.specs.Points.{IsChosen}
use Rattle.prop_wide.specs.Truths.{told_of}
use Rattle.prop_wide.specs.Wide.{AreTruths}
use Rattle.prop_wide.specs.laws.EndLaws.{both_to}
use Rattle.prop_points.specs.Singles.{IsSingle, AreSingle}
use Rattle.prop_points.proofs.Arguments.{element_in}
use Rattle.prop_points.proofs.Numbers.{clip_held, yes_held, no_held, truth_is}
use Rattle.prop_points.proofs.Singles.{single_only}
use Rattle.prop_points.proofs.Truths.{merged_same}

-- ---- what single truths leave

yes_leaves : (s : sets.Elements) → s.bits ≡ yes_bits → (leaves (Set s) 0 ≡ true) × (leaves (Set s) 1 ≡ false)
yes_leaves s e = (ap (λ n. is_set n 0) e, ap (λ n. is_set n 1) e)

no_leaves : (s : sets.Elements) → s.bits ≡ no_bits → (leaves (Set s) 0 ≡ false) × (leaves (Set s) 1 ≡ true)
no_leaves s e = (ap (λ n. is_set n 0) e, ap (λ n. is_set n 1) e)

told_from_yes : (y n : Bool) → Holds (told_of y n) (Element 0) → y ≡ true
told_from_yes true n h = refl
told_from_yes false true h = absurd (omega (arith, no_held 0 h))
told_from_yes false false h = absurd h

told_from_no : (y n : Bool) → Holds (told_of y n) (Element 1) → n ≡ true
told_from_no y true h = refl
told_from_no true false h = absurd (omega (arith, yes_held 1 h))
told_from_no false false h = absurd h

-- ---- one of two

hull_alone : (a : Info) → hull_of a Contradiction ≡ a
hull_alone Contradiction = refl
hull_alone Nothing = refl
hull_alone (Span s) = refl
hull_alone (Set s) = refl
hull_alone (Sym s) = refl

pub choose_exact : (s : sets.Elements) (a b : Info) (i : ℕ) (p q o : Point) → i < 2 → IsSingle (Set s) (Element i)
    → IsSingle a p → IsSingle b q → Holds (choose_of (Set s) a b) o → IsChosen i p q o
choose_exact s a b i p q o l d e f h =
    by (truth_is s i l d) (leaves (Set s) 0) refl (leaves (Set s) 1) refl h
  where
    by : ((i ≡ 0) × (s.bits ≡ yes_bits)) ⊎ ((i ≡ 1) × (s.bits ≡ no_bits)) → (y : Bool) → leaves (Set s) 0 ≡ y
        → (n : Bool) → leaves (Set s) 1 ≡ n
        → Holds (hull_of (if y then a else Contradiction) (if n then b else Contradiction)) o → IsChosen i p q o
    by (inl z) true g false k h = record {
      first = λ w. single_only a p o e (subst (λ r. Holds r o) (hull_alone a) h);
      second = λ w. absurd (omega (arith, w, z.0));
    }
    by (inr z) false g true k h = record {
      first = λ w. absurd (omega (arith, w, z.0));
      second = λ w. single_only b q o f h;
    }
    by (inl z) y g true k h = absurd (never (sym (yes_leaves s z.1).1 ∙ k))
    by (inl z) false g false k h = absurd (never (sym g ∙ (yes_leaves s z.1).0))
    by (inr z) true g n k h = absurd (never (sym (no_leaves s z.1).0 ∙ g))
    by (inr z) false g false k h = absurd (never (sym k ∙ (no_leaves s z.1).1))

-- those that agree are the same
agreed : (x y : Info) (p q : Point) → IsSingle x p → IsSingle y q → agree x y ≡ true → p ≡ q
agreed x y p q e f g = by (is_contradiction (merge_of x y)) refl g
  where
    by : (r : Bool) → is_contradiction (merge_of x y) ≡ r
        → not (is_just no_bits (if r then elements_from no_bits
        else (if is_single x && is_single y then elements_from yes_bits else Nothing))) ≡ true → p ≡ q
    by true k h = absurd (never (ap (λ a. not (is_just no_bits a))
        (sym (elements_from-bits no_bits (record { bits = 2; some = omega arith; fits = omega arith }) refl)) ∙ h))
    by false k h = merged_same x y p q e f k

pub decide_exact : (a b o : Info) (p q r : Point) (t : ℕ) → IsSingle a p → IsSingle b q → IsSingle o r
    → Holds (decide_of a b o) (Element t) → IsChosen t p q r
decide_exact a b o p q r t d e f h = record {
  first = λ z. sym (agreed a o p r d f (told_from_yes (agree a o) (agree b o)
      (subst (λ i. Holds (decide_of a b o) (Element i)) z h)));
  second = λ z. sym (agreed b o q r e f (told_from_no (agree a o) (agree b o)
      (subst (λ i. Holds (decide_of a b o) (Element i)) z h)));
}

-- ---- counting

-- one truth more counts where it is `yes`
one_more : (s : sets.Elements) (i : ℕ) (ts : List Info) (ps : List Point)
    → ((i ≡ 0) × (s.bits ≡ yes_bits)) ⊎ ((i ≡ 1) × (s.bits ≡ no_bits))
    → (sure_of ts ≡ yes_among ps) × (possible_of ts ≡ yes_among ps)
    → (sure_of (Set s ∷ ts) ≡ yes_among (Element i ∷ ps)) × (possible_of (Set s ∷ ts) ≡ yes_among (Element i ∷ ps))
one_more s i ts ps (inl z) rest =
    let sure = filter (λ t. not (leaves t 1)) ts in
    let possible = filter (λ t. leaves t 0) ts in
    let left = yes_leaves s z.1 in
    let all : yes_among (Element i ∷ ps) ≡ 1 + yes_among ps = ap (λ n. cond (n == 0) 1 0 + yes_among ps) z.0 in
    let surely : sure_of (Set s ∷ ts) ≡ suc (sure_of ts) =
    ap (λ b. length (cond (not b) (Set s ∷ sure) sure)) left.1 in
    let possibly : possible_of (Set s ∷ ts) ≡ suc (possible_of ts) =
    ap (λ b. length (cond b (Set s ∷ possible) possible)) left.0 in
    (omega (arith, all, surely, rest.0), omega (arith, all, possibly, rest.1))
one_more s i ts ps (inr z) rest =
    let sure = filter (λ t. not (leaves t 1)) ts in
    let possible = filter (λ t. leaves t 0) ts in
    let left = no_leaves s z.1 in
    let all : yes_among (Element i ∷ ps) ≡ 0 + yes_among ps = ap (λ n. cond (n == 0) 1 0 + yes_among ps) z.0 in
    let surely : sure_of (Set s ∷ ts) ≡ sure_of ts =
    ap (λ b. length (cond (not b) (Set s ∷ sure) sure)) left.1 in
    let possibly : possible_of (Set s ∷ ts) ≡ possible_of ts =
    ap (λ b. length (cond b (Set s ∷ possible) possible)) left.0 in
    (omega (arith, all, surely, rest.0), omega (arith, all, possibly, rest.1))

-- of single truths as many are sure as may be
pub counts : (any : Shape → Kinded) (ins : List Shape) (truths : List Info) (points : List Point) → AreTruths ins
    → AreOf any ins truths → AreSingle truths points
    → (sure_of truths ≡ yes_among points) × (possible_of truths ≡ yes_among points)
counts any [] [] [] a o e = (refl, refl)
counts any (shapes.Truth ∷ ss) (t ∷ ts) (p ∷ ps) a o e =
    let rest = counts any ss ts ps a o.1 e.1 in
    element_in 0 2 t p (λ t p. (sure_of (t ∷ ts) ≡ yes_among (p ∷ ps))
    × (possible_of (t ∷ ts) ≡ yes_among (p ∷ ps))) o.0 e.0 (λ s i l d. one_more s i ts ps (truth_is s i l d) rest)
counts any (shapes.Span ∷ ss) truths points a o e = absurd (never a)
counts any (shapes.Any n ∷ ss) truths points a o e = absurd (never a)
counts any (shapes.From ∷ ss) truths points a o e = absurd (never a)
counts any (shapes.To ∷ ss) truths points a o e = absurd (never a)
counts any [] (t ∷ ts) points a o e = absurd o
counts any (shapes.Truth ∷ ss) [] points a o e = absurd o
counts any [] [] (p ∷ ps) a o e = absurd e
counts any (shapes.Truth ∷ ss) (t ∷ ts) [] a o e = absurd e

pub count_exact : (truths : List Info) (points : List Point) (n : ℤ)
    → (sure_of truths ≡ yes_among points) × (possible_of truths ≡ yes_among points)
    → Holds (count_of truths) (Number n) → n ≡ pos (yes_among points)
count_exact truths points n c h =
    let held = clip_held _ _ n h in omega (arith, ints, c.0, c.1, held.0, held.1)

pub count_back_exact : (a : spans.Span) (others : List Info) (points : List Point) (n : ℤ) (t : ℕ) → t < 2
    → IsSingle (Span a) (Number n)
    → (sure_of others ≡ yes_among points) × (possible_of others ≡ yes_among points)
    → Holds (count_back_of (Span a) others) (Element t) → n ≡ pos (yes_among (Element t ∷ points))
count_back_exact a others points n zero l e c h =
    let one = pos (possible_of others + 1) in
    let more = pos (sure_of others + 1) in
    let held = both_to a.lo one more a.hi (told_from_yes (may_lie (Span a) more one)
    (may_lie (Span a) (pos (sure_of others)) (pos (possible_of others))) h) in
    omega (arith, ints, e.0, e.1, c.0, c.1, held.0, held.1)
count_back_exact a others points n (suc zero) l e c h =
    let most = pos (possible_of others) in
    let least = pos (sure_of others) in
    let held = both_to a.lo most least a.hi
    (told_from_no (may_lie (Span a) (pos (sure_of others + 1)) (pos (possible_of others + 1)))
    (may_lie (Span a) least most) h) in
    omega (arith, ints, e.0, e.1, c.0, c.1, held.0, held.1)
count_back_exact a others points n (suc (suc t)) l e c h = absurd (omega (arith, l))
