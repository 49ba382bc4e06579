-- Fewer premises fit where more do.
use Rattle.std.proofs.Common.{◌≡◌, ◌∙◌, ◌⊎◌, ◌&&◌, ◌||◌, ℕ, Bool, true, false, not, List, [], ◌∷◌, ◌++◌, refl, sym}
use Rattle.std.proofs.Common.{suc, ◌+◌, ◌<◌, arith, length}
use Rattle.prop_lessons.specs.inner.Standing.{Begin}
use Rattle.std.proofs.Common.{ap, subst, inl, inr, None, Some}
use Rattle.std.specs.Prelude.{Err, Ok, OnOk, Option, Result, ◌==◌}
use Rattle.std.proofs.lemmas.Bool.Decides.{eqb_tells, leb_tells}
use Rattle.std.proofs.lemmas.List.Folds.{list_any-append}
use Rattle.prop_lattice.specs.Points.{Point}
use Rattle.prop_numbers.specs.Sets.{Members, IsPart, IsSame, set_of, union, is_within}
use Rattle.prop_premises.specs.ChoiceLists.{IsChoiceList, hypotheticals_of, worldview}
use Rattle.prop_premises.specs.Origins.{Origin, believed_in, choices_of}
use Rattle.prop_premises.proofs.OriginLemmas.{believed_in-past}
use Rattle.prop_premises.specs.declared.choice.Choice.{Choice}
use Rattle.prop_procedures.specs.Stored.{Stored}
use Rattle.prop_cells.specs.Points.{ArePoints, Attached}
use Rattle.prop_cells.specs.Problems.{is_member}
use Rattle.prop_plans.specs.Held.{AreHeld}
use Rattle.prop_conflicts.specs.Conflicts.{Fits, Ground}
use Rattle.prop_hitting.proofs.HittingLemmas.{decide}

-- some points satisfy what these premises say, with these choices
abbrev pub FitsBy : List Stored → Attached → List Choice → Members → Type 0
FitsBy library n choices s = (list : List ℕ) × (points : ℕ → Point) × IsChoiceList choices list
    × ArePoints (AreHeld library) n (worldview s choices list) points

member_part : (s t : Members) (o : Option ℕ) → IsPart s t → is_member s o ≡ true → is_member t o ≡ true
member_part s t None part m = m
member_part s t (Some p) part m = part p m

or_part : (b c x : Bool) → (b ≡ true → c ≡ true) → (b || x) ≡ true → (c || x) ≡ true
or_part true c x h e = rw (h refl) refl
or_part false true x h e = refl
or_part false false x h e = e

union_part : (s t u : Members) → IsPart s t → IsPart (union s u) (union t u)
union_part s t u part p e = or_part (s p) (t p) (u p) (part p) e

pub fits_by : (library : List Stored) (n : Attached) (choices : List Choice) (s t : Members) → IsPart s t
    → FitsBy library n choices t → FitsBy library n choices s
fits_by library n choices s t part f =
    let list = f.0 in
    let points = f.1 in
    let are = f.3 in (
      list,
      points,
      f.2,
      record {
        of_kind = are.of_kind;
        stated = λ k e l m. are.stated k e l
            (member_part (worldview s choices list) (worldview t choices list) _
            (union_part s t (hypotheticals_of choices list) part) m);
        together = are.together;
      },
    )

pub fits_fewer : (g : Ground) (s t : Members) → IsPart s t → Fits g t → Fits g s
fits_fewer g s t part f = fits_by g.library g.attached (choices_of g.premises) s t part f

-- ---- what is in sets

pub and_first : (b c : Bool) → (b && c) ≡ true → b ≡ true
and_first true c h = refl
and_first false c h = cc

pub and_second : (b c : Bool) → (b && c) ≡ true → c ≡ true
and_second true c h = h
and_second false c h = cc

pub and_both : (b c : Bool) → b ≡ true → c ≡ true → (b && c) ≡ true
and_both true c p q = q
and_both false c p q = cc

pub not_true : (b : Bool) → not b ≡ true → b ≡ false
not_true true h = cc
not_true false h = refl

pub not_false : (b : Bool) → b ≡ false → not b ≡ true
not_false true h = cc
not_false false h = refl

or_first : (b c : Bool) → b ≡ true → (b || c) ≡ true
or_first true c e = refl
or_first false c e = cc

or_last : (b c : Bool) → c ≡ true → (b || c) ≡ true
or_last true c e = refl
or_last false c e = e

same_test : (p : ℕ) → (p == p) ≡ true
same_test p = elim (eqb_tells p p) [ inl e ↦ e.0 | inr e ↦ absurd (e.1 refl) ]

-- each number of a list is in the set, or one is not
pub within_or_out : (s : Members) (xs : List ℕ)
    → (is_within s xs ≡ true) ⊎ ((p : ℕ) × (set_of xs p ≡ true) × (s p ≡ false))
within_or_out s [] = inl refl
within_or_out s (x ∷ xs) = elim (decide (s x)) [
  | inl e ↦ elim (within_or_out s xs) [
    | inl all ↦ inl (and_both (s x) (is_within s xs) e all)
    | inr out ↦ inr (out.0, or_last (x == out.0) (set_of xs out.0) out.1, out.2)
  ]
  | inr e ↦ inr (x, or_first (x == x) (set_of xs x) (same_test x), e)
]

-- one number more that is in the set
pub part_more : (t : Members) (xs : List ℕ) (x : ℕ) → IsPart (set_of xs) t → t x ≡ true
    → IsPart (set_of (xs ++ x ∷ [])) t
part_more t xs x part e p h = elim (or_cases (set_of xs p) ((x == p) || false)
    (sym (list_any-append (λ q. q == p) xs (x ∷ [])) ∙ h)) [
      | inl a ↦ part p a
      | inr b ↦ elim (or_cases (x == p) false b) [
        | inl f ↦ subst (λ q. t q ≡ true) (same x p f) e
        | inr other ↦ cc other
      ]
    ]
  where
    or_cases : (b c : Bool) → (b || c) ≡ true → (b ≡ true) ⊎ (c ≡ true)
    or_cases true c h = inl refl
    or_cases false c h = inr h

    same : (n m : ℕ) → (n == m) ≡ true → n ≡ m
    same n m h = elim (eqb_tells n m) [ inl e ↦ e.1 | inr e ↦ cc (e.0, h) ]

-- ---- what is left without some premises

-- of the numbers below n those that are in the first set and not in the second
abbrev pub AreLeft : Members → Members → ℕ → Members → Type 0
AreLeft s out n left = (p : ℕ) → p < n → s p ≡ true → out p ≡ false → left p ≡ true

-- one that goes in
pub left_more : (s out : Members) (n : ℕ) (old new one : List ℕ) → one ≡ n ∷ []
    → IsSame (set_of new) (union (set_of old) (set_of one)) → AreLeft s out n (set_of old)
    → AreLeft s out (n + 1) (set_of new)
left_more s out n old new one is same left p l has lacks = same p ∙ elim (leb_tells (suc p) n) [
  | inl e ↦ or_first (set_of old p) (set_of one p) (left p e.1 has lacks)
  | inr e ↦
      let there : n ≡ p = omega (arith, l, e.1) in
      or_last (set_of old p) (set_of one p) (subst (λ (xs : List ℕ). set_of xs p ≡ true) (sym is)
      (or_first (n == p) false (subst (λ q. (n == q) ≡ true) there (same_test n))))
]

-- one that doesn't
pub left_same : (s out : Members) (n : ℕ) (old : List ℕ) → (s n ≡ true → out n ≡ false → ⊥)
    → AreLeft s out n (set_of old) → AreLeft s out (n + 1) (set_of old)
left_same s out n old skipped left p l has lacks = elim (leb_tells (suc p) n) [
  | inl e ↦ left p e.1 has lacks
  | inr e ↦
      let there : p ≡ n = omega (arith, l, e.1) in
      absurd (skipped (subst (λ q. s q ≡ true) there has) (subst (λ q. out q ≡ false) there lacks))
]

pub on_ok : {T E : Type 0} {P Q : Type 0} (r : Result T E) → (P → Q) → OnOk r P → OnOk r Q
on_ok (Ok x) f h = f h
on_ok (Err e) f h = tt

-- lists of one length, where the one begins as the other
pub same_lists : {X : Type 0} (xs ys : List X) → length xs ≡ length ys → Begin xs ys → xs ≡ ys
same_lists [] [] l begins = refl
same_lists [] (y ∷ ys) l begins = absurd (omega (arith, l))
same_lists (x ∷ xs) [] l begins = absurd (omega (arith, l))
same_lists (x ∷ xs) (y ∷ ys) l begins =
    let here : Some y ≡ Some x = begins 0 x refl in
    let e : y ≡ x = cc in
    ap (λ z. z ∷ xs) (sym e)
    ∙ ap (λ zs. y ∷ zs) (same_lists xs ys (omega (arith, l)) (λ i z g. begins (suc i) z g))

-- what is believed has a number
pub believed_below : (os : List Origin) (p : ℕ) → believed_in os p ≡ true → p < length os
believed_below os p believed = elim (leb_tells (length os) p) [
  | inl e ↦ let past = believed_in-past os p e.1 in cc (believed, past)
  | inr e ↦ omega (arith, e.1)
]
