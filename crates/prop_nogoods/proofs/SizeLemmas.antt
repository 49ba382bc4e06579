-- A set is no larger than one that it is part of, so that in a list in order of size the parts of a set stand in front.
use Rattle.std.proofs.Common.{◌≡◌, ◌∙◌, ◌<◌, ◌≤◌, ◌==◌, ℕ, zero, suc, ◌∷◌, Bool, true, false, Decides, leb, List}
use Rattle.std.proofs.Common.{length, get_or, refl, sym, subst, ap, arith, inl, inr}
use Rattle.std.specs.Cmp.{IsEquivalence}
use Rattle.std.specs.List.Sorted.{IsStrictlyIncreasing}
use Rattle.std.proofs.lemmas.Bool.Decides.{eqb_tells, leb_tells}
use Rattle.std.proofs.lemmas.List.Folds.{list_any_at}
use Rattle.std.proofs.lemmas.List.Kept.{AllPairs-from_increasing}
use Rattle.std.proofs.lemmas.Map.Made.{length-le_from_is_member, IsDistinct-from_AllPairs}
use Rattle.prop_numbers.specs.Sets.{set_of, is_within}
use Rattle.prop_numbers.proofs.WithinLemmas.{within_has, within_from}

-- the test of `set_of`
abbrev is_at : ℕ → ℕ → Bool
is_at p q = q == p

at_same : (p q : ℕ) → is_at p q ≡ true → p ≡ q
at_same p q h = elim (eqb_tells q p) [ inl e ↦ sym e.1 | inr e ↦ cc (e.0, h) ]

at_itself : (p : ℕ) → is_at p p ≡ true
at_itself p = elim (eqb_tells p p) [ inl e ↦ e.0 | inr e ↦ absurd (e.1 refl) ]

at_flip : (p q : ℕ) → is_at p q ≡ is_at q p
at_flip p q = elim (eqb_tells q p) [
  | inl e ↦ elim (eqb_tells p q) [ inl f ↦ e.0 ∙ sym f.0 | inr f ↦ absurd (f.1 (sym e.1)) ]
  | inr e ↦ elim (eqb_tells p q) [ inl f ↦ absurd (e.1 (sym f.1)) | inr f ↦ e.0 ∙ sym f.0 ]
]

equals : IsEquivalence is_at
equals = record {
  refl = at_itself;
  symm = at_flip;
  congr = λ x y z h. ap (λ w. is_at w z) (at_same x y h);
}

at_tells : (p q : ℕ) → Decides (is_at p q) (p ≡ q)
at_tells p q = (at_same p q, λ e. subst (λ x. is_at p x ≡ true) e (at_itself p))

pub part_no_larger : (a b : List ℕ) → IsStrictlyIncreasing a → is_within (set_of b) a ≡ true → length a ≤ length b
part_no_larger a b up w =
    length-le_from_is_member equals a b
    (IsDistinct-from_AllPairs at_tells a
    (λ i j d l m e. let below = AllPairs-from_increasing a up i j d l m in absurd (omega (arith, below, e))))
    (λ q m. within_has (set_of b) a q w m)

-- a set that is part of one no larger than it has all of that one
pub part_is_whole : (a b : List ℕ) → IsStrictlyIncreasing a → is_within (set_of b) a ≡ true → length b ≤ length a
    → is_within (set_of a) b ≡ true
part_is_whole a b up w no_larger = within_from (set_of a) b (λ p t. by p t (set_of a p) refl)
  where
    apart : (p : ℕ) → set_of a p ≡ false → (i j d : ℕ) → i < j → j < length (p ∷ a)
        → ¬ (get_or (p ∷ a) i d ≡ get_or (p ∷ a) j d)
    apart p lacks i zero d l m e = absurd (omega (arith, l))
    apart p lacks zero (suc j) d l m e =
        let has : set_of a p ≡ true = list_any_at (is_at p) a j d (omega (arith, m))
        (subst (λ q. is_at p q ≡ true) e (at_itself p)) in
        cc (has, lacks)
    apart p lacks (suc i) (suc j) d l m e =
        let below = AllPairs-from_increasing a up i j d (omega (arith, l)) (omega (arith, m)) in absurd
        (omega (arith, below, e))

    one_of : (p q : ℕ) → set_of b p ≡ true → set_of (p ∷ a) q ≡ true → set_of b q ≡ true
    one_of p q t m = elim (eqb_tells p q) [
      | inl e ↦ subst (λ x. set_of b x ≡ true) e.1 t
      | inr e ↦ within_has (set_of b) a q w (rw e.0 at m)
    ]

    by : (p : ℕ) → set_of b p ≡ true → (t : Bool) → set_of a p ≡ t → set_of a p ≡ true
    by p t true e = e
    by p t false e =
        let most : length (p ∷ a) ≤ length b =
        length-le_from_is_member equals (p ∷ a) b (IsDistinct-from_AllPairs at_tells (p ∷ a) (apart p e))
        (λ q m. one_of p q t m) in
        absurd (omega (arith, most, no_larger))

-- no larger than n
abbrev pub is_small : List ℕ → List ℕ → Bool
is_small n line = leb (length line) (length n)

pub not_small : (n line : List ℕ) → is_small n line ≡ false → length n < length line
not_small n line h = elim (leb_tells (length line) (length n)) [ inl e ↦ cc (e.0, h) | inr e ↦ e.1 ]
