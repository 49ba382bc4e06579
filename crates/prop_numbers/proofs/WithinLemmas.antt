-- Numbers that are in a set.
use Rattle.std.proofs.Common.{◌≡◌, ℕ, Bool, true, false, ◌||◌, ◌&&◌, ◌==◌, List, [], ◌∷◌, refl, sym, inl, inr, ◌⊎◌}
use Rattle.std.proofs.lemmas.Bool.Decides.{eqb_tells}
use Rattle.prop_numbers.specs.Sets.{Members, set_of, union, is_within, IsSame}

and_first : (b c : Bool) → (b && c) ≡ true → b ≡ true
and_first true c h = refl
and_first false c h = cc

and_second : (b c : Bool) → (b && c) ≡ true → c ≡ true
and_second true c h = h
and_second false c h = cc

and_both : (b c : Bool) → b ≡ true → c ≡ true → (b && c) ≡ true
and_both true c p q = q
and_both false c p q = cc

or_cases : (b c : Bool) → (b || c) ≡ true → (b ≡ true) ⊎ (c ≡ true)
or_cases true c h = inl refl
or_cases false c h = inr h

same : (n p : ℕ) → (n == p) ≡ true → n ≡ p
same n p h = elim (eqb_tells n p) [ inl e ↦ e.1 | inr e ↦ cc (e.0, h) ]

same_test : (p : ℕ) → (p == p) ≡ true
same_test p = elim (eqb_tells p p) [ inl e ↦ e.0 | inr e ↦ absurd (e.1 refl) ]

-- a number of the list is in the set
pub within_has : (s : Members) (ns : List ℕ) (p : ℕ) → is_within s ns ≡ true → set_of ns p ≡ true → s p ≡ true
within_has s [] p w h = cc
within_has s (n ∷ ns) p w h =
    elim (or_cases (n == p) (set_of ns p) h) as (λ _. s p ≡ true) [
      | inl e ↦ rw (same n p e) at (and_first (s n) (is_within s ns) w)
      | inr e ↦ within_has s ns p (and_second (s n) (is_within s ns) w) e
    ]

-- the list is in the set where each of its numbers is
pub within_from : (s : Members) (ns : List ℕ) → ((p : ℕ) → set_of ns p ≡ true → s p ≡ true) → is_within s ns ≡ true
within_from s [] h = refl
within_from s (n ∷ ns) h = and_both (s n) (is_within s ns) (h n (rw (same_test n) refl))
    (within_from s ns (λ p t. h p (or_second (n == p) (set_of ns p) t)))
  where
    or_second : (b c : Bool) → c ≡ true → (b || c) ≡ true
    or_second true c e = refl
    or_second false c e = e

-- whether a list is in a set, by what tells it
pub is_within-told : (s : Members) (ns : List ℕ) (b : Bool) → (b ≡ true → (p : ℕ) → set_of ns p ≡ true → s p ≡ true)
    → (b ≡ false → (p : ℕ) × (set_of ns p ≡ true) × (s p ≡ false)) → b ≡ is_within s ns
is_within-told s ns true h k = sym (within_from s ns (h refl))
is_within-told s ns false h k = by (is_within s ns) refl
  where
    by : (b : Bool) → is_within s ns ≡ b → false ≡ is_within s ns
    by true e = let out = k refl in cc (within_has s ns out.0 e out.1, out.2)
    by false e = sym e

pub is_within-trans : (s : Members) (ns ms : List ℕ) → is_within s ms ≡ true → is_within (set_of ms) ns ≡ true
    → is_within s ns ≡ true
is_within-trans s ns ms w h = within_from s ns (λ p t. within_has s ms p w (within_has (set_of ms) ns p h t))

-- ---- the numbers of two sets

or_first : (b c : Bool) → b ≡ true → (b || c) ≡ true
or_first true c e = refl
or_first false c e = cc

or_last : (b c : Bool) → c ≡ true → (b || c) ≡ true
or_last true c e = refl
or_last false c e = e

-- a set that has all numbers of another has those of both
pub has_both : (a b : List ℕ) → is_within (set_of a) b ≡ true → IsSame (set_of a) (union (set_of a) (set_of b))
has_both a b w p = by (set_of a p) (set_of b p) (λ h. within_has (set_of a) b p w h)
  where
    by : (x y : Bool) → (y ≡ true → x ≡ true) → x ≡ (x || y)
    by true y h = refl
    by false true h = h refl
    by false false h = refl
