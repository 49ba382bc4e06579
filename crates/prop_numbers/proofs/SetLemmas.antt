-- Sets of numbers, as tests and as lists.
use Rattle.std.proofs.Common.{◌≡◌, ◌∙◌, ℕ, Bool, true, false, ◌||◌, ◌&&◌, ◌==◌, cond, List, [], ◌∷◌, refl, sym, ap, inl}
use Rattle.std.proofs.Common.{inr, filter}
use Rattle.std.proofs.lemmas.Bool.Decides.{eqb_tells}
use Rattle.prop_numbers.specs.Sets.{set_of}

same_test : (t : ℕ → Bool) (x p : ℕ) → (x == p) ≡ true → t p ≡ t x
same_test t x p h = elim (eqb_tells x p) [ inl e ↦ ap t (sym e.1) | inr e ↦ cc (e.0, h) ]

or_and : (a s b : Bool) → (a ≡ true → b ≡ true) → (a || (s && b)) ≡ ((a || s) && b)
or_and true s b h = sym (h refl)
or_and false s b h = refl

and_out : (a s b : Bool) → (a ≡ true → b ≡ false) → (s && b) ≡ ((a || s) && b)
and_out true true b h = refl
and_out true false b h = sym (h refl)
and_out false s b h = refl

-- what is in a list and passes a test
pub set_of-filter : (t : ℕ → Bool) (xs : List ℕ) (p : ℕ) → set_of (filter t xs) p ≡ (set_of xs p && t p)
set_of-filter t [] p = refl
set_of-filter t (x ∷ xs) p = step t x xs p (t x) refl (set_of-filter t xs p)
  where
    step : (t : ℕ → Bool) (x : ℕ) (xs : List ℕ) (p : ℕ) (b : Bool) → t x ≡ b
        → set_of (filter t xs) p ≡ (set_of xs p && t p) →
        set_of (cond b (x ∷ filter t xs) (filter t xs)) p ≡ (((x == p) || set_of xs p) && t p)
    step t x xs p true e ih = rw ih (or_and (x == p) (set_of xs p) (t p) (λ h. same_test t x p h ∙ e))
    step t x xs p false e ih = ih ∙ and_out (x == p) (set_of xs p) (t p) (λ h. same_test t x p h ∙ e)
