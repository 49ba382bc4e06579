-- Cells of powers show what these are worth.
use Rattle.std.proofs.Common.{◌≡◌, ◌∙◌, ℕ, zero, suc, ◌-◌, ◌≤◌, ℤ, pos, ◌*ℤ◌, List, Some, refl, ap, sym}
use Rattle.std.proofs.Common.{subst, arith}
use Rattle.std.proofs.lemmas.Int.{ints}
use Rattle.prop_lattice.specs.Points.{Number}
use Rattle.prop_terms.specs.declared.operators.Infix.TheVariants as between
use Rattle.prop_terms.specs.Meaning.{of_one, power}
use Rattle.prop_terms.specs.Terms as terms
use Rattle.prop_terms.specs.Terms.{Term, Two}
use Rattle.prop_meaning.specs.Words.{Lexicon, value_as}
use Rattle.prop_meaning.specs.declared.draft.Made.{Made}
use Rattle.prop_meaning.specs.declared.steps.Pair.TheVariants.{Product}
use Rattle.prop_meaning.specs.inner.Drafts.{Grown, Has, IsSound, Makes, Shows, number_kind}
use Rattle.prop_meaning.specs.inner.Formulas.{power_point}
use Rattle.prop_meaning.specs.inner.Steps.{of_two}
use Rattle.prop_meaning.proofs.Formulas.{on_number}
use Rattle.prop_meaning.proofs.Growing.{has_grows, is_proper, runs_back, shows_grows}

-- the first powers
pub makes_none : (lexicon : Lexicon) (made : List Made) (n x place : ℕ) → IsSound lexicon made
    → Has lexicon made x number_kind → n ≡ 0 → Makes lexicon made number_kind (λ a. Number (pos 1)) place
    → Makes lexicon made number_kind (λ a. power_point n (a x)) place
makes_none lexicon made n x place sound h e m = record {
  has = m.has;
  is = λ a r.
      let P : ℕ → Type 0 = λ n. Number (pos 1) ≡ power_point n (a x) in
      m.is a r ∙ subst P (sym e) (on_number 0 (λ p. Number (pos 1) ≡ power_point 0 p) (λ u. refl) (a x)
      (is_proper lexicon made x number_kind a sound r h).of_kind);
}

pub makes_first : (lexicon : Lexicon) (made : List Made) (n x : ℕ) → IsSound lexicon made
    → Has lexicon made x number_kind → n ≡ 1 → Makes lexicon made number_kind (λ a. power_point n (a x)) x
makes_first lexicon made n x sound h e = record {
  has = h;
  is = λ a r.
      let P : ℕ → Type 0 = λ n. a x ≡ power_point n (a x) in
      subst P (sym e) (on_number 0 (λ p. p ≡ power_point 1 p) (λ u. ap Number (once u)) (a x)
      (is_proper lexicon made x number_kind a sound r h).of_kind);
}
  where
    once : (u : ℤ) → u ≡ u *ℤ pos 1
    once u = omega (arith, ints)

-- and each from the one before
pub makes_next : (lexicon : Lexicon) (first second : List Made) (n x y place : ℕ) → 1 ≤ n
    → Has lexicon first x number_kind → Makes lexicon first number_kind (λ a. power_point (n - 1) (a x)) y
    → Grown lexicon first second → Makes lexicon second number_kind (λ a. of_two Product (a x) (a y)) place
    → Makes lexicon second number_kind (λ a. power_point n (a x)) place
makes_next lexicon first second zero x y place l h my g m = absurd (omega (arith, l))
makes_next lexicon first second (suc n) x y place l h my g m = record {
  has = m.has;
  is = λ a r. m.is a r ∙ (ap (of_two Product (a x)) (my.is a (runs_back lexicon first second a g.grows r))
      ∙ on_number 0 (λ p. of_two Product p (power_point ((suc n) - 1) p) ≡ power_point (suc n) p)
      (λ u. ap (λ k. Number (u *ℤ power u k)) (back n)) (a x)
      (is_proper lexicon second x number_kind a g.sound r
      (has_grows lexicon first second x number_kind g.grows h)).of_kind);
}
  where
    back : (n : ℕ) → (suc n) - 1 ≡ n
    back n = omega arith

pub shows_power : (lexicon : Lexicon) (t : Term) (n x place : ℕ) (first second : List Made)
    → Shows lexicon first number_kind t x → Grown lexicon first second
    → Makes lexicon second number_kind (λ a. power_point n (a x)) place
    → Shows lexicon second number_kind (Two between.Power t (terms.Number n)) place
shows_power lexicon t n x place first second ft g m = record {
  has = m.has;
  worth_is = λ a r.
      let under = shows_grows lexicon first second number_kind t x g ft in
      ap (of_one (λ z. power z n)) (under.worth_is a r)
      ∙ (on_number 0 (λ p. of_one (λ z. power z n) (Some (value_as lexicon number_kind p))
      ≡ Some (value_as lexicon number_kind (power_point n p))) (λ u. refl) (a x)
      (is_proper lexicon second x number_kind a g.sound r under.has).of_kind
      ∙ ap (λ p. Some (value_as lexicon number_kind p)) (sym (m.is a r)));
}
