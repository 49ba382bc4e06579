-- A use of a definition makes what its steps make, among all the definitions as among the earlier ones.
use Rattle.std.proofs.Common.{◌≡◌, ◌∙◌, ℕ, ◌<◌, List, [], ◌∷◌, ◌++◌, All, Bool, Option, cond, length, refl, sym, ap}
use Rattle.std.proofs.Common.{arith, inl, inr}
use Rattle.std.specs.Prelude.{⊤}
use Rattle.std.proofs.lemmas.Bool.{cases_eq, eq-eqb, ne_eqb}
use Rattle.std.proofs.lemmas.List.Elements.{All-head, All-tail}
use Rattle.prop_procedures.specs.declared.shape.Param.{Param}
use Rattle.prop_vocabulary.specs.Vocabulary.{Vocabulary}
use Rattle.prop_compound.specs.declared.definition.Used.TheVariants as uses
use Rattle.prop_compound.specs.declared.definition.NumberedStep.{NumberedStep}
use Rattle.prop_compound.specs.declared.definition.NumberedStep.TheVariants.{Local, Like, Use}
use Rattle.prop_compound.specs.Definitions.{Definition}
use Rattle.prop_procedures.specs.Fitting.{kind_at}
use Rattle.prop_compound.specs.Expansion.{Walk, cell_at, cells_at, with_fresh, param_passed, use_expanded}
use Rattle.prop_compound.specs.Expansion.{steps_expanded, definition_expanded}
use Rattle.prop_compound.proofs.Latest.{latest_at}

-- the step uses no definition, or one with a number below n
abbrev pub IsEarlier : ℕ → NumberedStep → Type 0
IsEarlier n (Use (uses.Definition m) cells passing) = m < n
IsEarlier n step = ⊤

-- each definition uses earlier ones alone
abbrev pub AreOrdered : List Definition → Type 0
AreOrdered latest = (n : ℕ) (d : Definition) → n < length latest → All (IsEarlier n) (latest_at latest n d).steps

pub ordered_head : (d : Definition) (earlier : List Definition) → AreOrdered (d ∷ earlier)
    → All (IsEarlier (length earlier)) d.steps
ordered_head d earlier h = let P = λ (b : Bool).
    All (IsEarlier (length earlier)) (cond b d (latest_at earlier (length earlier) d)).steps in
    rw (eq-eqb (length earlier) (length earlier) refl) at (h (length earlier) d (omega arith))

pub ordered_tail : (d : Definition) (earlier : List Definition) → AreOrdered (d ∷ earlier) → AreOrdered earlier
ordered_tail d earlier h n x l = rw (ne_eqb n (length earlier) (λ e. omega (arith, e, l))) at (h n x (omega (arith, l)))

-- ---- what steps add

abbrev pub Adds : Type 0
Adds = ℕ → List ℕ → Option Param → Walk → Walk

module _ (words : Vocabulary) (f g : Adds) (n : ℕ) (agree : (m : ℕ) → m < n → f m ≡ g m) where
  same_use : (used : _) (cells : List ℕ) (passing : _) (places : List ℕ) (given : Option Param) (e : Walk)
      → IsEarlier n (Use used cells passing) → use_expanded f used places given e ≡ use_expanded g used places given e
  same_use (uses.Procedure k) cells passing places given e h = refl
  same_use (uses.Definition m) cells passing places given e h = λ i. agree m h i places given e

  pub same_steps : (steps : List NumberedStep) → All (IsEarlier n) steps
      → (given : Option Param) (cells : List ℕ) (e : Walk)
      → steps_expanded (param_passed words) f given cells steps e ≡ steps_expanded (param_passed words) g given cells
      steps e
  same_steps [] h given cells e = refl
  same_steps (Local kind ∷ steps) h given cells e =
      same_steps steps (All-tail (IsEarlier n) (Local kind) steps h) given (cells ++ length e.kinds ∷ [])
      (with_fresh e kind)
  same_steps (Like place ∷ steps) h given cells e =
      same_steps steps (All-tail (IsEarlier n) (Like place) steps h) given (cells ++ length e.kinds ∷ [])
      (with_fresh e (kind_at e.kinds (cell_at cells place)))
  same_steps (Use used places passing ∷ steps) h given cells e =
      ap (steps_expanded (param_passed words) f given cells steps)
      (same_use used places passing (cells_at cells places) (param_passed words given passing) e
      (All-head (IsEarlier n) (Use used places passing) steps h)) ∙
      same_steps steps (All-tail (IsEarlier n) (Use used places passing) steps h) given cells
      (use_expanded g used (cells_at cells places) (param_passed words given passing) e)

-- a later definition more
pub one_later : (words : Vocabulary) (d : Definition) (earlier : List Definition) (m : ℕ) → m < length earlier
    → definition_expanded (param_passed words) (d ∷ earlier) m ≡ definition_expanded (param_passed words) earlier m
one_later words d earlier m l i cells given e =
    cond (ne_eqb m (length earlier) (λ same. omega (arith, same, l)) i)
    (steps_expanded (param_passed words) (definition_expanded (param_passed words) earlier) given cells d.steps e)
    (definition_expanded (param_passed words) earlier m cells given e)

pub unrolled : (words : Vocabulary) (latest : List Definition) → AreOrdered latest → (n : ℕ) (x : Definition)
    → n < length latest → (cells : List ℕ) (given : Option Param) (e : Walk) →
    definition_expanded (param_passed words) latest n cells given e ≡ steps_expanded (param_passed words)
    (definition_expanded (param_passed words) latest) given cells (latest_at latest n x).steps e
unrolled words [] h n x l cells given e = absurd (omega (arith, l))
unrolled words (d ∷ earlier) h n x l cells given e =
    let later = one_later words d earlier in
    elim (cases_eq n (length earlier)) [
      | inl same ↦
          (let is_it = eq-eqb n (length earlier) same in
          (λ i. cond (is_it i) (steps_expanded (param_passed words) (definition_expanded (param_passed words) earlier)
          given cells d.steps e) (definition_expanded (param_passed words) earlier n cells given e)) ∙
          sym (same_steps words (definition_expanded (param_passed words) (d ∷ earlier))
          (definition_expanded (param_passed words) earlier) (length earlier) later d.steps
          (ordered_head d earlier h) given cells e) ∙
          (λ i. steps_expanded (param_passed words) (definition_expanded (param_passed words) (d ∷ earlier)) given cells
          (cond (sym is_it i) d (latest_at earlier n x)).steps e))
      | inr other ↦
          (let m : n < length earlier = omega (arith, l, other) in
          let is_not = ne_eqb n (length earlier) other in
          let it = latest_at earlier n x in
          (λ i. cond (is_not i) (steps_expanded (param_passed words) (definition_expanded (param_passed words) earlier)
          given cells d.steps e) (definition_expanded (param_passed words) earlier n cells given e)) ∙
          unrolled words earlier (ordered_tail d earlier h) n x m cells given e ∙
          sym (same_steps words (definition_expanded (param_passed words) (d ∷ earlier))
          (definition_expanded (param_passed words) earlier) n (λ k below. later k (omega (arith, below, m)))
          it.steps (ordered_tail d earlier h n x m) given cells e) ∙
          (λ i. steps_expanded (param_passed words) (definition_expanded (param_passed words) (d ∷ earlier)) given cells
          (cond (sym is_not i) d it).steps e))
    ]
