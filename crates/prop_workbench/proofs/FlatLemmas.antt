-- A use on kinds and with what is given.
use Rattle.std.proofs.Common.{◌≡◌, ◌∙◌, ℕ, List, Option, Some, None, Result, Ok, Err, OnOk, IfErr, IfOk, ◌⊎◌, sym}
use Rattle.std.proofs.Common.{subst}
use Rattle.prop_refusals.specs.declared.refusal.Refusal.{Refusal}
use Rattle.prop_refusals.specs.declared.refusal.Refusal.TheVariants.{Memory}
use Rattle.prop_procedures.specs.declared.shape.Kinded.{Kinded}
use Rattle.prop_procedures.specs.declared.shape.Param.{Param}
use Rattle.prop_procedures.specs.Stored.{Stored}
use Rattle.prop_compound.specs.Definitions.{Definitions}
use Rattle.prop_compound.specs.Expanding.{expand_refusal}
use Rattle.prop_compound.specs.Expansion.{expanded}
use Rattle.prop_compound.specs.Flattened.{expansion_of_flat, IsFlatOver}
use Rattle.prop_procedures.specs.declared.flat.Flat.{Flat}
use Rattle.prop_vocabulary.specs.Vocabulary.{Vocabulary}

-- ---- a use of the name on the same kinds, from the same library and with the same given

module _ (words : Vocabulary) (definitions : Definitions) (name : List ℕ) (library library' : List Stored)
    (kinds kinds' : List Kinded) (given given' : Option Param)
    (same_library : library ≡ library') (same_kinds : kinds ≡ kinds') (same_given : given ≡ given') where
  same_refusal : expand_refusal library words definitions name kinds given ≡ expand_refusal library' words definitions
      name kinds' given'
  same_refusal = λ i. expand_refusal (same_library i) words definitions name (same_kinds i) (same_given i)

  pub still_fits : (r : Result Flat Refusal) → OnOk r (expand_refusal library words definitions name kinds given ≡ None)
      → OnOk r (expand_refusal library' words definitions name kinds' given' ≡ None)
  still_fits (Ok flat) e = sym same_refusal ∙ e
  still_fits (Err refusal) e = tt

  pub still_expanded : (r : Result Flat Refusal)
      → IfOk r (λ flat. expansion_of_flat kinds flat ≡ expanded library words definitions name kinds given) →
      IfOk r (λ flat. expansion_of_flat kinds' flat ≡ expanded library' words definitions name kinds' given')
  still_expanded (Ok flat) e = (λ i. expansion_of_flat (sym same_kinds i) flat) ∙ e
      ∙ (λ i. expanded (same_library i) words definitions name (same_kinds i) (same_given i))
  still_expanded (Err refusal) e = tt

  pub still_refused : (r : Result Flat Refusal)
      → IfErr r (λ e. (expand_refusal library words definitions name kinds given ≡ Some e) ⊎ (e ≡ Memory)) →
      IfErr r (λ e. (expand_refusal library' words definitions name kinds' given' ≡ Some e) ⊎ (e ≡ Memory))
  still_refused r = subst (λ (x : Option Refusal). IfErr r (λ e. (x ≡ Some e) ⊎ (e ≡ Memory))) same_refusal

pub still_over : (library library' : List Stored) (n m : ℕ) (r : Result Flat Refusal) → library ≡ library' → n ≡ m
    → IfOk r (λ flat. IsFlatOver library n flat) → IfOk r (λ flat. IsFlatOver library' m flat)
still_over library library' n m r same_library same_count over =
    subst (λ (k : ℕ). IfOk r (λ flat. IsFlatOver library' k flat)) same_count
    (subst (λ (l : List Stored). IfOk r (λ flat. IsFlatOver l n flat)) same_library over)
