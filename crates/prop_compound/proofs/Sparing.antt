-- Whether a parameter is spare in a use, by what is kept beside each definition.
use Rattle.std.proofs.Common.{◌≡◌, ◌∙◌, ℕ, ◌<◌, arith, List, [], ◌∷◌, ◌++◌, Bool, true, false, not, ◌&&◌, ◌||◌, cond}
use Rattle.std.proofs.Common.{length, get_or, sym, ap, subst}
use Rattle.std.specs.Prelude.{reverse}
use Rattle.std.specs.List.{list_any}
use Rattle.std.proofs.lemmas.Bool.{eq-eqb, ne_eqb}
use Rattle.std.proofs.lemmas.List.{length-reverse, reverse-append}
use Rattle.prop_compound.specs.declared.definition.Passing.{Passing}
use Rattle.prop_compound.specs.declared.definition.Used.{Used}
use Rattle.prop_compound.specs.declared.definition.Used.TheVariants as uses
use Rattle.prop_compound.specs.declared.definition.KeptDefinition.{KeptDefinition}
use Rattle.prop_compound.specs.declared.definition.NumberedStep.{NumberedStep}
use Rattle.prop_compound.specs.declared.definition.NumberedStep.TheVariants.{Use}
use Rattle.prop_compound.specs.Definitions.{Definition, is_taking}
use Rattle.prop_compound.specs.Expansion.{passes_something, spare_of, spare_in, is_spare}
use Rattle.prop_compound.specs.Kept.{all_bare}
use Rattle.prop_compound.specs.inner.Kept.{IsUseBelow, AreKept}
use Rattle.prop_compound.proofs.Walking.{kept_here}

-- what is known of a use that is given something and of one that is not is known of each
spare_by : (ds : List Definition) (n : ℕ) (given a b : Bool) → a ≡ is_spare ds n true → b ≡ is_spare ds n false
    → cond given a b ≡ is_spare ds n given
spare_by ds n true a b h k = h
spare_by ds n false a b h k = k

-- what is kept beside a definition tells of each use
pub spare_at : (ks : List KeptDefinition) (n : ℕ) (k : KeptDefinition) (given : Bool) → AreKept ks → n < length ks
    → k ≡ get_or ks n k → cond given k.spare_given k.spare_bare ≡ is_spare (all_bare ks) n given
spare_at ks n k given kept l at =
    let here = kept_here ks n k kept l at in
    spare_by (all_bare ks) n given k.spare_given k.spare_bare here.spare_given here.spare_bare

-- and of each step
pub step_spare : (ks : List KeptDefinition) (step : NumberedStep) (used : Used) (places : List ℕ) (passing : Passing)
    (n : ℕ) (k : KeptDefinition) (given p : Bool) (b : Bool) → AreKept ks → IsUseBelow (all_bare ks) (length ks) step
    → step ≡ Use used places passing → used ≡ uses.Definition n →
    k ≡ get_or ks n k → p ≡ passes_something given passing → b ≡ cond p k.spare_given k.spare_bare
    → b ≡ spare_of (is_spare (all_bare ks)) given step
step_spare ks step used places passing n k given p b kept below is of at pass h =
    let is_use : step ≡ Use (uses.Definition n) places passing = is ∙ ap (λ u. Use u places passing) of in
    let here : IsUseBelow (all_bare ks) (length ks) (Use (uses.Definition n) places passing) =
    subst (IsUseBelow (all_bare ks) (length ks)) is_use below in
    h ∙ ap (λ q. cond q k.spare_given k.spare_bare) pass
    ∙ spare_at ks n k (passes_something given passing) kept here.0 at ∙ ap (spare_of (is_spare (all_bare ks)) given)
    (sym is_use)

-- ---- one definition more

module _ (ds : List Definition) (d : Definition) (given : Bool) where
  turned : reverse (ds ++ d ∷ []) ≡ d ∷ reverse ds
  turned = reverse-append ds (d ∷ [])

  pub spare_same : (n : ℕ) → n < length ds → is_spare (ds ++ d ∷ []) n given ≡ is_spare ds n given
  spare_same n l =
      ap (λ latest. spare_in latest n given) turned ∙
      ap (λ b. cond b ((given && not (is_taking d)) || list_any (spare_of (is_spare ds) given) d.steps)
      (is_spare ds n given)) (ne_eqb n (length (reverse ds)) (λ e. omega (arith, e, l, length-reverse ds)))

  pub spare_last : is_spare (ds ++ d ∷ []) (length ds)
      given ≡ ((given && not (is_taking d)) || list_any (spare_of (is_spare ds) given) d.steps)
  spare_last =
      ap (λ latest. spare_in latest (length ds) given) turned ∙
      ap (λ b. cond b ((given && not (is_taking d)) || list_any (spare_of (is_spare ds) given) d.steps)
      (is_spare ds (length ds) given)) (eq-eqb (length ds) (length (reverse ds)) (sym (length-reverse ds)))
