-- Going through the steps of a definition.
use Rattle.std.proofs.Common.{◌≡◌, ◌∙◌, ℕ, ◌+◌, ◌<◌, List, ◌∷◌, length, drop, get_or, subst, refl, sym, ap, arith, inl}
use Rattle.std.proofs.Common.{inr, Some}
use Rattle.std.specs.Prelude.{Option, reverse, slice_get}
use Rattle.std.specs.Option.{option_map, option_map_or}
use Rattle.std.proofs.lemmas.List.{drop_more, length-map, length-reverse, get_or-map}
use Rattle.std.proofs.lemmas.List.Elements.{All-weaker}
use Rattle.std.proofs.lemmas.Option.{slice_get_cases, slice_get-map, slice_get_read}
use Rattle.prop_compound.specs.declared.definition.Passing.{Passing}
use Rattle.prop_procedures.specs.declared.shape.Param.{Param}
use Rattle.prop_vocabulary.specs.Vocabulary.{Vocabulary}
use Rattle.prop_compound.specs.declared.definition.Used.{Used}
use Rattle.prop_compound.specs.declared.definition.Used.TheVariants as uses
use Rattle.prop_compound.specs.declared.definition.KeptDefinition.{KeptDefinition}
use Rattle.prop_compound.specs.declared.definition.NumberedStep.{NumberedStep}
use Rattle.prop_compound.specs.declared.definition.NumberedStep.TheVariants.{Local, Like, Use}
use Rattle.prop_compound.specs.Definitions.{Definition}
use Rattle.prop_compound.specs.Expansion.{Walk, cells_at, param_passed, use_expanded, steps_expanded}
use Rattle.prop_compound.specs.Expansion.{definition_expanded}
use Rattle.prop_compound.specs.Kept.{bare, all_bare}
use Rattle.prop_compound.specs.inner.Frames.{IsOnCells}
use Rattle.prop_compound.specs.inner.Kept.{places_made, IsInScope, AreInScope, IsUseBelow, IsKept, AreKept}
use Rattle.prop_compound.proofs.Latest.{latest_at, latest_of}
use Rattle.prop_compound.proofs.Unrolling.{Adds, IsEarlier, AreOrdered, unrolled}

pub kept_at : (ks : List KeptDefinition) (n : ℕ) → n < length ks → (k : KeptDefinition) × (get_or ks n k ≡ k)
kept_at ks n l =
    elim (slice_get_cases ks n).1 as (λ _. (k : KeptDefinition) × (get_or ks n k ≡ k)) [
      | inl at ↦ (at.0, at.3)
      | inr past ↦ absurd (omega (arith, past.0, l))
    ]

pub earlier_of : (ds : List Definition) (n : ℕ) (step : NumberedStep) → IsUseBelow ds n step → IsEarlier n step
earlier_of ds n (Local kind) h = tt
earlier_of ds n (Like place) h = tt
earlier_of ds n (Use (uses.Procedure k) cells passing) h = tt
earlier_of ds n (Use (uses.Definition m) cells passing) h = h.0

-- the n-th of the definitions without what is kept beside it
pub bare_at : (ks : List KeptDefinition) (n : ℕ) (k : KeptDefinition) (d : Definition) → n < length ks
    → k ≡ get_or ks n k → latest_at (reverse (all_bare ks)) n d ≡ bare k
bare_at ks n k d l e =
    latest_of (all_bare ks) n d (omega (arith, l, length-map ks bare)) ∙ get_or-map bare ks n k d l ∙ ap bare (sym e)

pub kept_here : (ks : List KeptDefinition) (n : ℕ) (k : KeptDefinition) → AreKept ks → n < length ks → k ≡ get_or ks n k
    → IsKept (all_bare ks) n k
kept_here ks n k kept l e = let h = kept n k l in rw (← e) at h

pub ordered : (ks : List KeptDefinition) → AreKept ks → AreOrdered (reverse (all_bare ks))
ordered ks kept n d l =
    let m : n < length ks = omega (arith, l, length-reverse (all_bare ks), length-map ks bare) in
    let found = kept_at ks n m in
    let k = found.0 in
    let here = kept_here ks n k kept m (sym found.1) in
    rw (bare_at ks n k d m (sym found.1))
    (All-weaker (IsUseBelow (all_bare ks) n) (IsEarlier n) (earlier_of (all_bare ks) n) k.steps.items here.uses)

-- before the first step
pub begins : (words : Vocabulary) (ks : List KeptDefinition) (n : ℕ) (k : KeptDefinition) (cells : List ℕ)
    (given : Option Param) (e : Walk) → AreKept ks → n < length ks → k ≡ get_or ks n k → length cells ≡ k.params →
    steps_expanded (param_passed words) (definition_expanded (param_passed words) (reverse (all_bare ks))) given cells
    k.plan.items e ≡ definition_expanded (param_passed words) (reverse (all_bare ks)) n cells given e
begins words ks n k cells given e kept l at count =
    let M = definition_expanded (param_passed words) (reverse (all_bare ks)) in
    let here = kept_here ks n k kept l at in
    let in_all : n < length (reverse (all_bare ks)) =
    omega (arith, l, length-reverse (all_bare ks), length-map ks bare) in
    here.same words cells given e count ∙
    sym (unrolled words (reverse (all_bare ks)) (ordered ks kept) n (bare k) in_all cells given e
    ∙ ap (λ d. steps_expanded (param_passed words) M given cells d.steps e) (bare_at ks n k (bare k) l at))

-- the count of the cells of a use is that of the parameters
pub params_at : (ks : List KeptDefinition) (n : ℕ) (k : KeptDefinition) (count : ℕ) → n < length ks → k ≡ get_or ks n k
    → option_map_or (λ (d : Definition). d.params) (slice_get (all_bare ks) n) 0 ≡ count → k.params ≡ count
params_at ks n k count l at e =
    let there : slice_get (all_bare ks) n ≡ Some (bare k) = slice_get-map bare ks n
    ∙ ap (option_map bare) (slice_get_read ks (length ks) n k refl l at) in
    sym (ap (λ o. option_map_or (λ (d : Definition). d.params) o 0) there) ∙ e

-- ---- what one step adds

-- what is at hand behind a step makes the same with the further steps as what was at hand before it does with the step
-- too
module _ (words : Vocabulary) (D : Adds) (given : Option Param) (cells : List ℕ) (step : NumberedStep) (e : Walk) where
  abbrev pub Goes : List ℕ → Walk → Type 0
  Goes cells' e' = (steps : List NumberedStep)
      → steps_expanded (param_passed words) D given cells (step ∷ steps) e ≡ steps_expanded (param_passed words) D given
      cells' steps e'

  pub use_goes : (used : Used) (places : List ℕ) (passing : Passing) → step ≡ Use used places passing → (used' : Used)
      → used ≡ used' → (chosen : List ℕ) → chosen ≡ cells_at cells places → (p : Option Param)
      → p ≡ param_passed words given passing → (e' : Walk) → e' ≡ use_expanded D used' chosen p e → Goes cells e'
  use_goes used places passing s used' u chosen c p q e' w =
      λ steps. ap (λ z. steps_expanded (param_passed words) D given cells (z ∷ steps) e) s
      ∙ ap (steps_expanded (param_passed words) D given cells steps)
      (sym (w ∙ (λ i. use_expanded D (sym u i) (c i) (q i) e)))

-- going on behind a step
module _ (all : List NumberedStep) (i : ℕ) (step : NumberedStep) (l : i < length all) (at : step ≡ get_or all i step)
  where
    rest_is : drop i all ≡ step ∷ drop (i + 1) all
    rest_is = drop_more all i step l ∙ ap (λ s. s ∷ drop (i + 1) all) (sym at)

    pub scope_here : (n : ℕ) → AreInScope n (drop i all) → IsInScope n step
    scope_here n h = (subst (AreInScope n) rest_is h).0

    pub scope_behind : (n m : ℕ) → m ≡ n + places_made step → AreInScope n (drop i all) → AreInScope m (drop (i + 1) all)
    scope_behind n m e h = subst (λ k. AreInScope k (drop (i + 1) all)) (sym e) (subst (AreInScope n) rest_is h).1

    pub goes_on : (words : Vocabulary) (D : Adds) (given : Option Param) (cells cells' : List ℕ) (e e' : Walk)
        → Goes words D given cells step e cells' e'
        → steps_expanded (param_passed words) D given cells' (drop (i + 1) all) e' ≡ steps_expanded (param_passed words) D
        given cells (drop i all) e
    goes_on words D given cells cells' e e' h =
        sym (h (drop (i + 1) all)) ∙ ap (λ steps. steps_expanded (param_passed words) D given cells steps e) (sym rest_is)

-- a use of a procedure is on one cell at least
pub on_cells : (ds : List Definition) (n : ℕ) (step : NumberedStep) → IsUseBelow ds n step → IsOnCells step
on_cells ds n (Local kind) h = tt
on_cells ds n (Like place) h = tt
on_cells ds n (Use (uses.Procedure k) cells passing) h = h
on_cells ds n (Use (uses.Definition m) cells passing) h = tt
