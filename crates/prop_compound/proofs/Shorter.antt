-- What is short for steps makes what they make.
use Rattle.std.proofs.Common.{◌≡◌, ◌∙◌, ℕ, ◌+◌, ◌<◌, ◌≤◌, List, [], ◌∷◌, ◌++◌, All, Option, length, get_or, refl, sym}
use Rattle.std.proofs.Common.{ap, subst, arith, add-zero}
use Rattle.std.specs.Prelude.{reverse}
use Rattle.std.specs.List.{flat_map}
use Rattle.std.specs.Option.{option_map_or}
use Rattle.std.proofs.lemmas.List.{get_or-map, length-map, length-reverse, reverse-append}
use Rattle.std.proofs.lemmas.List.Concat.{flat_map-cons}
use Rattle.std.proofs.lemmas.List.Elements.{All-cons, All-head, All-tail, All-nil, All-weaker}
use Rattle.std.proofs.lemmas.Option.{slice_get_read}
use Rattle.prop_compound.specs.declared.definition.Passing.{Passing}
use Rattle.prop_compound.specs.declared.definition.Passing.TheVariants as passings
use Rattle.prop_procedures.specs.declared.shape.Param.{Param}
use Rattle.prop_vocabulary.specs.Vocabulary.{Vocabulary}
use Rattle.prop_compound.specs.declared.definition.Used.{Used}
use Rattle.prop_compound.specs.declared.definition.Used.TheVariants as uses
use Rattle.prop_compound.specs.declared.definition.KeptDefinition.{KeptDefinition}
use Rattle.prop_compound.specs.declared.definition.NumberedStep.{NumberedStep}
use Rattle.prop_compound.specs.declared.definition.NumberedStep.TheVariants.{Local, Like, Use}
use Rattle.prop_compound.specs.Definitions.{Definition}
use Rattle.prop_procedures.specs.Fitting.{kind_at}
use Rattle.prop_compound.specs.Expansion.{Walk, cell_at, cells_at, with_fresh, param_passed, use_expanded}
use Rattle.prop_compound.specs.Expansion.{steps_expanded, definition_expanded}
use Rattle.prop_compound.specs.Shortcuts.{passed}
use Rattle.prop_compound.specs.inner.Shortcuts.{through, plan_of, shortened}
use Rattle.prop_compound.specs.Kept.{all_bare}
use Rattle.prop_compound.specs.inner.Kept.{places_made, AreInScope, IsUseBelow, AreKept}
use Rattle.prop_compound.proofs.Ranges.{chosen_within}
use Rattle.prop_compound.proofs.Unrolling.{Adds, same_steps, one_later}
use Rattle.prop_compound.proofs.Walking.{kept_at, kept_here, params_at, begins, earlier_of}

-- ---- a use of what has a plan

-- cells that are chosen twice
chosen_twice : (cells places chosen : List ℕ) → All (λ place. place < length places) chosen
    → cells_at cells (cells_at places chosen) ≡ cells_at (cells_at cells places) chosen
chosen_twice cells places [] h = refl
chosen_twice cells places (c ∷ chosen) h =
    λ i. sym (get_or-map (cell_at cells) places c 0 0 (All-head (λ place. place < length places) c chosen h))
    i ∷ chosen_twice cells places chosen (All-tail (λ place. place < length places) c chosen h) i

pub passed_twice : (words : Vocabulary) (given : Option Param) (passing own : Passing)
    → param_passed words given (passed passing own) ≡ param_passed words (param_passed words given passing) own
passed_twice words given passing passings.Nothing = refl
passed_twice words given passing (passings.Scale k) = refl
passed_twice words given passing (passings.Relation n) = refl
passed_twice words given passing passings.Own = refl

module _ (used : Used) (places : List ℕ) (passing : Passing) (n : ℕ) (count : n ≡ length places) where
  module _ (words : Vocabulary) (f : Adds) (given : Option Param) (cells : List ℕ) (rest : List NumberedStep) (e : Walk)
    where
      through_makes : (plan : List NumberedStep) → AreInScope n plan
          → steps_expanded (param_passed words) f (param_passed words given passing) (cells_at cells places) plan
          e ≡ use_expanded f used (cells_at cells places) (param_passed words given passing) e →
          steps_expanded (param_passed words) f given cells (through plan used places passing ++ rest) e ≡ steps_expanded
          (param_passed words) f given cells rest
          (use_expanded f used (cells_at cells places) (param_passed words given passing) e)
      through_makes [] scope makes = ap (steps_expanded (param_passed words) f given cells rest) makes
      through_makes (Use inner chosen own ∷ []) scope makes =
          let within : All (λ place. place < length places) chosen =
          subst (λ m. All (λ place. place < m) chosen) count scope.0 in
          ap (steps_expanded (param_passed words) f given cells rest)
          ((λ i. use_expanded f inner (chosen_twice cells places chosen within i)
          (passed_twice words given passing own i) e) ∙ makes)
      through_makes (Use inner chosen own ∷ (step ∷ steps)) scope makes = refl
      through_makes (Local kind ∷ steps) scope makes = refl
      through_makes (Like place ∷ steps) scope makes = refl

  module _ (m : ℕ) (within : All (λ place. place < m) places) (rest : List NumberedStep) (behind : AreInScope m rest)
    where
      as_it_is : AreInScope m (Use used places passing ∷ rest)
      as_it_is = (within, rw add-zero behind)

      through_scope : (plan : List NumberedStep) → AreInScope n plan
          → AreInScope m (through plan used places passing ++ rest)
      through_scope [] scope = behind
      through_scope (Use inner chosen own ∷ []) scope =
          let inside : All (λ place. place < length places) chosen =
          subst (λ k. All (λ place. place < k) chosen) count scope.0 in
          (chosen_within m places chosen within inside, rw add-zero behind)
      through_scope (Use inner chosen own ∷ (step ∷ steps)) scope = as_it_is
      through_scope (Local kind ∷ steps) scope = as_it_is
      through_scope (Like place ∷ steps) scope = as_it_is

  module _ (ds : List Definition) (j m : ℕ) (l : j ≤ m) (here : IsUseBelow ds m (Use used places passing))
      (rest : List NumberedStep) (behind : All (IsUseBelow ds m) rest) where
    below_as_it_is : All (IsUseBelow ds m) (Use used places passing ∷ rest)
    below_as_it_is = All-cons (IsUseBelow ds m) (Use used places passing) rest here behind

    one_below : (inner : Used) (chosen : List ℕ) (own : Passing) → IsUseBelow ds j (Use inner chosen own)
        → IsUseBelow ds m (Use inner (cells_at places chosen) (passed passing own))
    one_below (uses.Procedure k) chosen own h = omega (arith, h, length-map chosen (cell_at places))
    one_below (uses.Definition k) chosen own h =
        (let b = h.0 in omega (arith, b, l), h.1 ∙ sym (length-map chosen (cell_at places)))

    through_below : (plan : List NumberedStep) → All (IsUseBelow ds j) plan
        → All (IsUseBelow ds m) (through plan used places passing ++ rest)
    through_below [] below = behind
    through_below (Use inner chosen own ∷ []) below =
        All-cons (IsUseBelow ds m) (Use inner (cells_at places chosen) (passed passing own)) rest
        (one_below inner chosen own (All-head (IsUseBelow ds j) (Use inner chosen own) [] below)) behind
    through_below (Use inner chosen own ∷ (step ∷ steps)) below = below_as_it_is
    through_below (Local kind ∷ steps) below = below_as_it_is
    through_below (Like place ∷ steps) below = below_as_it_is

-- ---- all steps

module _ (ks : List KeptDefinition) (kept : AreKept ks) where
  abbrev M : Vocabulary → Adds
  M words = definition_expanded (param_passed words) (reverse (all_bare ks))

  abbrev IsBelow : NumberedStep → Type 0
  IsBelow = IsUseBelow (all_bare ks) (length ks)

  pub plan_is : (n : ℕ) (k : KeptDefinition) → n < length ks → k ≡ get_or ks n k → plan_of ks n ≡ k.plan.items
  plan_is n k l at = ap (λ o. option_map_or (λ (k : KeptDefinition). k.plan.items) o [])
      (slice_get_read ks (length ks) n k refl l at)

  short_makes : (words : Vocabulary) → (step : NumberedStep) → IsUseBelow (all_bare ks) (length ks) step
      → (given : Option Param) (cells : List ℕ) (rest : List NumberedStep) (e : Walk) →
      steps_expanded (param_passed words) (definition_expanded (param_passed words) (reverse (all_bare ks))) given cells
      (shortened ks step ++ rest) e ≡ steps_expanded (param_passed words)
      (definition_expanded (param_passed words) (reverse (all_bare ks))) given cells (step ∷ rest) e
  short_makes words (Local kind) below given cells rest e = refl
  short_makes words (Like place) below given cells rest e = refl
  short_makes words (Use (uses.Procedure n) places passing) below given cells rest e = refl
  short_makes words (Use (uses.Definition n) places passing) below given cells rest e =
      let found = kept_at ks n below.0 in
      let k = found.0 in
      let at : k ≡ get_or ks n k = sym found.1 in
      let here = kept_here ks n k kept below.0 at in
      let count = params_at ks n k (length places) below.0 at below.1 in
      let makes = begins words ks n k (cells_at cells places) (param_passed words given passing) e kept below.0
      at (length-map places (cell_at cells) ∙ sym count) in
      ap (λ plan. steps_expanded (param_passed words) (M words) given cells
      (through plan (uses.Definition n) places passing ++ rest) e) (plan_is n k below.0 at) ∙
      through_makes (uses.Definition n) places passing k.params count words (M words) given cells rest e k.plan.items
      here.plan_in_scope makes

  short_scope : (step : NumberedStep) → IsUseBelow (all_bare ks) (length ks) step → (m : ℕ) (rest : List NumberedStep)
      → AreInScope m (step ∷ []) → AreInScope (m + places_made step) rest → AreInScope m (shortened ks step ++ rest)
  short_scope (Local kind) below m rest scope behind = (scope.0, behind)
  short_scope (Like place) below m rest scope behind = (scope.0, behind)
  short_scope (Use (uses.Procedure n) places passing) below m rest scope behind = (scope.0, behind)
  short_scope (Use (uses.Definition n) places passing) below m rest scope behind =
      let found = kept_at ks n below.0 in
      let k = found.0 in
      let at : k ≡ get_or ks n k = sym found.1 in
      let here = kept_here ks n k kept below.0 at in
      let count = params_at ks n k (length places) below.0 at below.1 in
      subst (λ plan. AreInScope m (through plan (uses.Definition n) places passing ++ rest))
      (sym (plan_is n k below.0 at))
      (through_scope (uses.Definition n) places passing k.params count m scope.0 rest (rw add-zero at behind)
      k.plan.items here.plan_in_scope)

  short_below : (step : NumberedStep) → IsUseBelow (all_bare ks) (length ks) step → (rest : List NumberedStep)
      → All (IsUseBelow (all_bare ks) (length ks)) rest
      → All (IsUseBelow (all_bare ks) (length ks)) (shortened ks step ++ rest)
  short_below (Local kind) below rest behind = All-cons IsBelow (Local kind) rest below behind
  short_below (Like place) below rest behind = All-cons IsBelow (Like place) rest below behind
  short_below (Use (uses.Procedure n) places passing) below rest behind =
      All-cons IsBelow (Use (uses.Procedure n) places passing) rest below behind
  short_below (Use (uses.Definition n) places passing) below rest behind =
      let found = kept_at ks n below.0 in
      let k = found.0 in
      let at : k ≡ get_or ks n k = sym found.1 in
      let here = kept_here ks n k kept below.0 at in
      let count = params_at ks n k (length places) below.0 at below.1 in
      let early : n < length ks = below.0 in
      subst (λ plan. All IsBelow (through plan (uses.Definition n) places passing ++ rest))
      (sym (plan_is n k below.0 at))
      (through_below (uses.Definition n) places passing k.params count (all_bare ks) n (length ks)
      (omega (arith, early)) below rest behind k.plan.items here.plan_uses)

  -- a step more before steps that make the same
  behind_same : (words : Vocabulary) → (step : NumberedStep) (a b : List NumberedStep)
      → ((given : Option Param) (cells : List ℕ) (e : Walk)
      → steps_expanded (param_passed words) (M words) given cells a e ≡ steps_expanded (param_passed words) (M words)
      given cells b e) →
      (given : Option Param) (cells : List ℕ) (e : Walk)
      → steps_expanded (param_passed words) (M words) given cells (step ∷ a) e ≡ steps_expanded (param_passed words)
      (M words) given cells (step ∷ b) e
  behind_same words (Local kind) a b h given cells e = h given (cells ++ length e.kinds ∷ []) (with_fresh e kind)
  behind_same words (Like place) a b h given cells e =
      h given (cells ++ length e.kinds ∷ []) (with_fresh e (kind_at e.kinds (cell_at cells place)))
  behind_same words (Use used places passing) a b h given cells e =
      h given cells (use_expanded (M words) used (cells_at cells places) (param_passed words given passing) e)

  pub all_make : (words : Vocabulary) → (steps : List NumberedStep) → All (IsUseBelow (all_bare ks) (length ks)) steps
      → (given : Option Param) (cells : List ℕ) (e : Walk) →
      steps_expanded (param_passed words) (definition_expanded (param_passed words) (reverse (all_bare ks))) given cells
      (flat_map (shortened ks) steps) e ≡ steps_expanded (param_passed words)
      (definition_expanded (param_passed words) (reverse (all_bare ks))) given cells steps e
  all_make words [] below given cells e = refl
  all_make words (step ∷ steps) below given cells e =
      let rest = flat_map (shortened ks) steps in
      ap (λ all. steps_expanded (param_passed words) (M words) given cells all e)
      (flat_map-cons (shortened ks) step steps)
      ∙ short_makes words step (All-head IsBelow step steps below) given cells rest e ∙
      behind_same words step rest steps (all_make words steps (All-tail IsBelow step steps below)) given cells e

  pub all_scope : (steps : List NumberedStep) → All (IsUseBelow (all_bare ks) (length ks)) steps → (m : ℕ)
      → AreInScope m steps → AreInScope m (flat_map (shortened ks) steps)
  all_scope [] below m scope = tt
  all_scope (step ∷ steps) below m scope =
      subst (AreInScope m) (sym (flat_map-cons (shortened ks) step steps))
      (short_scope step (All-head IsBelow step steps below) m (flat_map (shortened ks) steps) (scope.0, tt)
      (all_scope steps (All-tail IsBelow step steps below) (m + places_made step) scope.1))

  pub all_below : (steps : List NumberedStep) → All (IsUseBelow (all_bare ks) (length ks)) steps
      → All (IsUseBelow (all_bare ks) (length ks)) (flat_map (shortened ks) steps)
  all_below [] below = All-nil IsBelow
  all_below (step ∷ steps) below =
      subst (All IsBelow) (sym (flat_map-cons (shortened ks) step steps))
      (short_below step (All-head IsBelow step steps below) (flat_map (shortened ks) steps)
      (all_below steps (All-tail IsBelow step steps below)))

-- ---- one definition more

module _ (ds : List Definition) (d : Definition) where
  made_later : (words : Vocabulary) → (m : ℕ) → m < length ds
      → definition_expanded (param_passed words) (reverse (ds ++ d ∷ [])) m ≡ definition_expanded (param_passed words)
      (reverse ds) m
  made_later words m l =
      ap (λ latest. definition_expanded (param_passed words) latest m) (reverse-append ds (d ∷ []))
      ∙ one_later words d (reverse ds) m (omega (arith, l, length-reverse ds))

  -- steps that use definitions below n make the same
  steps_later : (words : Vocabulary) → (n : ℕ) → n ≤ length ds → (steps : List NumberedStep)
      → All (IsUseBelow ds n) steps → (given : Option Param) (cells : List ℕ) (e : Walk) →
      steps_expanded (param_passed words) (definition_expanded (param_passed words) (reverse (ds ++ d ∷ []))) given
      cells steps e ≡ steps_expanded (param_passed words) (definition_expanded (param_passed words) (reverse ds))
      given cells steps e
  steps_later words n l steps below given cells e =
      same_steps words (definition_expanded (param_passed words) (reverse (ds ++ d ∷ [])))
      (definition_expanded (param_passed words) (reverse ds)) n (λ m b. made_later words m (omega (arith, b, l)))
      steps
      (All-weaker (IsUseBelow ds n) _ (earlier_of ds n) steps below) given cells e

  pub same_later : (words : Vocabulary) → (n : ℕ) → n ≤ length ds → (a b : List NumberedStep) → All (IsUseBelow ds n) a
      → All (IsUseBelow ds n) b → (given : Option Param) (cells : List ℕ) (e : Walk) →
      steps_expanded (param_passed words) (definition_expanded (param_passed words) (reverse ds)) given cells a
      e ≡ steps_expanded (param_passed words) (definition_expanded (param_passed words) (reverse ds)) given cells b
      e →
      steps_expanded (param_passed words) (definition_expanded (param_passed words) (reverse (ds ++ d ∷ []))) given
      cells a e ≡ steps_expanded (param_passed words)
      (definition_expanded (param_passed words) (reverse (ds ++ d ∷ []))) given cells b e
  same_later words n l a b below_a below_b given cells e h =
      steps_later words n l a below_a given cells e ∙ h ∙ sym (steps_later words n l b below_b given cells e)
