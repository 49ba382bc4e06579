-- What is true of the numbers that stand for the words of a definition that is not refused.
use Rattle.std.proofs.Common.{◌≡◌, ◌∙◌, ℕ, zero, suc, ◌+◌, ◌-◌, ◌<◌, ◌≤◌, ◌==◌, min, Bool, true, false, not, ◌||◌, cond}
use Rattle.std.proofs.Common.{List, [], ◌∷◌, ◌++◌, Option, Some, None, All, map, length, take, drop, get_or, is_none}
use Rattle.std.proofs.Common.{unwrap_or, refl, sym, ap, subst, arith, inl, inr}
use Rattle.std.specs.Prelude.{reverse, slice_get, sum_by, ◌⊎◌, Result, Ok, Err, IfOk, IfErr, OnOk, OnErr}
use Rattle.std.specs.List.{list_any, flat_map}
use Rattle.std.specs.Option.{option_map, option_map_or, option_or}
use Rattle.std.proofs.lemmas.Bool.{or_parts, leb-false, eqb-true, not-false, cases_eq, eq-eqb, ne_eqb}
use Rattle.std.proofs.lemmas.List.{length-map, length-append, length-reverse, reverse-append, map-append, get_or_push}
use Rattle.std.proofs.lemmas.List.{get_or_append_left, take_at, drop_at}
use Rattle.std.proofs.lemmas.List.Elements.{All-cons, All-nil, All-push, All-weaker}
use Rattle.std.proofs.lemmas.List.Concat.{flat_map-cons}
use Rattle.std.proofs.lemmas.List.Quantifiers.{position-Some}
use Rattle.std.proofs.lemmas.Option.{slice_get_cases}
use Rattle.prop_refusals.specs.Refusals.{most}
use Rattle.prop_refusals.specs.declared.refusal.Limit.TheVariants.{Cells, Instances}
use Rattle.prop_refusals.specs.declared.refusal.Refusal.{Refusal}
use Rattle.prop_refusals.specs.declared.refusal.Refusal.TheVariants.{Memory}
use Rattle.prop_procedures.specs.declared.shape.Kinded.{Kinded}
use Rattle.prop_procedures.specs.Stored.{Stored, procedure_number}
use Rattle.prop_vocabulary.specs.Names.{number_in, numbers_in, is_missing}
use Rattle.prop_vocabulary.specs.Vocabulary.{Vocabulary}
use Rattle.prop_vocabulary.proofs.Lookups.{number_below}
use Rattle.prop_language.specs.Commands.{Passed, Step}
use Rattle.prop_compound.specs.declared.definition.Used.{Used}
use Rattle.prop_compound.specs.declared.definition.Used.TheVariants as uses
use Rattle.prop_compound.specs.declared.definition.KeptDefinition.{KeptDefinition}
use Rattle.prop_compound.specs.declared.definition.NumberedStep.{NumberedStep}
use Rattle.prop_compound.specs.declared.definition.NumberedStep.TheVariants as numbered
use Rattle.prop_compound.specs.Definitions.{Definition, Definitions, used_named, cells_wanted, is_passing_on}
use Rattle.prop_compound.specs.Defining.{scope_of, definition_of, with_definition, locals_of, cells_in, step_numbered}
use Rattle.prop_compound.specs.Defining.{passing_named, is_cell_missing, is_unknown, is_count_wrong}
use Rattle.prop_compound.specs.Expansion.{param_passed, steps_expanded, definition_expanded, spare_of, is_spare}
use Rattle.prop_compound.specs.inner.Shortcuts.{shortened}
use Rattle.prop_compound.specs.Kinds.{IsLocalOf, AreLocalsOf}
use Rattle.prop_compound.specs.Kept.{bare, all_bare, IsUseOver, IsDefinedOver}
use Rattle.prop_compound.specs.inner.Kept.{fresh_of, instances_of, total_in, total_of, places_made, IsInScope}
use Rattle.prop_compound.specs.inner.Kept.{AreInScope, IsUseBelow, IsThere, IsKept, AreKept, IsCounted}
use Rattle.prop_compound.proofs.Scoping.{late_at, late_is, taken_on, dropped_on, within_on}
use Rattle.prop_compound.proofs.Judging.{IsRightly}
use Rattle.prop_compound.proofs.Sparing.{spare_same, spare_last}
use Rattle.prop_compound.proofs.Shorter.{all_make, all_scope, all_below, same_later}

-- ---- places

early : (names : List (List ℕ)) (seen : ℕ) (name : List ℕ) → is_none (number_in (take seen names) name) ≡ false
    → unwrap_or (number_in names name) 0 < seen
early names seen name h = by (number_in names name) (sym (late_is names seen name) ∙ h)
  where
    by : (o : Option ℕ) → late_at seen o ≡ false → unwrap_or o 0 < seen
    by None e = cc
    by (Some n) e = leb-false seen n e

all_early : (names : List (List ℕ)) (seen : ℕ) (cells : List (List ℕ)) → is_missing (take seen names) cells ≡ false
    → All (λ place. place < seen) (numbers_in names cells)
all_early names seen [] h = All-nil (λ place. place < seen)
all_early names seen (cell ∷ cells) h =
    let parts = or_parts (is_none (number_in (take seen names) cell)) (is_missing (take seen names) cells) h in
    All-cons (λ place. place < seen) (unwrap_or (number_in names cell) 0) (numbers_in names cells)
    (early names seen cell parts.0) (all_early names seen cells parts.1)

module _ (library : List Stored) (words : Vocabulary) (definitions : Definitions) (scope : List (List ℕ)) where
  one_in_scope : (seen : ℕ) (step : Step) → is_missing (take seen scope) (cells_in step) ≡ false
      → IsInScope seen (step_numbered library words definitions scope step)
  one_in_scope seen (Step.Local name kind) h = tt
  one_in_scope seen (Step.Like name like) h =
      early scope seen like (or_parts (is_none (number_in (take seen scope) like)) false h).0
  one_in_scope seen (Step.Use name cells passed) h = all_early scope seen cells h

  made : (step : Step) → places_made (step_numbered library words definitions scope step) ≡ length (locals_of step)
  made (Step.Local name kind) = refl
  made (Step.Like name like) = refl
  made (Step.Use name cells passed) = refl

  -- the places that steps name are there
  pub all_in_scope : (steps : List Step) (seen : ℕ) → seen ≤ length scope → drop seen scope ≡ flat_map locals_of steps
      → is_cell_missing (take seen scope) steps ≡ false
      → AreInScope seen (map (step_numbered library words definitions scope) steps)
  all_in_scope [] seen within rest h = tt
  all_in_scope (step ∷ steps) seen within rest h =
      let parts = or_parts (is_missing (take seen scope) (cells_in step))
      (is_cell_missing (take seen scope ++ locals_of step) steps) h in
      let behind : drop seen scope ≡ locals_of step ++ flat_map locals_of steps = rest
      ∙ flat_map-cons locals_of step steps in
      let on = taken_on scope seen (locals_of step) (flat_map locals_of steps) within behind in (
        one_in_scope seen step parts.0,
        rw (made step) (all_in_scope steps (seen + length (locals_of step))
            (within_on scope seen (locals_of step) (flat_map locals_of steps) within behind)
            (dropped_on scope seen (locals_of step) (flat_map locals_of steps) within behind) (rw on parts.1)),
      )

-- ---- uses

position_below : (library : List Stored) (name : List ℕ) (n : ℕ) (p : Stored) → procedure_number library name ≡ Some n
    → n < length library
position_below library name n p e = (position-Some _ library n p e).0

pub used_there : (library : List Stored) (definitions : Definitions) (name : List ℕ) (used : Used)
    → length definitions.names ≡ length definitions.definitions → used_named library definitions name ≡ Some used
    → IsThere (length library) (length definitions.definitions) used
used_there library definitions name used same e =
    by (procedure_number library name) (number_in definitions.names name) refl refl e
  where
    nonempty : (n : ℕ) → procedure_number library name ≡ Some n → n < length library
    nonempty n f = some_of library n f
      where
        some_of : (l : List Stored) (n : ℕ) → procedure_number l name ≡ Some n → n < length l
        some_of [] n f = cc
        some_of (p ∷ ps) n f = position_below (p ∷ ps) name n p f

    by : (a b : Option ℕ) → procedure_number library name ≡ a → number_in definitions.names name ≡ b
        → option_or (option_map uses.Procedure (procedure_number library name))
        (option_map uses.Definition (number_in definitions.names name)) ≡ Some used
        → IsThere (length library) (length definitions.definitions) used
    by (Some n) b f g h =
        let is : Some (uses.Procedure n) ≡ Some used =
        sym (ap (λ o. option_or (option_map uses.Procedure o)
        (option_map uses.Definition (number_in definitions.names name))) f) ∙ h in
        let same_used : uses.Procedure n ≡ used = cc in
        rw (← same_used) (nonempty n f)
    by None (Some m) f g h =
        let is : Some (uses.Definition m) ≡ Some used =
        sym (λ i. option_or (option_map uses.Procedure (f i)) (option_map uses.Definition (g i))) ∙ h in
        let same_used : uses.Definition m ≡ used = cc in
        rw (← same_used) (let l = number_below definitions.names name m g in omega (arith, l, same))
    by None None f g h =
        let is : None ≡ Some used = sym (λ i.
        option_or (option_map uses.Procedure (f i)) (option_map uses.Definition (g i))) ∙ h in absurd (cc)

-- a procedure wants one cell at least
pub wants_some : (library : List Stored) (definitions : Definitions) (n : ℕ) → n < length library
    → 0 < cells_wanted library definitions (uses.Procedure n)
wants_some library definitions n there =
    elim (slice_get_cases library n).1 as (λ _. 0 < cells_wanted library definitions (uses.Procedure n)) [
      | inl found ↦
          (let s = found.0 in
          let wants : cells_wanted library definitions (uses.Procedure n) ≡ length s.ins + 1 =
          ap (λ o. option_map_or (λ (p : Stored). length p.ins + 1) o 0) found.2 in
          omega (arith, wants))
      | inr past ↦ absurd (omega (arith, past.0, there))
    ]

some_used : (o : Option Used) → is_none o ≡ false → (used : Used) × (o ≡ Some used)
some_used None e = cc
some_used (Some used) e = (used, refl)

module _ (library : List Stored) (words : Vocabulary) (definitions : Definitions) (scope : List (List ℕ))
    (same : length definitions.names ≡ length definitions.definitions) where
  abbrev pub IsGood : NumberedStep → Type 0
  IsGood step = IsUseBelow definitions.definitions (length definitions.definitions) step × IsUseOver library step

  good_use : (used : Used) (cells : List (List ℕ)) (passed : Passed)
      → IsThere (length library) (length definitions.definitions) used
      → length cells ≡ cells_wanted library definitions used
      → IsGood (numbered.Use used (numbers_in scope cells) (passing_named words passed))
  good_use (uses.Procedure n) cells passed there count =
      let mapped = length-map cells (λ name. unwrap_or (number_in scope name) 0) in
      let some = wants_some library definitions n there in
      (omega (arith, some, count, mapped), (there, sym count ∙ sym mapped))
  good_use (uses.Definition m) cells passed there count = ((there, sym count ∙ sym (length-map cells _)), tt)

  good_step : (step : Step) → is_unknown library definitions step ≡ false
      → is_count_wrong library definitions step ≡ false → IsGood (step_numbered library words definitions scope step)
  good_step (Step.Local name kind) h k = (tt, tt)
  good_step (Step.Like name like) h k = (tt, tt)
  good_step (Step.Use name cells passed) h k =
      let found = some_used (used_named library definitions name) h in
      let used = found.0 in
      let wrong : not (length cells == cells_wanted library definitions used) ≡ false =
      sym (ap (λ o. option_map_or (λ u. not (length cells == cells_wanted library definitions u)) o false) found.1)
      ∙ k in
      let count = eqb-true (length cells) (cells_wanted library definitions used) (not-false _ wrong) in
      let good = good_use used cells passed (used_there library definitions name used same found.1) count in
      let is : unwrap_or (used_named library definitions name) (uses.Procedure 0) ≡ used =
      ap (λ o. unwrap_or o (uses.Procedure 0)) found.1 in
      rw is good

  -- the definitions that steps use are there, and so are the procedures
  pub all_good : (steps : List Step) → list_any (is_unknown library definitions) steps ≡ false
      → list_any (is_count_wrong library definitions) steps ≡ false
      → All IsGood (map (step_numbered library words definitions scope) steps)
  all_good [] h k = All-nil IsGood
  all_good (step ∷ steps) h k =
      let a = or_parts (is_unknown library definitions step) (list_any (is_unknown library definitions) steps) h in
      let b = or_parts (is_count_wrong library definitions step) (list_any (is_count_wrong library definitions) steps) k
      in
      All-cons IsGood (step_numbered library words definitions scope step)
      (map (step_numbered library words definitions scope) steps) (good_step step a.0 b.0) (all_good steps a.1 b.1)

-- ---- one definition more

module _ (of : (ℕ → ℕ) → NumberedStep → ℕ) (ds : List Definition) (d : Definition) where
  turned : reverse (ds ++ d ∷ []) ≡ d ∷ reverse ds
  turned = reverse-append ds (d ∷ [])

  pub total_same : (n : ℕ) → n < length ds → total_of of (ds ++ d ∷ []) n ≡ total_of of ds n
  total_same n l =
      ap (λ latest. total_in of latest n) turned ∙
      ap (λ b. cond b (sum_by (of (total_in of (reverse ds))) d.steps) (total_in of (reverse ds) n))
      (ne_eqb n (length (reverse ds)) (λ e. omega (arith, e, l, length-reverse ds)))

  pub total_last : total_of of (ds ++ d ∷ []) (length ds) ≡ sum_by (of (total_of of ds)) d.steps
  total_last =
      ap (λ latest. total_in of latest (length ds)) turned ∙
      ap (λ b. cond b (sum_by (of (total_in of (reverse ds))) d.steps) (total_in of (reverse ds) (length ds)))
      (eq-eqb (length ds) (length (reverse ds)) (sym (length-reverse ds)))

get_before : {X : Type 0} (xs ys : List X) (n : ℕ) → n < length xs → slice_get (xs ++ ys) n ≡ slice_get xs n
get_before [] ys n l = absurd (omega (arith, l))
get_before (x ∷ xs) ys zero l = refl
get_before (x ∷ xs) ys (suc n) l = get_before xs ys n (omega (arith, l))

below_still : (ds more : List Definition) (n : ℕ) → n ≤ length ds → (step : NumberedStep) → IsUseBelow ds n step
    → IsUseBelow (ds ++ more) n step
below_still ds more n l (numbered.Local kind) h = tt
below_still ds more n l (numbered.Like place) h = tt
below_still ds more n l (numbered.Use (uses.Procedure k) cells passing) h = h
below_still ds more n l (numbered.Use (uses.Definition m) cells passing) h = (
  h.0,
  ap (λ o. option_map_or (λ (d : Definition). d.params) o 0)
      (get_before ds more m (let b = h.0 in omega (arith, b, l))) ∙ h.1,
)

kept_still : (ds : List Definition) (d : Definition) (n : ℕ) (k : KeptDefinition) → n < length ds → IsKept ds n k
    → IsKept (ds ++ d ∷ []) n k
kept_still ds d n k l h = record {
  in_scope = h.in_scope;
  uses = All-weaker (IsUseBelow ds n) (IsUseBelow (ds ++ d ∷ []) n) (below_still ds (d ∷ []) n (omega (arith, l)))
      k.steps.items h.uses;
  plan_in_scope = h.plan_in_scope;
  plan_uses = All-weaker (IsUseBelow ds n) (IsUseBelow (ds ++ d ∷ []) n) (below_still ds (d ∷ []) n (omega (arith, l)))
      k.plan.items h.plan_uses;
  same =
      λ words cells given e count. same_later ds d words n (omega (arith, l)) k.plan.items k.steps.items h.plan_uses
      h.uses given cells e (h.same words cells given e count);
  spare_given = h.spare_given ∙ sym (spare_same ds d true n l);
  spare_bare = h.spare_bare ∙ sym (spare_same ds d false n l);
  fresh = h.fresh ∙ ap (λ m. min (most Cells + 1) m) (sym (total_same fresh_of ds d n l));
  instances = h.instances ∙ ap (λ m. min (most Instances + 1) m) (sym (total_same instances_of ds d n l));
}

pub kept_push : (ks ks' : List KeptDefinition) (k : KeptDefinition) → ks' ≡ ks ++ k ∷ [] → AreKept ks
    → IsKept (all_bare ks ++ bare k ∷ []) (length ks) k → AreKept ks'
kept_push ks ks' k e kept here = rw e all
  where
    all : AreKept (ks ++ k ∷ [])
    all n d l =
        let bares : all_bare (ks ++ k ∷ []) ≡ all_bare ks ++ bare k ∷ [] = map-append bare ks (k ∷ []) in
        elim (cases_eq n (length ks)) [
          | inl same ↦ rw (bares, same, get_or_push ks k d (length ks) refl) here
          | inr other ↦
              (let m : n < length ks = omega (arith, l, other, length-append ks (k ∷ [])) in
              rw (bares, get_or_append_left ks (k ∷ []) d n m)
              (kept_still (all_bare ks) (bare k) n (get_or ks n d) (omega (arith, m, length-map ks bare))
              (kept n d m)))
        ]

-- one definition and its name more
pub both_pushed : (names names' : List (List ℕ)) (name : List ℕ) (ks ks' : List KeptDefinition) (k : KeptDefinition)
    (old : Definitions) → record { names = names; definitions = all_bare ks } ≡ old → names' ≡ names ++ name ∷ []
    → ks' ≡ ks ++ k ∷ [] →
    (length names ≡ length ks) × AreKept ks → IsKept (old.definitions ++ bare k ∷ []) (length old.definitions) k
    → (length names' ≡ length ks') × AreKept ks'
both_pushed names names' name ks ks' k old view n e kept here =
    let ds : old.definitions ≡ all_bare ks = ap (λ (d : Definitions). d.definitions) (sym view) in
    let there = subst (λ (ds : List Definition). IsKept (ds ++ bare k ∷ []) (length ds) k) ds here in (
      omega (arith, ap length n, ap length e, length-append names (name ∷ []), length-append ks (k ∷ []), kept.0),
      kept_push ks ks' k e kept.1 (subst (λ n. IsKept (all_bare ks ++ bare k ∷ []) n k) (length-map ks bare) there),
    )

-- one that was pushed is popped
pub one_popped : {X : Type 0} (xs xs' xs'' : List X) (x : X) (n : ℕ) → xs' ≡ xs ++ x ∷ [] → n ≡ length xs'
    → xs'' ≡ take (n - 1) xs' → xs'' ≡ xs
one_popped xs xs' xs'' x n e l f =
    f ∙ ap (take (n - 1)) e ∙ take_at xs (x ∷ []) (n - 1) (omega (arith, l, ap length e, length-append xs (x ∷ [])))

-- what is counted of steps that are in scope and use definitions that there are is right behind those
kept_last : (ks : List KeptDefinition) (count : ℕ) (items : List NumberedStep) (k : KeptDefinition) → AreKept ks
    → AreInScope count items → All (IsUseBelow (all_bare ks) (length ks)) items → IsCounted ks count items k
    → IsKept (all_bare ks ++ bare k ∷ []) (length (all_bare ks)) k
kept_last ks count items k kept scope below h =
    let ds = all_bare ks in
    let d = bare k in
    let n = length ks in
    let counted : length ds ≡ n = length-map ks bare in
    let here : n ≤ length ds = omega (arith, counted) in
    let short_below = all_below ks kept items below in
    let spare = λ (given : Bool). spare_last ds d given in
    let still = λ (steps : List NumberedStep) (b : All (IsUseBelow ds n) steps).
    subst (λ m. All (IsUseBelow (ds ++ d ∷ []) m) steps) (sym counted)
    (All-weaker (IsUseBelow ds n) (IsUseBelow (ds ++ d ∷ []) n) (below_still ds (d ∷ []) n here) steps b) in
    let steps = h.steps in
    let plan = h.plan in
    let params = h.params in
    record {
      in_scope = rw (params, steps) scope;
      uses = subst (All (IsUseBelow (ds ++ d ∷ []) (length ds))) (sym steps) (still items below);
      plan_in_scope = rw (params, plan) (all_scope ks kept items below count scope);
      plan_uses = subst (All (IsUseBelow (ds ++ d ∷ []) (length ds))) (sym plan)
          (still (flat_map (shortened ks) items) short_below);
      same =
          λ words cells given e l. (
          ap (λ it. steps_expanded (param_passed words)
          (definition_expanded (param_passed words) (reverse (ds ++ d ∷ []))) given cells it e) plan ∙
          same_later ds d words n here (flat_map (shortened ks) items) items short_below below given cells e
          (all_make ks kept words items below given cells e) ∙
          ap (λ it. steps_expanded (param_passed words)
          (definition_expanded (param_passed words) (reverse (ds ++ d ∷ []))) given cells it e) (sym steps)
          );
      spare_given = h.spare_given ∙ (λ i.
          not (list_any is_passing_on (sym steps i)) || list_any (spare_of (is_spare ds) true) (sym steps i))
          ∙ sym (spare true);
      spare_bare = h.spare_bare ∙ ap (list_any (spare_of (is_spare ds) false)) (sym steps) ∙ sym (spare false);
      fresh = h.fresh ∙ (λ i. min (most Cells + 1) (sum_by (fresh_of (total_of fresh_of ds)) (sym steps i)))
          ∙ ap (λ m. min (most Cells + 1) m) (sym (total_last fresh_of ds d));
      instances = h.instances ∙ (λ i. min (most Instances + 1)
          (sum_by (instances_of (total_of instances_of ds)) (sym steps i)))
          ∙ ap (λ m. min (most Instances + 1) m) (sym (total_last instances_of ds d));
    }

-- ---- a definition that is not refused

module _ (library : List Stored) (words : Vocabulary) (definitions : Definitions) (params : List (List ℕ))
    (steps : List Step) (same : length definitions.names ≡ length definitions.definitions)
    (right : IsRightly library words definitions params steps) where
  abbrev all : List NumberedStep
  all = map (step_numbered library words definitions (scope_of params steps)) steps

  good : All (IsGood library words definitions (scope_of params steps) same) all
  good =
      all_good library words definitions (scope_of params steps) same steps right.procedures right.counts

  pub used_below : All (IsUseBelow definitions.definitions (length definitions.definitions))
      (map (step_numbered library words definitions (scope_of params steps)) steps)
  used_below =
      All-weaker (IsGood library words definitions (scope_of params steps) same)
      (IsUseBelow definitions.definitions (length definitions.definitions)) (λ step h. h.0) all good

  pub used_over : All (IsUseOver library) (map (step_numbered library words definitions (scope_of params steps)) steps)
  used_over =
      All-weaker (IsGood library words definitions (scope_of params steps) same) (IsUseOver library) (λ step h. h.1) all
      good

  in_scope : AreInScope (length params) all
  in_scope =
      let locals = flat_map locals_of steps in
      let first : take (length params) (scope_of params steps) ≡ params = take_at params locals (length params) refl in
      all_in_scope library words definitions (scope_of params steps) steps (length params)
      (omega (arith, length-append params locals)) (drop_at params locals (length params) refl)
      (ap (λ cells. is_cell_missing cells steps) first ∙ right.cells)

  -- where the definitions are looked through
  pub used_seen : (ks : List KeptDefinition) (items : List NumberedStep) → definitions.definitions ≡ all_bare ks
      → items ≡ map (step_numbered library words definitions (scope_of params steps)) steps
      → All (IsUseBelow (all_bare ks) (length ks)) items
  used_seen ks items e h =
      let seen : length definitions.definitions ≡ length ks = ap length e ∙ length-map ks bare in
      subst (All (IsUseBelow (all_bare ks) (length ks))) (sym h)
      (subst (λ n. All (IsUseBelow (all_bare ks) n) all) seen
      (subst (λ ds. All (IsUseBelow ds (length definitions.definitions)) all) e used_below))

  -- what is kept beside it is right
  pub kept_new : (ks : List KeptDefinition) (items : List NumberedStep) (k : KeptDefinition) → AreKept ks
      → definitions.definitions ≡ all_bare ks
      → items ≡ map (step_numbered library words definitions (scope_of params steps)) steps
      → IsCounted ks (length params) items k →
      IsKept (definitions.definitions ++ bare k ∷ []) (length definitions.definitions) k
  kept_new ks items k kept s e h =
      let here : IsKept (all_bare ks ++ bare k ∷ []) (length (all_bare ks)) k =
      kept_last ks (length params) items k kept (subst (AreInScope (length params)) (sym e) in_scope)
      (used_seen ks items s e) h in
      subst (λ (ds : List Definition). IsKept (ds ++ bare k ∷ []) (length ds) k) (sym s) here

  -- it is the definition that the words say
  pub definition_so : (k : KeptDefinition) (items : List NumberedStep)
      → items ≡ map (step_numbered library words definitions (scope_of params steps)) steps → k.params ≡ length params
      → k.steps.items ≡ items → bare k ≡ definition_of library words definitions params steps
  definition_so k items e count is = λ i. record { params = count i; steps = (is ∙ e) i }

  -- whose procedures are of the library
  pub steps_over : (k : KeptDefinition) (items : List NumberedStep)
      → items ≡ map (step_numbered library words definitions (scope_of params steps)) steps → k.steps.items ≡ items
      → All (IsUseOver library) k.steps.items
  steps_over k items e is = subst (All (IsUseOver library)) (sym (is ∙ e)) used_over

  -- the steps by numbers, the scope being that of the parameters and steps
  pub numbered_so : (scope : List (List ℕ)) (items : List NumberedStep) → scope ≡ scope_of params steps
      → items ≡ map (step_numbered library words definitions scope) steps
      → items ≡ map (step_numbered library words definitions (scope_of params steps)) steps
  numbered_so scope items e h = h ∙ ap (λ scope. map (step_numbered library words definitions scope) steps) e

-- one definition more, which was made over the library
module _ (library : List Stored) (words : Vocabulary) (definitions : Definitions) (name : List ℕ)
    (params : List (List ℕ)) (steps : List Step) (k : KeptDefinition)
    (is : bare k ≡ definition_of library words definitions params steps) where
  with_new : (new : Definitions) → new
      ≡ record { names = definitions.names ++ name ∷ []; definitions = definitions.definitions ++ bare k ∷ [] }
      → new ≡ with_definition library words definitions name params steps
  with_new new e = e ∙ ap (λ (d : Definition).
      record { names = definitions.names ++ name ∷ []; definitions = definitions.definitions ++ d ∷ [] }) is

  pub pushed_new : {X : Type 0} (r : Result X Refusal) (new : Definitions)
      → OnOk r (new ≡ record {
        names = definitions.names ++ name ∷ [];
        definitions = definitions.definitions ++ bare k ∷ [];
      })
      → OnOk r (new ≡ with_definition library words definitions name params steps)
  pushed_new (Ok x) new e = with_new new e
  pushed_new (Err r) new e = e

  pub pushed_over : {X : Type 0} (r : Result X Refusal) (new : Definitions) → All (IsUseOver library) k.steps.items
      → IsDefinedOver library definitions
      → OnOk r (new ≡ record {
        names = definitions.names ++ name ∷ [];
        definitions = definitions.definitions ++ bare k ∷ [];
      }) → OnErr r (new ≡ definitions) → IsDefinedOver library new
  pushed_over (Ok x) new steps_over over e h = subst (IsDefinedOver library) (sym e) (record {
    uses = All-push (λ (d : Definition). All (IsUseOver library) d.steps) definitions.definitions (bare k) over.uses
        steps_over;
  })
  pushed_over (Err r) new steps_over over e h = subst (IsDefinedOver library) (sym h) over

-- one definition more, whose locals are of such kinds, or none
pub pushed_locals : {X : Type 0} (P : Kinded → Type 0) (definitions : Definitions) (name : List ℕ) (k : KeptDefinition)
    → All (IsLocalOf P) k.steps.items → (r : Result X Refusal) (new : Definitions) →
    OnOk r (new ≡ record {
      names = definitions.names ++ name ∷ [];
      definitions = definitions.definitions ++ bare k ∷ [];
    }) → OnErr r (new ≡ definitions)
    → AreLocalsOf P definitions → AreLocalsOf P new
pushed_locals P definitions name k locals (Ok x) new e h all =
    subst (AreLocalsOf P) (sym e) (All-push (λ (d : Definition). All (IsLocalOf P) d.steps) definitions.definitions
    (bare k) all locals)
pushed_locals P definitions name k locals (Err r) new e h all = subst (AreLocalsOf P) (sym h) all

-- what holds holds on the way that it is wanted on
pub on_ok : {X E : Type 0} {P : Type 0} (r : Result X E) → P → OnOk r P
on_ok (Ok x) p = p
on_ok (Err e) p = tt

-- what follows from what is known of a value is known of it too
pub if_ok : {T E : Type 0} (P Q : T → Type 0) → ((x : T) → P x → Q x) → (r : Result T E) → IfOk r P → IfOk r Q
if_ok P Q f (Ok x) h = f x h
if_ok P Q f (Err e) h = h

-- on the way out of a `?` there is no value of which anything is wanted
pub no_value : {T E : Type 0} (P : T → Type 0) (r : Result T E) (y : E) → r ≡ Err y → IfOk r P
no_value P r y e = subst (λ s. IfOk s P) (sym e) tt

pub no_pass : {T E : Type 0} (P : Type 0) (r : Result T E) (y : E) → r ≡ Err y → OnOk r P
no_pass P r y e = subst (λ s. OnOk s P) (sym e) tt

-- a memory that is out is so for any reason
pub or_memory : {X : Type 0} (P : Refusal → Type 0) (r : Result X Refusal) → IfErr r (λ e. e ≡ Memory)
    → IfErr r (λ e. P e ⊎ (e ≡ Memory))
or_memory P (Ok x) h = h
or_memory P (Err e) h = inr h

-- there are as many names as definitions
pub same_count : (names : List (List ℕ)) (ks : List KeptDefinition) (old : Definitions)
    → record { names = names; definitions = all_bare ks } ≡ old → (length names ≡ length ks) × AreKept ks
    → length old.names ≡ length old.definitions
same_count names ks old view kept =
    let n : length old.names ≡ length names = ap (λ (d : Definitions). length d.names) (sym view) in
    let m : length old.definitions ≡ length (all_bare ks) = ap (λ (d : Definitions). length d.definitions) (sym view) in
    omega (arith, n, m, kept.0, length-map ks bare)

-- what a name stands for wants as many cells as this
pub procedure_wants : (library : List Stored) (definitions : Definitions) (used : Used) (n : ℕ) (s : Stored)
    → used ≡ uses.Procedure n → slice_get library n ≡ Some s → (count : ℕ) (b : Bool) → b ≡ (count == length s.ins + 1)
    → not b ≡ not (count == cells_wanted library definitions used)
procedure_wants library definitions used n s u at count b e =
    let wants : cells_wanted library definitions used ≡ length s.ins + 1 = ap (cells_wanted library definitions) u
    ∙ ap (λ o. option_map_or (λ (p : Stored). length p.ins + 1) o 0) at in
    ap not e ∙ ap (λ w. not (count == w)) (sym wants)
