-- Definitions among words that grow, and a definition more.
use Rattle.std.proofs.Common.{◌≡◌, ◌∙◌, ℕ, zero, suc, ◌<◌, ◌==◌, List, [], ◌∷◌, ◌++◌, All, Bool, true, false}
use Rattle.std.proofs.Common.{cond, Option, Some, None, map, length, is_none, is_some, unwrap_or, if◌then◌else◌, refl}
use Rattle.std.proofs.Common.{sym, ap, subst, arith, inl, inr, ◌⊎◌}
use Rattle.std.specs.Prelude.{slice_get, Result, Ok, Err, OnOk, OnErr, IfErr, ⊤}
use Rattle.std.specs.List.{list_any}
use Rattle.std.specs.Option.{option_map}
use Rattle.std.proofs.lemmas.Bool.{or_parts}
use Rattle.std.proofs.lemmas.List.{length-append}
use Rattle.std.proofs.lemmas.List.Elements.{All-nil, All-cons, All-head, All-tail, All-push, All-weaker}
use Rattle.prop_refusals.specs.declared.refusal.Refusal.{Refusal}
use Rattle.prop_refusals.specs.declared.refusal.Refusal.TheVariants.{Memory}
use Rattle.prop_sets.specs.Relation as sets
use Rattle.prop_procedures.specs.declared.shape.Param.{Param}
use Rattle.prop_procedures.specs.declared.shape.Param.TheVariants as params
use Rattle.prop_procedures.specs.Stored.{Stored}
use Rattle.prop_procedures.specs.Fitting.{kind_at}
use Rattle.prop_vocabulary.specs.Names.{number_in}
use Rattle.prop_vocabulary.specs.Refusing.{IsReason}
use Rattle.prop_vocabulary.specs.Vocabulary.{Vocabulary, with_domain, with_symbol}
use Rattle.prop_vocabulary.specs.inner.Between.{with_new_relation}
use Rattle.prop_vocabulary.specs.Values.{Meant, Known, Name}
use Rattle.prop_vocabulary.proofs.Lookups.{number_below}
use Rattle.prop_language.specs.Commands.{By, Passed, Step}
use Rattle.prop_compound.specs.declared.definition.Passing.{Passing}
use Rattle.prop_compound.specs.declared.definition.Passing.TheVariants as passings
use Rattle.prop_compound.specs.declared.definition.NumberedStep.{NumberedStep}
use Rattle.prop_compound.specs.declared.definition.NumberedStep.TheVariants.{Local, Like, Use}
use Rattle.prop_compound.specs.Definitions.{Definition, Definitions}
use Rattle.prop_compound.specs.Defining.{scope_of, step_numbered, definition_of, with_definition, define_refusal}
use Rattle.prop_compound.specs.Defining.{is_relation_missing}
use Rattle.prop_compound.specs.Expansion.{Walk, cell_at, cells_at, with_fresh, use_expanded, steps_expanded}
use Rattle.prop_compound.specs.Expansion.{definition_expanded, spare_in}
use Rattle.prop_compound.specs.Kinds.{IsSized, AreLocalsOf}
use Rattle.prop_compound.specs.Compounds.{compound_of}
use Rattle.prop_compound.specs.inner.Compounds.{compound_refused}
use Rattle.prop_compound.specs.Numbered.{with_spare, added_in, compounds_from, compounds_of, passed_among}
use Rattle.prop_compound.proofs.Unrolling.{Adds}
use Rattle.prop_compound.proofs.ByName.{compounds_more, refusal_same, allowed_rightly}
use Rattle.prop_workbench.specs.inner.Refusing.{with_meant}
use Rattle.prop_workbench.specs.inner.Effects.{with_meants}
use Rattle.prop_workbench.specs.Sessions.{AreNumbered, IsPassedBelow, IsRelationBelow}
use Rattle.prop_workbench.proofs.WordLemmas.{locals_same, locals_more}

-- ---- relations more

module _ (pass pass' : Option Param → Passing → Option Param) (n : ℕ)
    (agree : (given : Option Param) (p : Passing) → IsRelationBelow n p → pass given p ≡ pass' given p) where
  same_steps : (f g : Adds) → f ≡ g → (steps : List NumberedStep) → All (IsPassedBelow n) steps
      → (given : Option Param) (cells : List ℕ) (e : Walk)
      → steps_expanded pass f given cells steps e ≡ steps_expanded pass' g given cells steps e
  same_steps f g same [] below given cells e = refl
  same_steps f g same (Local kind ∷ steps) below given cells e =
      same_steps f g same steps (All-tail (IsPassedBelow n) (Local kind) steps below) given
      (cells ++ length e.kinds ∷ []) (with_fresh e kind)
  same_steps f g same (Like place ∷ steps) below given cells e =
      same_steps f g same steps (All-tail (IsPassedBelow n) (Like place) steps below) given
      (cells ++ length e.kinds ∷ []) (with_fresh e (kind_at e.kinds (cell_at cells place)))
  same_steps f g same (Use used places passing ∷ steps) below given cells e =
      let step = Use used places passing in
      let here = All-head (IsPassedBelow n) step steps below in
      let on = cells_at cells places in
      (λ i. steps_expanded pass f given cells steps (use_expanded (same i) used on (agree given passing here i) e))
      ∙ same_steps f g same steps (All-tail (IsPassedBelow n) step steps below) given cells
      (use_expanded g used on (pass' given passing) e)

  abbrev AreBelow : List Definition → Type 0
  AreBelow ds = All (λ (d : Definition). All (IsPassedBelow n) d.steps) ds

  same_definition : (latest : List Definition) → AreBelow latest
      → definition_expanded pass latest ≡ definition_expanded pass' latest
  same_definition [] below = refl
  same_definition (d ∷ earlier) below =
      let P = λ (d : Definition). All (IsPassedBelow n) d.steps in
      let rest = same_definition earlier (All-tail P d earlier below) in
      let here = same_steps (definition_expanded pass earlier) (definition_expanded pass' earlier) rest d.steps
      (All-head P d earlier below) in
      λ i m cells given e. cond (m == length earlier) (here given cells e i) (rest i m cells given e)

  same_added : (latest : List Definition) → AreBelow latest → added_in pass latest ≡ added_in pass' latest
  same_added latest below = λ i m cells given e.
      same_definition latest below i m cells given (with_spare e (spare_in latest m (is_some given)))

  same_from : (earlier : List Definition) (names : List (List ℕ)) (ds : List Definition) → AreBelow earlier
      → AreBelow ds → compounds_from pass earlier names ds ≡ compounds_from pass' earlier names ds
  same_from earlier [] ds before below = refl
  same_from earlier (name ∷ names) [] before below = refl
  same_from earlier (name ∷ names) (d ∷ ds) before below =
      let P = λ (d : Definition). All (IsPassedBelow n) d.steps in
      let now : AreBelow (d ∷ earlier) = All-cons P d earlier (All-head P d ds below) before in
      λ i. record { name = name; wants = d.params; adds = same_added (d ∷ earlier) now i (length earlier) }
      ∷ same_from (d ∷ earlier) names ds now (All-tail P d ds below) i

get_before : {X : Type 0} (xs ys : List X) (n : ℕ) → n < length xs → slice_get (xs ++ ys) n ≡ slice_get xs n
get_before [] ys n l = absurd (omega (arith, l))
get_before (x ∷ xs) ys zero l = refl
get_before (x ∷ xs) ys (suc n) l = get_before xs ys n (omega (arith, l))

still_passed : (rs : List sets.Relation) (r : sets.Relation) (given : Option Param) (p : Passing)
    → IsRelationBelow (length rs) p → passed_among (rs ++ r ∷ []) given p ≡ passed_among rs given p
still_passed rs r given passings.Nothing below = refl
still_passed rs r given (passings.Scale k) below = refl
still_passed rs r given (passings.Relation n) below = ap (option_map params.Rows) (get_before rs (r ∷ []) n below)
still_passed rs r given passings.Own below = refl

-- a relation more leaves what definitions add
pub compounds_still : (words : Vocabulary) (r : sets.Relation) (definitions : Definitions)
    → AreNumbered words definitions
    → compounds_of (words.relations ++ r ∷ []) definitions ≡ compounds_of words.relations definitions
compounds_still words r definitions numbered =
    same_from (passed_among (words.relations ++ r ∷ [])) (passed_among words.relations) (length words.relations)
    (still_passed words.relations r) [] definitions.names definitions.definitions
    (All-nil (λ (d : Definition). All (IsPassedBelow (length words.relations)) d.steps)) numbered.passed

-- ---- words that grow

pub numbered_same : (words new : Vocabulary) (definitions : Definitions) → new.domains ≡ words.domains
    → new.relations ≡ words.relations → new.relation_names ≡ words.relation_names → AreNumbered words definitions
    → AreNumbered new definitions
numbered_same words new definitions domains relations names h = record {
  locals = locals_same words new definitions domains h.locals;
  relations = ap length relations ∙ h.relations ∙ sym (ap length names);
  names = h.names;
  passed = subst (λ (rs : List sets.Relation). All (λ (d : Definition). All (IsPassedBelow (length rs)) d.steps)
      definitions.definitions) (sym relations) h.passed;
}

pub numbered_domain : (words : Vocabulary) (name : List ℕ) (elements : List (List ℕ)) (definitions : Definitions)
    → AreNumbered words definitions → AreNumbered (with_domain words name elements) definitions
numbered_domain words name elements definitions h = record {
  locals = locals_more words name elements definitions h.locals;
  relations = h.relations;
  names = h.names;
  passed = h.passed;
}

passed_still : (n m : ℕ) → n < m → (step : NumberedStep) → IsPassedBelow n step → IsPassedBelow m step
passed_still n m l (Local kind) h = tt
passed_still n m l (Like place) h = tt
passed_still n m l (Use used places passings.Nothing) h = tt
passed_still n m l (Use used places (passings.Scale k)) h = tt
passed_still n m l (Use used places (passings.Relation k)) h = omega (arith, h, l)
passed_still n m l (Use used places passings.Own) h = tt

pub numbered_relation : (words : Vocabulary) (name : List ℕ) (r : sets.Relation) (definitions : Definitions)
    → AreNumbered words definitions → AreNumbered (with_new_relation words name r) definitions
numbered_relation words name r definitions h =
    let n = length words.relations in
    let m = length (words.relations ++ r ∷ []) in
    let more = length-append words.relations (r ∷ []) in
    record {
      locals = locals_same words (with_new_relation words name r) definitions refl h.locals;
      relations = let same = h.relations in
          omega (arith, more, length-append words.relation_names (name ∷ []), same);
      names = h.names;
      passed = All-weaker (λ (d : Definition). All (IsPassedBelow n) d.steps)
          (λ (d : Definition). All (IsPassedBelow m) d.steps)
          (λ d. All-weaker (IsPassedBelow n) (IsPassedBelow m) (passed_still n m (omega (arith, more))) d.steps)
          definitions.definitions h.passed;
    }

-- a symbol more leaves the relations as they were
pub same_relations : (words : Vocabulary) (name : List ℕ) → (with_symbol words name).relations ≡ words.relations
same_relations words name = by (is_some (number_in words.symbols name))
  where
    by : (t : Bool) → (if t then words else record words { symbols = words.symbols ++ name ∷ [] }).relations
        ≡ words.relations
    by true = refl
    by false = refl

pub same_relation_names : (words : Vocabulary) (name : List ℕ)
    → (with_symbol words name).relation_names ≡ words.relation_names
same_relation_names words name = by (is_some (number_in words.symbols name))
  where
    by : (t : Bool) → (if t then words else record words { symbols = words.symbols ++ name ∷ [] }).relation_names
        ≡ words.relation_names
    by true = refl
    by false = refl

pub meant_relations : (words : Vocabulary) (meant : Meant) → (with_meant words meant).relations ≡ words.relations
meant_relations words (Known info) = refl
meant_relations words (Name symbol) = same_relations words symbol

pub meants_relations : (words : Vocabulary) (meants : List Meant)
    → (with_meants words meants).relations ≡ words.relations
meants_relations words [] = refl
meants_relations words (meant ∷ more) = meants_relations (with_meant words meant) more ∙ meant_relations words meant

meant_relation_names : (words : Vocabulary) (meant : Meant)
    → (with_meant words meant).relation_names ≡ words.relation_names
meant_relation_names words (Known info) = refl
meant_relation_names words (Name symbol) = same_relation_names words symbol

meants_relation_names : (words : Vocabulary) (meants : List Meant)
    → (with_meants words meants).relation_names ≡ words.relation_names
meants_relation_names words [] = refl
meants_relation_names words (meant ∷ more) =
    meants_relation_names (with_meant words meant) more ∙ meant_relation_names words meant

-- definitions are numbered still where symbols were named
pub numbered_meants : (words new : Vocabulary) (meants : List Meant) (definitions : Definitions)
    → new ≡ with_meants words meants → new.domains ≡ words.domains → AreNumbered words definitions
    → AreNumbered new definitions
numbered_meants words new meants definitions is domains =
    numbered_same words new definitions domains
    (ap (λ (w : Vocabulary). w.relations) is ∙ meants_relations words meants)
    (ap (λ (w : Vocabulary). w.relation_names) is ∙ meants_relation_names words meants)

-- ---- a definition more

found_below : (names : List (List ℕ)) (name : List ℕ) (o : Option ℕ) → number_in names name ≡ o → is_none o ≡ false
    → unwrap_or o 0 < length names
found_below names name None e h = cc
found_below names name (Some n) e h = number_below names name n e

module _ (library : List Stored) (words : Vocabulary) (whole : length words.relations ≡ length words.relation_names)
    (definitions : Definitions) (scope : List (List ℕ)) where
  abbrev IsThere : NumberedStep → Type 0
  IsThere = IsPassedBelow (length words.relations)

  step_passed : (step : Step) → is_relation_missing words step ≡ false
      → IsThere (step_numbered library words definitions scope step)
  step_passed (Step.Local name kind) h = tt
  step_passed (Step.Like name like) h = tt
  step_passed (Step.Use name cells (Passed.Said By.Nothing)) h = tt
  step_passed (Step.Use name cells (Passed.Said (By.Number None))) h = tt
  step_passed (Step.Use name cells (Passed.Said (By.Number (Some k)))) h = tt
  step_passed (Step.Use name cells (Passed.Said (By.Relation r))) h =
      let l = found_below words.relation_names r (number_in words.relation_names r) refl h in
      omega (arith, l, whole)
  step_passed (Step.Use name cells Passed.Own) h = tt

  steps_passed : (steps : List Step) → list_any (is_relation_missing words) steps ≡ false
      → All IsThere (map (step_numbered library words definitions scope) steps)
  steps_passed [] h = All-nil IsThere
  steps_passed (step ∷ steps) h =
      let both = or_parts (is_relation_missing words step) (list_any (is_relation_missing words) steps) h in
      All-cons IsThere (step_numbered library words definitions scope step)
      (map (step_numbered library words definitions scope) steps) (step_passed step both.0) (steps_passed steps both.1)

module _ (library : List Stored) (words : Vocabulary) (old new : Definitions) (name : List ℕ) (params : List (List ℕ))
    (steps : List Step) (numbered : AreNumbered words old) where
  abbrev made : Definitions
  made = with_definition library words old name params steps

  abbrev whole : length words.relations ≡ length words.relation_names
  whole = numbered.relations

  made_numbered : define_refusal library words old name params steps ≡ None → AreLocalsOf (IsSized words) made
      → AreNumbered words made
  made_numbered allowed locals =
      let d = definition_of library words old params steps in
      let one = length-append old.names (name ∷ []) in
      let two = length-append old.definitions (d ∷ []) in
      record {
        locals = locals;
        relations = whole;
        names = let same = numbered.names in omega (arith, one, two, same);
        passed = All-push (λ (d : Definition). All (IsPassedBelow (length words.relations)) d.steps) old.definitions d
            numbered.passed (steps_passed library words whole old (scope_of params steps) steps
            (allowed_rightly library words old name params steps allowed).1);
      }

  -- the definitions are numbered again
  pub defined_numbered : (r : Result ⊤ Refusal) → OnOk r (define_refusal library words old name params steps ≡ None)
      → OnOk r (new ≡ made) → OnErr r (new ≡ old) → AreLocalsOf (IsSized words) new → AreNumbered words new
  defined_numbered (Ok t) allowed is same locals =
      subst (AreNumbered words) (sym is) (made_numbered allowed (subst (AreLocalsOf (IsSized words)) is locals))
  defined_numbered (Err e) allowed is same locals = subst (AreNumbered words) (sym same) numbered

  -- they are what they were, with what the words say
  pub defined_compounds : (r : Result ⊤ Refusal) → OnOk r (define_refusal library words old name params steps ≡ None)
      → OnOk r (new ≡ made) → OnOk r (compounds_of words.relations new ≡ compounds_of words.relations old
      ++ compound_of library words (compounds_of words.relations old) name params steps ∷ [])
  defined_compounds (Ok t) allowed is = ap (compounds_of words.relations) is
      ∙ compounds_more library words whole old numbered.names name params steps allowed
  defined_compounds (Err e) allowed is = tt

  -- and are refused for what numbers are refused for
  pub defined_allowed : (r : Result ⊤ Refusal) → OnOk r (define_refusal library words old name params steps ≡ None)
      → OnOk r (compound_refused library words (compounds_of words.relations old) name params steps ≡ None)
  defined_allowed (Ok t) allowed = refusal_same library words whole old numbered.names name params steps ∙ allowed
  defined_allowed (Err e) allowed = tt

  pub defined_why : (r : Result ⊤ Refusal) → IfErr r (IsReason (define_refusal library words old name params steps))
      → IfErr r (λ e. (compound_refused library words (compounds_of words.relations old) name params steps ≡ Some e)
      ⊎ (e ≡ Memory))
  defined_why (Ok t) why = tt
  defined_why (Err e) (inl why) = inl (refusal_same library words whole old numbered.names name params steps ∙ why)
  defined_why (Err e) (inr m) = inr m
