-- A definition in words adds what the same by numbers adds, and both are refused for the same.
use Rattle.std.proofs.Common.{◌≡◌, ◌∙◌, ℕ, ◌<◌, List, [], ◌∷◌, ◌++◌, Bool, true, false, cond, not, ◌||◌, ◌&&◌, ◌==◌}
use Rattle.std.proofs.Common.{Option, Some, None, map, length, is_none, is_some, unwrap_or, nat_le, bytes_eq, refl}
use Rattle.std.proofs.Common.{sym, ap, arith}
use Rattle.std.specs.Prelude.{reverse, slice_get}
use Rattle.std.specs.List.{list_any, flat_map, range_with_len}
use Rattle.std.specs.Option.{option_map, option_map_or, option_and_then, option_or}
use Rattle.std.proofs.lemmas.Bool.{eq-eqb, or_parts}
use Rattle.std.proofs.Math.Bool.{or-false}
use Rattle.std.proofs.lemmas.List.{append_assoc, append-nil}
use Rattle.std.proofs.lemmas.Option.{unwrap_or-slice_get}
use Rattle.prop_refusals.specs.declared.refusal.Refusal.{Refusal}
use Rattle.prop_compound.proofs.Judging.{IsRightly}
use Rattle.prop_compound.proofs.ByNumber.{named_number, compound_used}
use Rattle.prop_refusals.specs.Refusals.{most, when, first_of}
use Rattle.prop_refusals.specs.declared.refusal.Limit.TheVariants.{Definitions as TooMany}
use Rattle.prop_refusals.specs.declared.refusal.Refusal.TheVariants.{NameTaken, NoSuchDomain, NoSuchRelation}
use Rattle.prop_refusals.specs.declared.refusal.Refusal.TheVariants.{NoSuchCell}
use Rattle.prop_refusals.specs.declared.refusal.Refusal.TheVariants.{NoSuchProcedure, WrongCount, LimitReached}
use Rattle.prop_sets.specs.Names.{has_repeat}
use Rattle.prop_sets.specs.Relation.{Relation}
use Rattle.std.proofs.Common.{zero, suc}
use Rattle.prop_procedures.specs.declared.shape.Kinded.{Kinded}
use Rattle.prop_procedures.specs.declared.shape.Param.{Param}
use Rattle.prop_procedures.specs.declared.shape.Param.TheVariants as params
use Rattle.prop_procedures.specs.Stored.{Stored, span_kind, procedure_number}
use Rattle.prop_procedures.specs.Fitting.{kind_at}
use Rattle.prop_vocabulary.specs.Names.{number_in, numbers_in, is_missing}
use Rattle.prop_vocabulary.specs.Cells.{CellNames, cell_named, cells_named}
use Rattle.prop_vocabulary.specs.Vocabulary.{Vocabulary}
use Rattle.prop_vocabulary.proofs.Lookups.{number_below, or_false}
use Rattle.prop_vocabulary.proofs.Places.{placed_before}
use Rattle.prop_language.specs.Commands.{By, Passed, Step}
use Rattle.prop_compound.specs.declared.definition.Passing.{Passing}
use Rattle.prop_compound.specs.declared.definition.Used.{Used}
use Rattle.prop_compound.specs.declared.definition.Used.TheVariants as uses
use Rattle.prop_compound.specs.declared.definition.NumberedStep.{NumberedStep}
use Rattle.prop_compound.specs.Definitions.{Definition, Definitions, is_taking, is_passing_on, used_named}
use Rattle.prop_compound.specs.Kinds.{kind_named}
use Rattle.prop_compound.specs.Defining.{passing_named, locals_of, scope_of, step_numbered, definition_of}
use Rattle.prop_compound.specs.Defining.{with_definition, is_domain_missing, is_relation_missing, is_cell_missing}
use Rattle.prop_compound.specs.Defining.{is_unknown, is_count_wrong, is_name_taken, define_refusal}
use Rattle.prop_compound.specs.Expansion.{Walk, start, cell_at, cells_at, with_fresh, use_expanded, steps_expanded}
use Rattle.prop_compound.specs.Expansion.{definition_expanded, spare_in, spare_of, spare_used, passes_something}
use Rattle.prop_compound.specs.Expansion.{stands_for}
use Rattle.prop_compound.specs.Expansion.{expanded}
use Rattle.prop_compound.specs.Compounds.{Compound, compound_named, use_added, compound_of}
use Rattle.prop_compound.specs.inner.Compounds.{passed_by, steps_added, hands_on, is_some_wrong, compound_refused}
use Rattle.prop_compound.specs.Numbered.{with_spare, added_in, compounds_of, passed_among}
use Rattle.prop_compound.proofs.ByNumber.{pass_is, steps_spare, definition_spare, numbered_at, behind_is, pushed_from}
use Rattle.prop_compound.proofs.ByNumber.{use_numbered, none_numbered, some_numbered, miscounted_numbered}
use Rattle.prop_compound.proofs.ByNumber.{count_numbered}

-- ---- cells by name

found_number : (names : List (List ℕ)) (name : List ℕ) (o : Option ℕ) → number_in names name ≡ o → is_none o ≡ false
    → (n : ℕ) × (number_in names name ≡ Some n)
found_number names name None e h = cc
found_number names name (Some n) e h = (n, e)

module _ (names more scope : List (List ℕ)) (all : scope ≡ names ++ more) (cells : List ℕ) where
  abbrev said : CellNames
  said = record { names = names; cells = cells }

  cell_same : (name : List ℕ) → is_none (number_in names name) ≡ false
      → unwrap_or (cell_named said name) 0 ≡ cell_at cells (unwrap_or (number_in scope name) 0)
  cell_same name there =
      let found = found_number names name (number_in names name) refl there in
      let n = found.0 in
      let later : number_in scope name ≡ Some n =
      ap (λ s. number_in s name) all ∙ placed_before (bytes_eq name) names more n found.1 in
      ap (λ o. unwrap_or (option_and_then (λ k. slice_get cells k) o) 0) found.1
      ∙ unwrap_or-slice_get cells n 0 ∙ ap (λ o. cell_at cells (unwrap_or o 0)) (sym later)

  cells_same : (words : List (List ℕ)) → is_missing names words ≡ false
      → cells_named said words ≡ cells_at cells (numbers_in scope words)
  cells_same [] there = refl
  cells_same (word ∷ words) there =
      let h = or_false (is_none (number_in names word)) (is_missing names words) there in
      λ i. cell_same word h.0 i ∷ cells_same words h.1 i

-- ---- what a step passes

module _ (words : Vocabulary) (whole : length words.relations ≡ length words.relation_names) where
  abbrev pass : Option Param → Passing → Option Param
  pass = passed_among words.relations

  -- where it is a relation, there is one
  abbrev IsPassedThere : Passed → Type 0
  IsPassedThere (Passed.Said (By.Relation name)) = is_none (number_in words.relation_names name) ≡ false
  IsPassedThere passed = Unit {0}

  given_same : (given : Option Param) (passed : Passed) → IsPassedThere passed
      → passed_by words given passed ≡ pass given (passing_named words passed)
  given_same given (Passed.Said By.Nothing) h = refl
  given_same given (Passed.Said (By.Number None)) h = refl
  given_same given (Passed.Said (By.Number (Some k))) h = refl
  given_same given (Passed.Said (By.Relation name)) h =
      let found = found_number words.relation_names name (number_in words.relation_names name) refl h in
      ap (λ o. option_map params.Rows (option_and_then (λ n. slice_get words.relations n) o)) found.1
      ∙ ap (λ o. option_map params.Rows (slice_get words.relations (unwrap_or o 0))) (sym found.1)
  given_same given Passed.Own h = refl

  something : (given : Option Param) (passed : Passed) → IsPassedThere passed
      → is_some (pass given (passing_named words passed))
      ≡ passes_something (is_some given) (passing_named words passed)
  something given (Passed.Said By.Nothing) h = refl
  something given (Passed.Said (By.Number None)) h = refl
  something given (Passed.Said (By.Number (Some k))) h = refl
  something given (Passed.Said (By.Relation name)) h =
      let found = found_number words.relation_names name (number_in words.relation_names name) refl h in
      let n = found.0 in
      let l = number_below words.relation_names name n found.1 in
      ap (λ o. is_some (option_map params.Rows (slice_get words.relations (unwrap_or o 0)))) found.1
      ∙ by (slice_get words.relations n) (there n (omega (arith, l, whole)))
    where
      there : (n : ℕ) → n < length words.relations → is_some (slice_get words.relations n) ≡ true
      there n l = below words.relations n l
        where
          below : {X : Type 0} (xs : List X) (n : ℕ) → n < length xs → is_some (slice_get xs n) ≡ true
          below [] n l = absurd (omega (arith, l))
          below (x ∷ xs) zero l = refl
          below (x ∷ xs) (suc n) l = below xs n (omega (arith, l))

      by : (o : Option Relation) → is_some o ≡ true → is_some (option_map params.Rows o) ≡ true
      by None e = cc
      by (Some x) e = refl
  something given Passed.Own h = refl

-- the step hands on what its definition is given, in words and by numbers
hands_same : (library : List Stored) (words : Vocabulary) (defs : Definitions) (scope : List (List ℕ))
    (steps : List Step)
    → list_any hands_on steps ≡ list_any is_passing_on (map (step_numbered library words defs scope) steps)
hands_same library words defs scope [] = refl
hands_same library words defs scope (Step.Local name kind ∷ steps) = hands_same library words defs scope steps
hands_same library words defs scope (Step.Like name like ∷ steps) = hands_same library words defs scope steps
hands_same library words defs scope (Step.Use name cells (Passed.Said By.Nothing) ∷ steps) =
    hands_same library words defs scope steps
hands_same library words defs scope (Step.Use name cells (Passed.Said (By.Number None)) ∷ steps) =
    hands_same library words defs scope steps
hands_same library words defs scope (Step.Use name cells (Passed.Said (By.Number (Some k))) ∷ steps) =
    hands_same library words defs scope steps
hands_same library words defs scope (Step.Use name cells (Passed.Said (By.Relation r)) ∷ steps) =
    hands_same library words defs scope steps
hands_same library words defs scope (Step.Use name cells Passed.Own ∷ steps) = refl

-- ---- a definition that is not refused

-- the first of some refusals, and of one more
first_in : (rs : List (Option Refusal)) (r : Option Refusal)
    → first_of (first_of rs ∷ r ∷ []) ≡ first_of (rs ++ r ∷ [])
first_in [] r = refl
first_in (None ∷ rs) r = first_in rs r
first_in (Some x ∷ rs) r = refl

when_none : (r : Refusal) (b : Bool) (rest : List (Option Refusal)) → first_of (when r b ∷ rest) ≡ None
    → (b ≡ false) × (first_of rest ≡ None)
when_none r true rest e = cc
when_none r false rest e = (refl, e)

module _ (library : List Stored) (words : Vocabulary) (defs : Definitions) (name : List ℕ) (params : List (List ℕ))
    (steps : List Step) (allowed : define_refusal library words defs name params steps ≡ None) where
  pub allowed_rightly : IsRightly library words defs params steps × (list_any (is_relation_missing words) steps ≡ false)
  allowed_rightly =
      let a = when_none NameTaken (is_name_taken library defs name params steps) _ allowed in
      let b = when_none NoSuchDomain (list_any (is_domain_missing words) steps) _ a.1 in
      let c = when_none NoSuchRelation (list_any (is_relation_missing words) steps) _ b.1 in
      let d = when_none NoSuchCell (is_cell_missing params steps) _ c.1 in
      let e = when_none NoSuchProcedure (list_any (is_unknown library defs) steps) _ d.1 in
      let f = when_none WrongCount (list_any (is_count_wrong library defs) steps) _ e.1 in
      (record { cells = d.0; procedures = e.0; counts = f.0 }, c.0)

-- ---- what steps add

or_assoc : (x y z : Bool) → ((x || y) || z) ≡ (x || (y || z))
or_assoc true y z = refl
or_assoc false y z = refl

module _ (library : List Stored) (words : Vocabulary) (whole : length words.relations ≡ length words.relation_names)
    (defs : Definitions) (same : length defs.names ≡ length defs.definitions) where
  abbrev cs : List Compound
  cs = compounds_of words.relations defs

  abbrev latest : List Definition
  latest = reverse defs.definitions

  abbrev among : Option Param → Passing → Option Param
  among = passed_among words.relations

  found_used : (o : Option Used) → is_none o ≡ false → (used : Used) × (o ≡ Some used)
  found_used None h = cc
  found_used (Some used) h = (used, refl)

  module _ (scope : List (List ℕ)) (given : Option Param) where
    abbrev number : Step → NumberedStep
    number = step_numbered library words defs scope

    abbrev is_spare_here : NumberedStep → Bool
    is_spare_here = spare_of (spare_in latest) (is_some given)

    -- the steps name cells that are there, what is used, and relations
    record AreFine (names : List (List ℕ)) (steps : List Step) : Type 0 where
      cells : is_cell_missing names steps ≡ false
      procedures : list_any (is_unknown library defs) steps ≡ false
      relations : list_any (is_relation_missing words) steps ≡ false

    passed_there : (name : List ℕ) (names : List (List ℕ)) (passed : Passed)
        → is_relation_missing words (Step.Use name names passed) ≡ false → IsPassedThere words whole passed
    passed_there name names (Passed.Said By.Nothing) h = tt
    passed_there name names (Passed.Said (By.Number k)) h = tt
    passed_there name names (Passed.Said (By.Relation r)) h = h
    passed_there name names Passed.Own h = tt

    steps_same : (steps : List Step) (names : List (List ℕ)) (cells : List ℕ)
        → scope ≡ names ++ flat_map locals_of steps
        → AreFine names steps → (e : Walk) →
        steps_added library words cs given (record { names = names; cells = cells }) steps e ≡ with_spare
        (steps_expanded among (definition_expanded among latest) given cells (map number steps) e)
        (list_any is_spare_here (map number steps))
    steps_same [] names cells all fine e = λ i. record e { spare = sym (or-false e.spare) i }
    steps_same (Step.Local name kind ∷ steps) names cells all fine e =
        steps_same steps (names ++ name ∷ []) (cells ++ length e.kinds ∷ [])
        (all ∙ sym (append_assoc names (name ∷ []) (flat_map locals_of steps)))
        (record { cells = fine.cells; procedures = fine.procedures; relations = fine.relations })
        (with_fresh e (unwrap_or (kind_named words kind) span_kind))
    steps_same (Step.Like name like ∷ steps) names cells all fine e =
        let missing = or_parts (is_missing names (like ∷ [])) (is_cell_missing (names ++ name ∷ []) steps) fine.cells in
        let here = or_parts (is_none (number_in names like)) false missing.0 in
        let cell = cell_same names (name ∷ flat_map locals_of steps) scope all cells like here.0 in
        ap (λ c. steps_added library words cs given
        (record { names = names ++ name ∷ []; cells = cells ++ length e.kinds ∷ [] }) steps
        (with_fresh e (kind_at e.kinds c))) cell
        ∙ steps_same steps (names ++ name ∷ []) (cells ++ length e.kinds ∷ [])
        (all ∙ sym (append_assoc names (name ∷ []) (flat_map locals_of steps)))
        (record { cells = missing.1; procedures = fine.procedures; relations = fine.relations })
        (with_fresh e (kind_at e.kinds (cell_at cells (unwrap_or (number_in scope like) 0))))
    steps_same (Step.Use name uses_cells passed ∷ steps) names cells all fine e =
        let step = Step.Use name uses_cells passed in
        let missing = or_parts (is_missing names uses_cells) (is_cell_missing (names ++ []) steps) fine.cells in
        let unknown = or_parts (is_none (used_named library defs name)) (list_any (is_unknown library defs) steps)
        fine.procedures in
        let relation = or_parts (is_relation_missing words step) (list_any (is_relation_missing words) steps)
        fine.relations in
        let there = passed_there name uses_cells passed relation.0 in
        let found = found_used (used_named library defs name) unknown.0 in
        let used = found.0 in
        let used_is : used ≡ unwrap_or (used_named library defs name) (uses.Procedure 0) =
        sym (ap (λ o. unwrap_or o (uses.Procedure 0)) found.1) in
        let on = cells_at cells (numbers_in scope uses_cells) in
        let own = among given (passing_named words passed) in
        let f = definition_expanded among latest in
        let expand = steps_expanded among f given cells (map number steps) in
        let rest = list_any is_spare_here (map number steps) in
        let x = use_expanded f used on own e in
        let spare = spare_used (spare_in latest) used (is_some own) in
        let add = steps_added library words cs given (record { names = names; cells = cells }) steps in
        let one : use_added library cs name (cells_named (record { names = names; cells = cells }) uses_cells)
        (passed_by words given passed) e ≡ with_spare x spare =
        (λ i. use_added library cs name
        (cells_same names (flat_map locals_of steps) scope all cells uses_cells missing.0 i)
        (given_same words whole given passed there i) e)
        ∙ use_numbered words.relations library defs same name used found.1 on own e in
        ap add one
        ∙ steps_same steps names cells all (record {
          cells = ap (λ ns. is_cell_missing ns steps) (sym (append-nil names)) ∙ missing.1;
          procedures = unknown.1;
          relations = relation.1;
        }) (with_spare x spare)
        ∙ ap (λ w. with_spare w rest)
        (steps_spare among f (definition_spare among latest) given cells (map number steps) x spare)
        ∙ (λ i. record (expand x) { spare = or_assoc (expand x).spare spare rest i })
        ∙ (λ i. with_spare (expand x)
        (spare_used (spare_in latest) used (something words whole given passed there i) || rest))
        ∙ (λ i. with_spare (steps_expanded among f given cells (map number steps) (use_expanded f (used_is i) on own e))
        (spare_used (spare_in latest) (used_is i) (passes_something (is_some given) (passing_named words passed))
        || rest))

  -- ---- a definition more

  module _ (name : List ℕ) (params : List (List ℕ)) (steps : List Step)
      (allowed : define_refusal library words defs name params steps ≡ None) where
    abbrev d : Definition
    d = definition_of library words defs params steps

    abbrev right : IsRightly library words defs params steps × (list_any (is_relation_missing words) steps ≡ false)
    right = allowed_rightly library words defs name params steps allowed

    all_fine : (given : Option Param) → AreFine (scope_of params steps) given params steps
    all_fine given = record { cells = right.0.cells; procedures = right.0.procedures; relations = right.1 }

    -- it adds what it adds by number
    added_same : (cells : List ℕ) (given : Option Param) (e : Walk)
        → (compound_of library words cs name params steps).adds cells given e
        ≡ added_in among (d ∷ latest) (length latest) cells given e
    added_same cells given e =
        let n = length latest in
        let it : (n == n) ≡ true = eq-eqb n n refl in
        let f = definition_expanded among latest in
        let rest = list_any (spare_of (spare_in latest) (is_some given)) d.steps in
        let own = is_some given && not (list_any hands_on steps) in
        let own' = is_some given && not (is_taking d) in
        let expand = steps_expanded among f given cells d.steps in
        steps_same (scope_of params steps) given steps params cells refl (all_fine given) (with_spare e own)
        ∙ ap (λ w. with_spare w rest) (steps_spare among f (definition_spare among latest) given cells d.steps e own)
        ∙ (λ i. record (expand e) { spare = or_assoc (expand e).spare own rest i })
        ∙ (λ i. with_spare (expand e) ((is_some given && not (hands_same library words defs
        (scope_of params steps) steps
        i)) || rest))
        ∙ sym (steps_spare among f (definition_spare among latest) given cells d.steps e (own' || rest))
        ∙ (λ i. cond (sym it i) (steps_expanded among f given cells d.steps (with_spare e
        (cond (sym it i) (own' || rest) (spare_in latest n (is_some given)))))
        (definition_expanded among latest n cells given (with_spare e
        (cond (sym it i) (own' || rest) (spare_in latest n (is_some given))))))

    pub compounds_more : compounds_of words.relations (with_definition library words defs name params steps)
        ≡ cs ++ compound_of library words cs name params steps ∷ []
    compounds_more =
        pushed_from among [] defs.names defs.definitions name d same
        ∙ (λ i. cs ++ numbered_at among (d ∷ behind_is defs.definitions [] i) name d.params
        (length (behind_is defs.definitions [] i)) ∷ [])
        ∙ (λ i. cs ++ record {
          name = name;
          wants = length params;
          adds = λ cells given e. sym (added_same cells given e) i;
        } ∷ [])

  -- ---- for what a definition is refused

  taken_by : (name : List ℕ) (more : Bool) (a b : Option ℕ)
      → (is_some (option_or (option_map uses.Procedure a) (option_map uses.Definition b)) || more)
      ≡ (is_some a || (is_some b || more))
  taken_by name more (Some n) b = refl
  taken_by name more None (Some n) = refl
  taken_by name more None None = refl

  domain_wrong : (names : List (List ℕ)) (steps : List Step)
      → is_some_wrong library words cs names steps NoSuchDomain ≡ list_any (is_domain_missing words) steps
  domain_wrong names [] = refl
  domain_wrong names (Step.Local name kind ∷ steps) =
      ap (λ b. is_none (kind_named words kind) || b) (domain_wrong (names ++ name ∷ []) steps)
  domain_wrong names (Step.Like name like ∷ steps) = domain_wrong (names ++ name ∷ []) steps
  domain_wrong names (Step.Use name cells passed ∷ steps) = domain_wrong (names ++ []) steps

  relation_wrong : (names : List (List ℕ)) (steps : List Step)
      → is_some_wrong library words cs names steps NoSuchRelation ≡ list_any (is_relation_missing words) steps
  relation_wrong names [] = refl
  relation_wrong names (Step.Local name kind ∷ steps) = relation_wrong (names ++ name ∷ []) steps
  relation_wrong names (Step.Like name like ∷ steps) = relation_wrong (names ++ name ∷ []) steps
  relation_wrong names (Step.Use name cells (Passed.Said By.Nothing) ∷ steps) = relation_wrong (names ++ []) steps
  relation_wrong names (Step.Use name cells (Passed.Said (By.Number k)) ∷ steps) = relation_wrong (names ++ []) steps
  relation_wrong names (Step.Use name cells (Passed.Said (By.Relation r)) ∷ steps) =
      ap (λ b. is_none (number_in words.relation_names r) || b) (relation_wrong (names ++ []) steps)
  relation_wrong names (Step.Use name cells Passed.Own ∷ steps) = relation_wrong (names ++ []) steps

  cell_wrong : (names : List (List ℕ)) (steps : List Step)
      → is_some_wrong library words cs names steps NoSuchCell ≡ is_cell_missing names steps
  cell_wrong names [] = refl
  cell_wrong names (Step.Local name kind ∷ steps) = cell_wrong (names ++ name ∷ []) steps
  cell_wrong names (Step.Like name like ∷ steps) =
      ap (λ b. is_missing names (like ∷ []) || b) (cell_wrong (names ++ name ∷ []) steps)
  cell_wrong names (Step.Use name cells passed ∷ steps) =
      ap (λ b. is_missing names cells || b) (cell_wrong (names ++ []) steps)

  procedure_wrong : (names : List (List ℕ)) (steps : List Step)
      → is_some_wrong library words cs names steps NoSuchProcedure ≡ list_any (is_unknown library defs) steps
  procedure_wrong names [] = refl
  procedure_wrong names (Step.Local name kind ∷ steps) = procedure_wrong (names ++ name ∷ []) steps
  procedure_wrong names (Step.Like name like ∷ steps) = procedure_wrong (names ++ name ∷ []) steps
  procedure_wrong names (Step.Use name cells passed ∷ steps) =
      λ i. none_numbered words.relations library defs same name i || procedure_wrong (names ++ []) steps i

  count_wrong : (names : List (List ℕ)) (steps : List Step)
      → is_some_wrong library words cs names steps WrongCount ≡ list_any (is_count_wrong library defs) steps
  count_wrong names [] = refl
  count_wrong names (Step.Local name kind ∷ steps) = count_wrong (names ++ name ∷ []) steps
  count_wrong names (Step.Like name like ∷ steps) = count_wrong (names ++ name ∷ []) steps
  count_wrong names (Step.Use name cells passed ∷ steps) =
      λ i. miscounted_numbered words.relations library defs same name (length cells) i
      || count_wrong (names ++ []) steps i

  -- it is refused for the same
  pub refusal_same : (name : List ℕ) (params : List (List ℕ)) (steps : List Step)
      → compound_refused library words cs name params steps ≡ define_refusal library words defs name params steps
  refusal_same name params steps =
      let again = has_repeat (scope_of params steps) in
      let taken : (is_some (compound_named library cs name) || again) ≡ is_name_taken library defs name params steps =
      ap (λ b. b || again) (some_numbered words.relations library defs same name)
      ∙ taken_by name again (procedure_number library name) (number_in defs.names name) in
      first_in (
      when NameTaken (is_some (compound_named library cs name) || again)
      ∷ map (λ reason. when reason (is_some_wrong library words cs params steps reason))
      (NoSuchDomain ∷ NoSuchRelation ∷ NoSuchCell ∷ NoSuchProcedure ∷ WrongCount ∷ [])
      ) (when (LimitReached TooMany) (nat_le (most TooMany) (length cs)))
      ∙ λ i. first_of (
      when NameTaken (taken i)
      ∷ when NoSuchDomain (domain_wrong params steps i)
      ∷ when NoSuchRelation (relation_wrong params steps i)
      ∷ when NoSuchCell (cell_wrong params steps i)
      ∷ when NoSuchProcedure (procedure_wrong params steps i)
      ∷ when WrongCount (count_wrong params steps i)
      ∷ when (LimitReached TooMany) (nat_le (most TooMany) (count_numbered words.relations library defs same i))
      ∷ []
      )

  -- ---- a whole use

  used_by : (kinds : List Kinded) (given : Option Param) (name : List ℕ) (o : Option Used)
      → used_named library defs name ≡ o
      → use_added library cs name (range_with_len 0 (length kinds)) given (start kinds false)
      ≡ option_map_or (λ used. stands_for words defs.definitions used kinds given) o (start kinds false)
  used_by kinds given name None e =
      ap (λ o. option_map_or (λ (c : Compound). c.adds (range_with_len 0 (length kinds)) given (start kinds false)) o
      (start kinds false)) (named_number words.relations library defs same name
      ∙ ap (option_map (compound_used words.relations library defs same)) e)
  used_by kinds given name (Some (uses.Procedure n)) e =
      ap (λ o. option_map_or (λ (c : Compound). c.adds (range_with_len 0 (length kinds)) given (start kinds false)) o
      (start kinds false)) (named_number words.relations library defs same name
      ∙ ap (option_map (compound_used words.relations library defs same)) e)
  used_by kinds given name (Some (uses.Definition n)) e =
      ap (λ o. option_map_or (λ (c : Compound). c.adds (range_with_len 0 (length kinds)) given (start kinds false)) o
      (start kinds false)) (named_number words.relations library defs same name
      ∙ ap (option_map (compound_used words.relations library defs same)) e)
      ∙ (λ i. definition_expanded (sym (pass_is words) i) latest n (range_with_len 0 (length kinds)) given
      (start kinds (spare_in latest n (is_some given))))

  -- a use adds the same, on cells counted from 0
  pub used_same : (kinds : List Kinded) (given : Option Param) (name : List ℕ)
      → use_added library cs name (range_with_len 0 (length kinds)) given (start kinds false)
      ≡ expanded library words defs name kinds given
  used_same kinds given name = used_by kinds given name (used_named library defs name) refl
