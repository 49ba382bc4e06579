-- What there would be too much of after a command.
use Rattle.std.proofs.Common.{◌≡◌, ◌∙◌, ℕ, ◌+◌, ◌<◌, ◌≤◌, Bool, true, false, ◌&&◌, List, [], ◌∷◌, ◌++◌, length}
use Rattle.std.proofs.Common.{Option, Some, None, not, unwrap_or, inl, inr, ◌⊎◌, refl, sym, ap, arith}
use Rattle.std.specs.Prelude.{nat_le, nat_lt}
use Rattle.std.proofs.lemmas.Bool.{cases_lt, lt-ltb, le-ltb, le-leb, lt-leb}
use Rattle.std.proofs.lemmas.List.{length-append}
use Rattle.std.proofs.lemmas.Option.{slice_get_past}
use Rattle.prop_refusals.specs.declared.refusal.Limit.{Limit}
use Rattle.prop_refusals.specs.declared.refusal.Limit.TheVariants.{Cells, Instances, Premises, Choices, Statements}
use Rattle.prop_refusals.specs.declared.refusal.Limit.TheVariants.{Domains, Elements, Relations, Symbols}
use Rattle.prop_refusals.specs.declared.refusal.Limit.TheVariants.{Definitions as TooMany}
use Rattle.prop_refusals.specs.declared.refusal.Refusal.{Refusal}
use Rattle.prop_refusals.specs.declared.refusal.Refusal.TheVariants.{LimitReached}
use Rattle.prop_refusals.specs.Refusals.{first_of, most, when}
use Rattle.prop_premises.specs.Origins.{Origin, choices_of, with_belief_at}
use Rattle.prop_premises.proofs.ChoiceLemmas.{choices_of-with_belief_at}
use Rattle.prop_premises.proofs.NumberingLaws.{length-with_belief_at}
use Rattle.prop_tms.proofs.ValueLemmas.{filter_length}
use Rattle.prop_cells.specs.Forgetting.{not_under}
use Rattle.prop_cells.specs.inner.Forgetting.{is_under}
use Rattle.prop_cells.specs.declared.instance.Statement.{Statement}
use Rattle.prop_cells.specs.Instances.{Instance}
use Rattle.prop_procedures.specs.declared.shape.Kinded.{Kinded}
use Rattle.prop_sets.specs.Relation.{Relation}
use Rattle.prop_compound.specs.Compounds.{Compound}
use Rattle.prop_vocabulary.specs.Cells.{CellNames}
use Rattle.prop_vocabulary.specs.inner.Named.{domain_limit}
use Rattle.prop_vocabulary.specs.Vocabulary.{elements_at, with_domain}
use Rattle.prop_vocabulary.specs.inner.Between.{with_new_relation}
use Rattle.prop_scheduler.specs.Making.{room_refusal}
use Rattle.std.specs.Option.{option_or}
use Rattle.prop_workbench.specs.Machine.{State}
use Rattle.prop_workbench.specs.Refusing.{passed}
use Rattle.prop_workbench.specs.inner.Refusing.{grows}

-- ---- one limit

-- there are no more than before
pub none_grows : (limit : Limit) (n m : ℕ) → m ≤ n → grows limit n m ≡ None
none_grows limit n m l = ap (λ (b : Bool). when (LimitReached limit) (b && nat_lt (most limit) m)) (le-ltb n m l)

and_false : (b : Bool) → (b && false) ≡ false
and_false true = refl
and_false false = refl

-- there are no more than there can be
pub fit_grows : (limit : Limit) (n m : ℕ) → m ≤ most limit → grows limit n m ≡ None
fit_grows limit n m l =
    ap (λ (b : Bool). when (LimitReached limit) (nat_lt n m && b)) (le-ltb (most limit) m l)
    ∙ ap (when (LimitReached limit)) (and_false (nat_lt n m))

same_test : (k n m : ℕ) → m ≡ n + 1 → (nat_lt n m && nat_lt k m) ≡ nat_le k n
same_test k n m e = by (cases_lt n k)
  where
    more : nat_lt n m ≡ true
    more = lt-ltb n m (omega (arith, e))

    by : (n < k) ⊎ (k ≤ n) → (nat_lt n m && nat_lt k m) ≡ nat_le k n
    by (inl l) = (λ i. more i && le-ltb k m (omega (arith, e, l)) i) ∙ sym (lt-leb k n l)
    by (inr l) = (λ i. more i && lt-ltb k m (omega (arith, e, l)) i) ∙ sym (le-leb k n l)

-- there is one more
pub one_grows : (limit : Limit) (n m : ℕ) → m ≡ n + 1
    → grows limit n m ≡ when (LimitReached limit) (nat_le (most limit) n)
one_grows limit n m e = ap (when (LimitReached limit)) (same_test (most limit) n m e)

-- there were none
pub any_grows : (limit : Limit) (m : ℕ) → grows limit 0 m ≡ when (LimitReached limit) (nat_lt (most limit) m)
any_grows limit m = by (cases_lt (most limit) m)
  where
    by : (most limit < m) ⊎ (m ≤ most limit) → grows limit 0 m ≡ when (LimitReached limit) (nat_lt (most limit) m)
    by (inl l) = ap (λ (b : Bool). when (LimitReached limit) (b && nat_lt (most limit) m))
        (lt-ltb 0 m (omega (arith, l)))
    by (inr l) = fit_grows limit 0 m l ∙ sym (ap (when (LimitReached limit)) (le-ltb (most limit) m l))

-- there are so many more
pub more_grows : (limit : Limit) (n m k : ℕ) → m ≡ n + k → 0 < k
    → grows limit n m ≡ when (LimitReached limit) (nat_lt (most limit) (n + k))
more_grows limit n m k e l =
    λ i. when (LimitReached limit) (lt-ltb n m (omega (arith, e, l)) i && nat_lt (most limit) (e i))

-- there are so many more, or none, where there were no more than there can be
pub room_grows : (limit : Limit) (n m k : ℕ) → m ≡ n + k → n ≤ most limit
    → grows limit n m ≡ when (LimitReached limit) (nat_lt (most limit) (n + k))
room_grows limit n m k e few = by (cases_lt (most limit) m)
  where
    by : (most limit < m) ⊎ (m ≤ most limit)
        → grows limit n m ≡ when (LimitReached limit) (nat_lt (most limit) (n + k))
    by (inl l) = λ i. when (LimitReached limit) (lt-ltb n m (omega (arith, l, few)) i && nat_lt (most limit) (e i))
    by (inr h) = fit_grows limit n m h
        ∙ sym (ap (when (LimitReached limit)) (le-ltb (most limit) (n + k) (omega (arith, e, h))))

-- ---- all of them

same : (limit : Limit) (n : ℕ) → grows limit n n ≡ None
same limit n = none_grows limit n n (omega arith)

-- no domain is new
no_elements : (domains : List (List (List ℕ)))
    → grows Elements 0 (length (elements_at domains (length domains))) ≡ None
no_elements domains = ap (λ (o : Option (List (List ℕ))). grows Elements 0 (length (unwrap_or o [])))
    (slice_get_past domains (length domains) (omega arith))

no_rows : (rs : List (Option Refusal))
    → first_of (rs ++ None ∷ None ∷ None ∷ None ∷ None ∷ None ∷ None ∷ None ∷ None ∷ None ∷ []) ≡ first_of rs
no_rows [] = refl
no_rows (None ∷ rs) = no_rows rs
no_rows (Some refusal ∷ rs) = refl

-- premises, choices and statements are no more than before, and all else that is counted is as it was
pub no_more : (rs : List (Option Refusal)) (s : State) (premises : List Origin) (statements : List Statement)
    → length premises ≤ length s.premises → length (choices_of premises) ≤ length (choices_of s.premises)
    → length statements ≤ length s.statements →
    first_of (rs ++ passed s (record s { premises = premises; statements = statements })) ≡ first_of rs
no_more rs s premises statements few_premises few_choices few_statements =
    (λ i. first_of (rs ++ same Cells (length s.kinds) i
    ∷ same Instances (length s.instances) i
    ∷ none_grows Premises (length s.premises) (length premises) few_premises i
    ∷ none_grows Choices (length (choices_of s.premises)) (length (choices_of premises)) few_choices i
    ∷ none_grows Statements (length s.statements) (length statements) few_statements i
    ∷ same Domains (length s.words.domain_names) i
    ∷ no_elements s.words.domains i
    ∷ same Relations (length s.words.relation_names) i
    ∷ same TooMany (length s.definitions) i
    ∷ same Symbols (length s.words.symbols) i ∷ []))
    ∙ no_rows rs

-- nothing that is counted changes
pub as_many : (rs : List (Option Refusal)) (s : State) → first_of (rs ++ passed s s) ≡ first_of rs
as_many rs s = no_more rs s s.premises s.statements (omega arith) (omega arith) (omega arith)

-- nor where a premise is believed or not
pub as_believed : (rs : List (Option Refusal)) (s : State) (p : ℕ) (b : Bool)
    → first_of (rs ++ passed s (record s { premises = with_belief_at s.premises p b })) ≡ first_of rs
as_believed rs s p b =
    no_more rs s (with_belief_at s.premises p b) s.statements
    (omega (arith, length-with_belief_at s.premises p b))
    (omega (arith, ap length (choices_of-with_belief_at s.premises p b))) (omega arith)

-- nor where statements go
pub as_stated : (rs : List (Option Refusal)) (s : State) (p : ℕ) (named : List (List ℕ))
    → first_of (rs ++ passed s (record s { statements = not_under p s.statements; named = named })) ≡ first_of rs
as_stated rs s p named =
    no_more rs s s.premises (not_under p s.statements) (omega arith) (omega arith)
    (filter_length (λ (x : Statement). not (is_under p x.premise)) s.statements)

-- there may be more cells
pub more_cells : (s : State) (names : CellNames) (kinds : List Kinded)
    → first_of (passed s (record s { names = names; kinds = kinds })) ≡ grows Cells (length s.kinds) (length kinds)
more_cells s names kinds =
    (λ i. first_of (grows Cells (length s.kinds) (length kinds)
    ∷ same Instances (length s.instances) i
    ∷ same Premises (length s.premises) i
    ∷ same Choices (length (choices_of s.premises)) i
    ∷ same Statements (length s.statements) i
    ∷ same Domains (length s.words.domain_names) i
    ∷ no_elements s.words.domains i
    ∷ same Relations (length s.words.relation_names) i
    ∷ same TooMany (length s.definitions) i
    ∷ same Symbols (length s.words.symbols) i ∷ []))
    ∙ alone (grows Cells (length s.kinds) (length kinds))
  where
    alone : (a : Option Refusal)
        → first_of (a ∷ None ∷ None ∷ None ∷ None ∷ None ∷ None ∷ None ∷ None ∷ None ∷ []) ≡ a
    alone None = refl
    alone (Some refusal) = refl

-- there may be more cells and instances, where there were no more than there can be
pub more_used : (s : State) (kinds : List Kinded) (instances : List Instance) (fresh made : ℕ)
    → length s.kinds ≤ most Cells → length s.instances ≤ most Instances → length kinds ≡ length s.kinds + fresh →
    length instances ≡ length s.instances + made
    → first_of (passed s (record s { kinds = kinds; instances = instances })) ≡ room_refusal (length s.kinds + fresh)
    (length s.instances + made)
more_used s kinds instances fresh made few_cells few_instances cells_are instances_are =
    (λ i. first_of (room_grows Cells (length s.kinds) (length kinds) fresh cells_are few_cells i
    ∷ room_grows Instances (length s.instances) (length instances) made instances_are few_instances i
    ∷ same Premises (length s.premises) i
    ∷ same Choices (length (choices_of s.premises)) i
    ∷ same Statements (length s.statements) i
    ∷ same Domains (length s.words.domain_names) i
    ∷ no_elements s.words.domains i
    ∷ same Relations (length s.words.relation_names) i
    ∷ same TooMany (length s.definitions) i
    ∷ same Symbols (length s.words.symbols) i ∷ []))
    ∙ both (when (LimitReached Cells) (nat_lt (most Cells) (length s.kinds + fresh)))
    (when (LimitReached Instances) (nat_lt (most Instances) (length s.instances + made)))
  where
    both : (a b : Option Refusal)
        → first_of (a ∷ b ∷ None ∷ None ∷ None ∷ None ∷ None ∷ None ∷ None ∷ None ∷ []) ≡ option_or a b
    both None None = refl
    both None (Some refusal) = refl
    both (Some refusal) b = refl

-- there may be more definitions
pub more_definitions : (s : State) (definitions : List Compound)
    → first_of (passed s (record s { definitions = definitions }))
    ≡ grows TooMany (length s.definitions) (length definitions)
more_definitions s definitions =
    (λ i. first_of (same Cells (length s.kinds) i
    ∷ same Instances (length s.instances) i
    ∷ same Premises (length s.premises) i
    ∷ same Choices (length (choices_of s.premises)) i
    ∷ same Statements (length s.statements) i
    ∷ same Domains (length s.words.domain_names) i
    ∷ no_elements s.words.domains i
    ∷ same Relations (length s.words.relation_names) i
    ∷ grows TooMany (length s.definitions) (length definitions)
    ∷ same Symbols (length s.words.symbols) i ∷ []))
    ∙ alone (grows TooMany (length s.definitions) (length definitions))
  where
    alone : (a : Option Refusal) → first_of (a ∷ None ∷ []) ≡ a
    alone None = refl
    alone (Some refusal) = refl

-- there is one domain more
pub more_domains : (s : State) (name : List ℕ) (elements : List (List ℕ))
    → first_of (passed s (record s { words = with_domain s.words name elements }))
    ≡ domain_limit s.words elements
more_domains s name elements =
    (λ i. first_of (same Cells (length s.kinds) i
    ∷ same Instances (length s.instances) i
    ∷ same Premises (length s.premises) i
    ∷ same Choices (length (choices_of s.premises)) i
    ∷ same Statements (length s.statements) i
    ∷ one_grows Domains (length s.words.domain_names) _ (length-append s.words.domain_names (name ∷ [])) i
    ∷ last i
    ∷ same Relations (length s.words.relation_names) i
    ∷ same TooMany (length s.definitions) i
    ∷ same Symbols (length s.words.symbols) i ∷ []))
    ∙ both (when (LimitReached Domains) (nat_le (most Domains) (length s.words.domain_names)))
    (when (LimitReached Elements) (nat_lt (most Elements) (length elements)))
  where
    own : (domains : List (List (List ℕ))) → elements_at (domains ++ elements ∷ []) (length domains) ≡ elements
    own [] = refl
    own (d ∷ domains) = own domains

    last : grows Elements 0 (length (elements_at (s.words.domains ++ elements ∷ []) (length s.words.domains))) ≡ when
        (LimitReached Elements) (nat_lt (most Elements) (length elements))
    last = ap (λ (l : List (List ℕ)). grows Elements 0 (length l)) (own s.words.domains)
        ∙ any_grows Elements (length elements)

    both : (a b : Option Refusal) → first_of (a ∷ b ∷ None ∷ None ∷ None ∷ []) ≡ first_of (a ∷ b ∷ [])
    both None None = refl
    both None (Some refusal) = refl
    both (Some refusal) b = refl

-- there is one relation more
pub more_relations : (s : State) (name : List ℕ) (m : Relation)
    → first_of (passed s (record s { words = with_new_relation s.words name m })) ≡ when (LimitReached Relations)
    (nat_le (most Relations) (length s.words.relation_names))
more_relations s name m =
    (λ i. first_of (same Cells (length s.kinds) i
    ∷ same Instances (length s.instances) i
    ∷ same Premises (length s.premises) i
    ∷ same Choices (length (choices_of s.premises)) i
    ∷ same Statements (length s.statements) i
    ∷ same Domains (length s.words.domain_names) i
    ∷ no_elements s.words.domains i
    ∷ one_grows Relations (length s.words.relation_names) _ (length-append s.words.relation_names (name ∷ [])) i
    ∷ same TooMany (length s.definitions) i
    ∷ same Symbols (length s.words.symbols) i ∷ []))
    ∙ alone (when (LimitReached Relations) (nat_le (most Relations) (length s.words.relation_names)))
  where
    alone : (a : Option Refusal) → first_of (a ∷ None ∷ None ∷ []) ≡ a
    alone None = refl
    alone (Some refusal) = refl

-- there may be more premises, choices, statements and symbols
pub more_said : (s : State) (symbols : List (List ℕ)) (premises : List Origin) (statements : List Statement)
    → first_of (passed s (record s {
      words = record s.words { symbols = symbols };
      premises = premises;
      statements = statements;
    })) ≡ first_of (grows Premises (length s.premises) (length premises)
    ∷ grows Choices (length (choices_of s.premises)) (length (choices_of premises))
    ∷ grows Statements (length s.statements) (length statements)
    ∷ grows Symbols (length s.words.symbols) (length symbols) ∷ [])
more_said s symbols premises statements =
    (λ i. first_of (same Cells (length s.kinds) i
    ∷ same Instances (length s.instances) i
    ∷ grows Premises (length s.premises) (length premises)
    ∷ grows Choices (length (choices_of s.premises)) (length (choices_of premises))
    ∷ grows Statements (length s.statements) (length statements)
    ∷ same Domains (length s.words.domain_names) i
    ∷ no_elements s.words.domains i
    ∷ same Relations (length s.words.relation_names) i
    ∷ same TooMany (length s.definitions) i
    ∷ grows Symbols (length s.words.symbols) (length symbols) ∷ []))
    ∙ four (grows Premises (length s.premises) (length premises))
    (grows Choices (length (choices_of s.premises)) (length (choices_of premises)))
    (grows Statements (length s.statements) (length statements))
    (grows Symbols (length s.words.symbols) (length symbols))
  where
    four : (a b c d : Option Refusal)
        → first_of (a ∷ b ∷ c ∷ None ∷ None ∷ None ∷ None ∷ d ∷ []) ≡ first_of (a ∷ b ∷ c ∷ d ∷ [])
    four (Some refusal) b c d = refl
    four None (Some refusal) c d = refl
    four None None (Some refusal) d = refl
    four None None None d = refl
