-- What values say at a cell, the symbols that they name being numbered, and what is stated so.
use Rattle.std.proofs.Common.{◌≡◌, ◌∙◌, ℕ, suc, ◌+◌, ◌<◌, ◌≤◌, Bool, true, false, cond, List, [], ◌∷◌, ◌++◌}
use Rattle.std.proofs.Common.{length, map, zip, fold, Option, Some, None, Result, Ok, Err, is_some, is_none, unwrap_or}
use Rattle.std.proofs.Common.{if◌then◌else◌, bytes_eq, inl, inr, ◌⊎◌, ◌&&◌, refl, sym, ap, arith}
use Rattle.std.specs.Prelude.{nat_le, nat_lt}
use Rattle.std.specs.List.{flat_map, range_with_len}
use Rattle.std.specs.Option.{option_or, option_map, option_map_or}
use Rattle.std.specs.Result.{result_err, result_unwrap_or}
use Rattle.std.proofs.lemmas.Bool.{cases_lt, lt-ltb, le-leb, lt-leb}
use Rattle.std.proofs.lemmas.List.{length-append}
use Rattle.std.proofs.lemmas.List.Sums.{fold-append}
use Rattle.std.proofs.lemmas.Slice.Eq.{bytes_eq-Decides}
use Rattle.prop_lattice.specs.declared.info.Info.{Info}
use Rattle.prop_lattice.specs.declared.info.Info.TheVariants.{Nothing, Sym}
use Rattle.prop_lattice.specs.declared.info.Kind.{Kind}
use Rattle.prop_lattice.specs.declared.info.Kind.TheVariants as kinds
use Rattle.prop_refusals.specs.declared.refusal.Limit.{Limit}
use Rattle.prop_refusals.specs.declared.refusal.Limit.TheVariants.{Premises, Choices, Statements, Symbols}
use Rattle.prop_refusals.specs.declared.refusal.Refusal.{Refusal}
use Rattle.prop_refusals.specs.declared.refusal.Refusal.TheVariants.{LimitReached, NotAName, NoSuchCell}
use Rattle.prop_refusals.specs.Refusals.{first_of, most, when}
use Rattle.prop_premises.specs.Origins.{Origin, User, premise_number, with_name, with_choice, choices_of}
use Rattle.prop_premises.proofs.ChoiceLemmas.{choices_of-with_choice, choices_of-user}
use Rattle.prop_premises.proofs.ChangeLemmas.{length-with_choice}
use Rattle.prop_procedures.specs.Fitting.{kind_at}
use Rattle.prop_procedures.specs.Stored.{Stored}
use Rattle.prop_cells.specs.declared.instance.Statement.{Statement}
use Rattle.prop_language.specs.Commands.{Value, Bare, Braces}
use Rattle.prop_language.specs.Names.{is_name}
use Rattle.prop_vocabulary.specs.Cells.{cell_named}
use Rattle.prop_vocabulary.specs.Names.{number_in}
use Rattle.prop_vocabulary.specs.Values.{Meant, Known, Name, known, halves, span_value, set_value}
use Rattle.prop_vocabulary.specs.Vocabulary.{Vocabulary, elements_at, symbol_number, with_symbol}
use Rattle.prop_vocabulary.proofs.Places.{placed_before, placed_last}
use Rattle.prop_workbench.specs.Machine.{State}
use Rattle.prop_workbench.specs.Effects.{said, symbols_in, number_given, with_said, effect}
use Rattle.prop_workbench.specs.Refusing.{passed, refused_at}
use Rattle.prop_workbench.specs.inner.Refusing.{grows}
use Rattle.prop_workbench.specs.inner.Refusing.{meaning_at, with_meant, naming_limit, all_naming_limit, stating_limit}
use Rattle.prop_workbench.specs.inner.Refusing.{statement_limit, choosing_limit_of}
use Rattle.prop_workbench.specs.inner.Effects.{info_meant, with_meants, sides_stated, stated, chosen, stating}
use Rattle.prop_workbench.proofs.LimitLemmas.{none_grows, fit_grows, one_grows, more_grows, more_said}

-- ---- symbols

-- a symbol more changes the symbols alone
pub one_symbol : (words : Vocabulary) (name : List ℕ)
    → with_symbol words name ≡ record words { symbols = (with_symbol words name).symbols }
one_symbol words name = by (is_some (number_in words.symbols name))
  where
    by : (t : Bool) → (if t then words else record words { symbols = words.symbols ++ name ∷ [] }) ≡ record words {
      symbols = (if t then words else record words { symbols = words.symbols ++ name ∷ [] }).symbols;
    }
    by true = refl
    by false = refl

pub one_meant : (words : Vocabulary) (meant : Meant)
    → with_meant words meant ≡ record words { symbols = (with_meant words meant).symbols }
one_meant words (Known info) = refl
one_meant words (Name name) = one_symbol words name

pub only_symbols : (words : Vocabulary) (meants : List Meant)
    → with_meants words meants ≡ record words { symbols = (with_meants words meants).symbols }
only_symbols words [] = refl
only_symbols words (meant ∷ meants) =
    only_symbols (with_meant words meant) meants
    ∙ (λ i. record (one_meant words meant i) { symbols = (with_meants (with_meant words meant) meants).symbols })

-- a symbol that is there keeps its number
stays_known : (words : Vocabulary) (other name : List ℕ) (n : ℕ) → number_in words.symbols name ≡ Some n
    → number_in (with_symbol words other).symbols name ≡ Some n
stays_known words other name n e = by (is_some (number_in words.symbols other))
  where
    by : (t : Bool)
        → number_in (if t then words else record words { symbols = words.symbols ++ other ∷ [] }).symbols name ≡ Some n
    by true = e
    by false = placed_before (bytes_eq name) words.symbols (other ∷ []) n e

stays_meant : (words : Vocabulary) (meants : List Meant) (name : List ℕ) (n : ℕ) → number_in words.symbols name ≡ Some n
    → number_in (with_meants words meants).symbols name ≡ Some n
stays_meant words [] name n e = e
stays_meant words (Known info ∷ meants) name n e = stays_meant words meants name n e
stays_meant words (Name other ∷ meants) name n e =
    stays_meant (with_symbol words other) meants name n (stays_known words other name n e)

-- and one that is told is there
is_known : (words : Vocabulary) (name : List ℕ)
    → number_in (with_symbol words name).symbols name ≡ Some (symbol_number words name)
is_known words name = by (number_in words.symbols name) refl
  where
    by : (o : Option ℕ) → number_in words.symbols name ≡ o →
        number_in (if is_some o then words else record words { symbols = words.symbols ++ name ∷ [] }).symbols name
        ≡ Some (unwrap_or o (length words.symbols))
    by (Some n) e = e
    by None e =
        placed_last (bytes_eq name) words.symbols name e
        ∙ ap (λ (b : Bool). cond b (Some (length words.symbols)) None) ((bytes_eq-Decides name name).1 refl)

-- so what is meant says the same once more is named
pub info_stays : (words : Vocabulary) (meant : Meant) (more : List Meant)
    → info_meant (with_meants (with_meant words meant) more) meant ≡ info_meant words meant
info_stays words (Known info) more = refl
info_stays words (Name name) more =
    ap (λ (o : Option ℕ). Sym (unwrap_or o (length (with_meants (with_symbol words name) more).symbols)))
    (stays_meant (with_symbol words name) more name (symbol_number words name) (is_known words name))

-- ---- how many symbols there are

fewer_symbols : (words : Vocabulary) (name : List ℕ) → length words.symbols ≤ length (with_symbol words name).symbols
fewer_symbols words name = by (is_some (number_in words.symbols name))
  where
    by : (t : Bool) → length words.symbols ≤ length
        (if t then words else record words { symbols = words.symbols ++ name ∷ [] }).symbols
    by true = omega arith
    by false = omega (arith, length-append words.symbols (name ∷ []))

fewer_meant : (words : Vocabulary) (meants : List Meant)
    → length words.symbols ≤ length (with_meants words meants).symbols
fewer_meant words [] = omega arith
fewer_meant words (Known info ∷ meants) = fewer_meant words meants
fewer_meant words (Name name ∷ meants) =
    let one = fewer_symbols words name in
    let more = fewer_meant (with_symbol words name) meants in
    omega (arith, one, more)

-- one more, and then maybe others
joined : (limit : Limit) (n k m : ℕ) → k ≡ n + 1 → k ≤ m
    → option_or (when (LimitReached limit) (nat_le (most limit) n)) (grows limit k m) ≡ grows limit n m
joined limit n k m e l = by (cases_lt n (most limit)) (cases_lt (most limit) m)
  where
    full : most limit ≤ n → grows limit n m ≡ Some (LimitReached limit)
    full h = λ i. when (LimitReached limit) (lt-ltb n m (omega (arith, e, l)) i && lt-ltb (most limit) m
        (omega (arith, e, l, h)) i)

    test : (b : Bool) → nat_le (most limit) n ≡ b
        → option_or (when (LimitReached limit) (nat_le (most limit) n)) (grows limit k m)
        ≡ option_or (when (LimitReached limit) b) (grows limit k m)
    test b h = ap (λ (t : Bool). option_or (when (LimitReached limit) t) (grows limit k m)) h

    by : (n < most limit) ⊎ (most limit ≤ n) → (most limit < m) ⊎ (m ≤ most limit)
        → option_or (when (LimitReached limit) (nat_le (most limit) n)) (grows limit k m) ≡ grows limit n m
    by (inr h) r = test true (le-leb (most limit) n h) ∙ sym (full h)
    by (inl h) (inl r) =
        test false (lt-leb (most limit) n h)
        ∙ (λ i. when (LimitReached limit) (lt-ltb k m (omega (arith, e, l, h, r)) i && nat_lt (most limit) m))
        ∙ sym (λ i. when (LimitReached limit) (lt-ltb n m (omega (arith, e, l)) i && nat_lt (most limit) m))
    by (inl h) (inr r) =
        test false (lt-leb (most limit) n h) ∙ fit_grows limit k m r ∙ sym (fit_grows limit n m r)

-- the limit of symbols is met where there are more of them then than there can be
pub naming_grows : (words : Vocabulary) (meants : List Meant)
    → all_naming_limit words meants ≡ grows Symbols (length words.symbols) (length (with_meants words meants).symbols)
naming_grows words [] = sym (none_grows Symbols (length words.symbols) (length words.symbols) (omega arith))
naming_grows words (Known info ∷ meants) = naming_grows words meants
naming_grows words (Name name ∷ meants) = by (number_in words.symbols name) (λ w. naming_grows w meants)
  where
    by : (o : Option ℕ) → ((w : Vocabulary) → all_naming_limit w meants
        ≡ grows Symbols (length w.symbols) (length (with_meants w meants).symbols)) →
        option_or (when (LimitReached Symbols) (is_none o && nat_le (most Symbols) (length words.symbols)))
        (all_naming_limit (if is_some o then words else record words { symbols = words.symbols ++ name ∷ [] }) meants)
        ≡ grows Symbols (length words.symbols) (length (with_meants
        (if is_some o then words else record words { symbols = words.symbols ++ name ∷ [] }) meants).symbols)
    by (Some n) rest = rest words
    by None rest =
        let more : Vocabulary = record words { symbols = words.symbols ++ name ∷ [] } in
        ap (option_or (when (LimitReached Symbols) (nat_le (most Symbols) (length words.symbols)))) (rest more)
        ∙ joined Symbols (length words.symbols) (length more.symbols) (length (with_meants more meants).symbols)
        (length-append words.symbols (name ∷ [])) (fewer_meant more meants)

-- ---- what a value says

-- it says it, or is refused, as it means something or is refused
pub said_error : (words : Vocabulary) (kind : Kind) (value : Value)
    → result_err (said words kind value) ≡ result_err (meaning_at words kind value)
said_error words kinds.Span (Bare word) = by (span_value (halves word))
  where
    by : (r : Result Info Refusal) → result_err r ≡ result_err (known r)
    by (Ok info) = refl
    by (Err e) = refl
said_error words kinds.Span (Braces names) = refl
said_error words (kinds.Set d) (Bare word) = by (set_value (elements_at words.domains d) (word ∷ []))
  where
    by : (r : Result Info Refusal) → result_err r ≡ result_err (known r)
    by (Ok info) = refl
    by (Err e) = refl
said_error words (kinds.Set d) (Braces names) = by (set_value (elements_at words.domains d) names)
  where
    by : (r : Result Info Refusal) → result_err r ≡ result_err (known r)
    by (Ok info) = refl
    by (Err e) = refl
said_error words kinds.Symbol (Bare word) = by (is_name word)
  where
    by : (t : Bool) → result_err (cond t (Ok (Sym (symbol_number words word))) (Err NotAName)) ≡ result_err
        (cond t (Ok (Name word)) (Err NotAName))
    by true = refl
    by false = refl
said_error words kinds.Symbol (Braces names) = refl

-- at the cell that the name is found for
pub refused_found : (s : State) (name : List ℕ) (value : Value) (cell : ℕ) → cell_named s.names name ≡ Some cell
    → refused_at s name value ≡ result_err (meaning_at s.words (kind_at s.kinds cell).kind value)
refused_found s name value cell found =
    (λ i. option_map_or (λ n. result_err (said s.words (kind_at s.kinds n).kind value)) (found i) (Some NoSuchCell))
    ∙ said_error s.words (kind_at s.kinds cell).kind value

known_said : (r : Result Info Refusal) (meant : Meant) (new : Vocabulary) → known r ≡ Ok meant
    → r ≡ Ok (info_meant new meant)
known_said (Ok info) meant new e = let same : Known info ≡ meant = cc in ap (λ m. Ok (info_meant new m)) same
known_said (Err refusal) meant new e = cc

symbol_said : (t : Bool) (word : List ℕ) (meant : Meant) (new : Vocabulary)
    → cond t (Ok (Name word)) (Err NotAName) ≡ Ok meant
    → cond t (Ok (Sym (symbol_number new word))) (Err NotAName) ≡ Ok (info_meant new meant)
symbol_said true word meant new e = let same : Name word ≡ meant = cc in ap (λ m. Ok (info_meant new m)) same
symbol_said false word meant new e = cc

-- what it means, in words with the same domains
pub said_meant : (words new : Vocabulary) (kind : Kind) (value : Value) (meant : Meant) → new.domains ≡ words.domains
    → meaning_at words kind value ≡ Ok meant → said new kind value ≡ Ok (info_meant new meant)
said_meant words new kinds.Span (Bare word) meant same e = known_said (span_value (halves word)) meant new e
said_meant words new kinds.Span (Braces names) meant same e = cc
said_meant words new (kinds.Set d) (Bare word) meant same e =
    ap (λ domains. set_value (elements_at domains d) (word ∷ [])) same
    ∙ known_said (set_value (elements_at words.domains d) (word ∷ [])) meant new e
said_meant words new (kinds.Set d) (Braces names) meant same e =
    ap (λ domains. set_value (elements_at domains d) names) same
    ∙ known_said (set_value (elements_at words.domains d) names) meant new e
said_meant words new kinds.Symbol (Bare word) meant same e = symbol_said (is_name word) word meant new e
said_meant words new kinds.Symbol (Braces names) meant same e = cc

known_names_none : (r : Result Info Refusal) (meant : Meant) (now : Vocabulary) → known r ≡ Ok meant
    → now ≡ with_meant now meant
known_names_none (Ok info) meant now e = let same : Known info ≡ meant = cc in ap (with_meant now) same
known_names_none (Err refusal) meant now e = cc

symbol_named : (t : Bool) (word : List ℕ) (meant : Meant) (now : Vocabulary)
    → cond t (Ok (Name word)) (Err NotAName) ≡ Ok meant → with_symbol now word ≡ with_meant now meant
symbol_named true word meant now e = let same : Name word ≡ meant = cc in ap (with_meant now) same
symbol_named false word meant now e = cc

-- the symbols that it names are those that it means
pub symbols_meant : (words now : Vocabulary) (kind : Kind) (value : Value) (meant : Meant)
    → meaning_at words kind value ≡ Ok meant → fold with_symbol now (symbols_in kind value) ≡ with_meant now meant
symbols_meant words now kinds.Span (Bare word) meant e = known_names_none (span_value (halves word)) meant now e
symbols_meant words now kinds.Span (Braces names) meant e = cc
symbols_meant words now (kinds.Set d) (Bare word) meant e =
    known_names_none (set_value (elements_at words.domains d) (word ∷ [])) meant now e
symbols_meant words now (kinds.Set d) (Braces names) meant e =
    known_names_none (set_value (elements_at words.domains d) names) meant now e
symbols_meant words now kinds.Symbol (Bare word) meant e = symbol_named (is_name word) word meant now e
symbols_meant words now kinds.Symbol (Braces names) meant e = cc

-- ---- what values say

-- the values mean these, one by one
abbrev pub AreMeant : Vocabulary → Kind → List Value → List Meant → Type 0
AreMeant words kind [] [] = Unit {0}
AreMeant words kind (value ∷ values) (meant ∷ meants) = (meaning_at words kind value ≡ Ok meant)
    × AreMeant words kind values meants
AreMeant words kind values meants = ⊥

pub symbols_all : (words now : Vocabulary) (kind : Kind) (values : List Value) (meants : List Meant)
    → AreMeant words kind values meants
    → fold with_symbol now (flat_map (symbols_in kind) values) ≡ with_meants now meants
symbols_all words now kind [] [] are = refl
symbols_all words now kind (value ∷ values) (meant ∷ meants) (is, are) =
    fold-append with_symbol now (symbols_in kind value) (flat_map (symbols_in kind) values)
    ∙ ap (λ w. fold with_symbol w (flat_map (symbols_in kind) values)) (symbols_meant words now kind value meant is)
    ∙ symbols_all words (with_meant now meant) kind values meants are
symbols_all words now kind [] (meant ∷ meants) are = absurd are
symbols_all words now kind (value ∷ values) [] are = absurd are

pub meants_many : (words : Vocabulary) (kind : Kind) (values : List Value) (meants : List Meant)
    → AreMeant words kind values meants → length values ≡ length meants
meants_many words kind [] [] are = refl
meants_many words kind (value ∷ values) (meant ∷ meants) are = ap suc (meants_many words kind values meants are.1)
meants_many words kind [] (meant ∷ meants) are = absurd are
meants_many words kind (value ∷ values) [] are = absurd are

-- the statement of a value
abbrev statement_of : Vocabulary → Kind → ℕ → Option ℕ × Value → Statement
statement_of words kind cell x =
    record { premise = x.0; cell = cell; info = result_unwrap_or (said words kind x.1) Nothing }

one_stated : (words end : Vocabulary) (kind : Kind) (cell : ℕ) (premise : Option ℕ) (value : Value) (meant : Meant)
    → end.domains ≡ words.domains → meaning_at words kind value ≡ Ok meant →
    statement_of end kind cell (premise, value) ≡ record { premise = premise; cell = cell; info = info_meant end meant }
one_stated words end kind cell premise value meant same e =
    λ i. record {
      premise = premise;
      cell = cell;
      info = result_unwrap_or (said_meant words end kind value meant same e i) Nothing;
    }

-- the statements of values under sides in a row
sides_said : (words now end : Vocabulary) (kind : Kind) (cell first : ℕ) (values : List Value) (meants : List Meant)
    → AreMeant words kind values meants → end ≡ with_meants now meants → end.domains ≡ words.domains →
    map (statement_of end kind cell) (zip (map Some (range_with_len first (length values))) values) ≡ sides_stated now
    first cell meants
sides_said words now end kind cell first [] [] are is same = refl
sides_said words now end kind cell first (value ∷ values) (meant ∷ meants) (one, are) is same =
    let info : info_meant end meant ≡ info_meant now meant = ap (λ w. info_meant w meant) is
    ∙ info_stays now meant meants in
    let next : first + 1 ≡ suc first = omega arith in
    let head : statement_of end kind cell (Some first, value) ≡ record {
      premise = Some first;
      cell = cell;
      info = info_meant now meant;
    } = one_stated words end kind cell (Some first) value meant same one
    ∙ (λ i. record { premise = Some first; cell = cell; info = info i }) in
    let rest = sides_said words (with_meant now meant) end kind cell (first + 1) values meants are is same in
    (λ i. head i ∷ rest i)
    ∙ (λ i. record { premise = Some first; cell = cell; info = info_meant now meant } ∷ sides_stated
    (with_meant now meant) (next i) cell meants)
sides_said words now end kind cell first [] (meant ∷ meants) are is same = absurd are
sides_said words now end kind cell first (value ∷ values) [] are is same = absurd are

-- ---- the states after

-- with the number of the cell
abbrev said_by : State → List Origin → List (Option ℕ) → ℕ → List Value → State
said_by s premises under cell values =
    let kind = (kind_at s.kinds cell).kind in
    let words = fold with_symbol s.words (flat_map (symbols_in kind) values) in
    record s {
      words = words;
      premises = premises;
      statements = s.statements ++ map (statement_of words kind cell) (zip under values);
    }

one_said : (s : State) (premises : List Origin) (under : Option ℕ) (cell : ℕ) (value : Value) (meant : Meant)
    → meaning_at s.words (kind_at s.kinds cell).kind value ≡ Ok meant →
    said_by s premises (under ∷ []) cell (value ∷ []) ≡ record s {
      words = with_meant s.words meant;
      premises = premises;
      statements = s.statements ++ record { premise = under; cell = cell; info = info_meant s.words meant } ∷ [];
    }
one_said s premises under cell value meant e =
    let kind = (kind_at s.kinds cell).kind in
    let words : fold with_symbol s.words (flat_map (symbols_in kind) (value ∷ [])) ≡ with_meant s.words meant =
    symbols_all s.words s.words kind (value ∷ []) (meant ∷ []) (e, tt) in
    let domains : (with_meant s.words meant).domains ≡ s.words.domains =
    ap (λ (w : Vocabulary). w.domains) (one_meant s.words meant) in
    (λ i. record s {
      words = words i;
      premises = premises;
      statements = s.statements ++ statement_of (words i) kind cell (under, value) ∷ [];
    })
    ∙ (λ i. record s {
      words = with_meant s.words meant;
      premises = premises;
      statements = s.statements ++ (one_stated s.words (with_meant s.words meant) kind cell under value meant domains e
          ∙ (λ j. record { premise = under; cell = cell; info = info_stays s.words meant [] j })) i ∷ [];
    })

-- a value is stated as it is meant
pub said_state : (library : List Stored) (s : State) (premise : Option (List ℕ)) (name : List ℕ) (value : Value)
    (cell : ℕ) (meant : Meant) → cell_named s.names name ≡ Some cell
    → meaning_at s.words (kind_at s.kinds cell).kind value ≡ Ok meant →
    effect library s (stating premise name value) ≡ stated s premise cell (with_meant s.words meant)
    (info_meant s.words meant)
said_state library s None name value cell meant found e =
    (λ i. said_by s s.premises (None ∷ []) (unwrap_or (found i) 0) (value ∷ []))
    ∙ one_said s s.premises None cell value meant e
said_state library s (Some premise) name value cell meant found e =
    (λ i. said_by s (with_name s.premises premise) (Some (number_given s.premises premise) ∷ [])
    (unwrap_or (found i) 0) (value ∷ []))
    ∙ one_said s (with_name s.premises premise) (Some (number_given s.premises premise)) cell value meant e

-- and so are the values of a choice
pub chosen_said : (library : List Stored) (s : State) (choice name : List ℕ) (values : List Value) (cell : ℕ)
    (meants : List Meant) → cell_named s.names name ≡ Some cell
    → AreMeant s.words (kind_at s.kinds cell).kind values meants →
    with_said s (with_choice s.premises choice (length values))
    (map Some (range_with_len (length s.premises) (length values))) name values ≡ chosen s choice cell meants
chosen_said library s choice name values cell meants found are =
    let kind = (kind_at s.kinds cell).kind in
    let under = map Some (range_with_len (length s.premises) (length values)) in
    let words = symbols_all s.words s.words kind values meants are in
    let domains : (with_meants s.words meants).domains ≡ s.words.domains =
    ap (λ (w : Vocabulary). w.domains) (only_symbols s.words meants) in
    (λ i. said_by s (with_choice s.premises choice (length values)) under (unwrap_or (found i) 0) values)
    ∙ (λ i. record s {
      words = words i;
      premises = with_choice s.premises choice (meants_many s.words kind values meants are i);
      statements = s.statements ++ map (statement_of (words i) kind cell) (zip under values);
    })
    ∙ (λ i. record s {
      words = with_meants s.words meants;
      premises = with_choice s.premises choice (length meants);
      statements = s.statements ++ sides_said s.words s.words (with_meants s.words meants) kind cell (length s.premises)
          values meants are refl domains i;
    })

-- ---- the limits

-- a new name is one premise more, and no choice
name_grows : (premises : List Origin) (name : List ℕ)
    → grows Premises (length premises) (length (with_name premises name)) ≡ when (LimitReached Premises)
    (is_none (premise_number premises name) && nat_le (most Premises) (length premises))
name_grows premises name = by (premise_number premises name)
  where
    by : (o : Option ℕ)
        → grows Premises (length premises) (length (cond (is_some o) premises (premises ++ User name true ∷ []))) ≡ when
        (LimitReached Premises) (is_none o && nat_le (most Premises) (length premises))
    by (Some n) = none_grows Premises (length premises) (length premises) (omega arith)
    by None = one_grows Premises (length premises) _ (length-append premises (User name true ∷ []))

name_chooses : (premises : List Origin) (name : List ℕ) → choices_of (with_name premises name) ≡ choices_of premises
name_chooses premises name = by (premise_number premises name)
  where
    by : (o : Option ℕ)
        → choices_of (cond (is_some o) premises (premises ++ User name true ∷ [])) ≡ choices_of premises
    by (Some n) = refl
    by None = choices_of-user premises name true

-- the premises that a value is stated among
abbrev premises_said : State → Option (List ℕ) → List Origin
premises_said s premise = option_map_or (with_name s.premises) premise s.premises

stating_rows : (s : State) (premise : Option (List ℕ)) (limit : Option Refusal) →
    first_of (grows Premises (length s.premises) (length (premises_said s premise)) ∷ None ∷ when
    (LimitReached Statements) (nat_le (most Statements) (length s.statements)) ∷ limit ∷ []) ≡ first_of
    (statement_limit s premise ∷ limit ∷ [])
stating_rows s None limit =
    (λ i. first_of (none_grows Premises (length s.premises) (length s.premises) (omega arith) i ∷ None ∷ when
    (LimitReached Statements) (nat_le (most Statements) (length s.statements)) ∷ limit ∷ []))
stating_rows s (Some premise) limit =
    (λ i. first_of (name_grows s.premises premise i ∷ None ∷ when
    (LimitReached Statements) (nat_le (most Statements) (length s.statements)) ∷ limit ∷ []))
    ∙ by (when (LimitReached Premises) (is_none (premise_number s.premises premise) && nat_le (most Premises)
    (length s.premises))) (when (LimitReached Statements) (nat_le (most Statements) (length s.statements)))
  where
    by : (a b : Option Refusal) → first_of (a ∷ None ∷ b ∷ limit ∷ []) ≡ first_of (first_of (a ∷ b ∷ []) ∷ limit ∷ [])
    by (Some refusal) b = refl
    by None (Some refusal) = refl
    by None None = refl

only_one : (a : Option Refusal) → option_or a None ≡ a
only_one None = refl
only_one (Some refusal) = refl

-- what there would be too much of where a value is stated
pub said_limit : (s : State) (premise : Option (List ℕ)) (cell : ℕ) (meant : Meant)
    → first_of (passed s (stated s premise cell (with_meant s.words meant) (info_meant s.words meant)))
    ≡ stating_limit s premise meant
said_limit s premise cell meant =
    let statement : Statement = record {
      premise = option_map (number_given s.premises) premise;
      cell = cell;
      info = info_meant s.words meant;
    } in
    let statements = s.statements ++ statement ∷ [] in
    let symbols = (with_meant s.words meant).symbols in
    (λ i. first_of (passed s (record s {
      words = one_meant s.words meant i;
      premises = premises_said s premise;
      statements = statements;
    })))
    ∙ more_said s symbols (premises_said s premise) statements
    ∙ (λ i. first_of (grows Premises (length s.premises) (length (premises_said s premise))
    ∷ no_choice premise i
    ∷ one_grows Statements (length s.statements) (length statements) (length-append s.statements (statement ∷ [])) i
    ∷ (sym (naming_grows s.words (meant ∷ [])) ∙ only_one (naming_limit s.words meant)) i ∷ []))
    ∙ stating_rows s premise (naming_limit s.words meant)
  where
    no_choice : (premise : Option (List ℕ))
        → grows Choices (length (choices_of s.premises)) (length (choices_of (premises_said s premise))) ≡ None
    no_choice None = none_grows Choices (length (choices_of s.premises)) (length (choices_of s.premises)) (omega arith)
    no_choice (Some name) =
        (λ i. grows Choices (length (choices_of s.premises)) (length (name_chooses s.premises name i)))
        ∙ none_grows Choices (length (choices_of s.premises)) (length (choices_of s.premises)) (omega arith)

length-sides_stated : (words : Vocabulary) (side cell : ℕ) (meants : List Meant)
    → length (sides_stated words side cell meants) ≡ length meants
length-sides_stated words side cell [] = refl
length-sides_stated words side cell (meant ∷ meants) =
    ap suc (length-sides_stated (with_meant words meant) (suc side) cell meants)

-- and where a choice is made between values
pub chosen_limit : (s : State) (choice : List ℕ) (cell : ℕ) (meants : List Meant) → 0 < length meants
    → first_of (passed s (chosen s choice cell meants)) ≡ choosing_limit_of s meants
chosen_limit s choice cell meants some =
    let premises = with_choice s.premises choice (length meants) in
    let sides = sides_stated s.words (length s.premises) cell meants in
    let statements = s.statements ++ sides in
    let symbols = (with_meants s.words meants).symbols in
    let choices : length (choices_of premises) ≡ length (choices_of s.premises) + 1 =
    ap length (choices_of-with_choice s.premises choice (length meants) (omega (arith, some)))
    ∙ length-append (choices_of s.premises) _ in
    let counted : length statements ≡ length s.statements + length meants = length-append s.statements sides
    ∙ ap (λ n. length s.statements + n) (length-sides_stated s.words (length s.premises) cell meants) in
    (λ i. first_of (passed s (record s {
      words = only_symbols s.words meants i;
      premises = premises;
      statements = statements;
    })))
    ∙ more_said s symbols premises statements
    ∙ (λ i. first_of (more_grows Premises (length s.premises) (length premises) (length meants)
    (length-with_choice s.premises choice (length meants)) some i
    ∷ one_grows Choices (length (choices_of s.premises)) (length (choices_of premises)) choices i
    ∷ more_grows Statements (length s.statements) (length statements) (length meants) counted some i
    ∷ sym (naming_grows s.words meants) i ∷ []))
    ∙ by (when (LimitReached Premises) (nat_lt (most Premises) (length s.premises + length meants)))
    (when (LimitReached Choices) (nat_le (most Choices) (length (choices_of s.premises))))
    (when (LimitReached Statements) (nat_lt (most Statements) (length s.statements + length meants)))
    (all_naming_limit s.words meants)
  where
    by : (a b c d : Option Refusal) → first_of (a ∷ b ∷ c ∷ d ∷ []) ≡ first_of (first_of (a ∷ b ∷ c ∷ []) ∷ d ∷ [])
    by (Some refusal) b c d = refl
    by None (Some refusal) c d = refl
    by None None (Some refusal) d = refl
    by None None None d = refl
