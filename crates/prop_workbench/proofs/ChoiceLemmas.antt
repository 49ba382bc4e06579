-- Why a choice between values is refused, and what is made where it isn't.
use Rattle.std.proofs.Common.{◌≡◌, ◌∙◌, ℕ, Bool, true, false, ◌||◌, List, [], ◌∷◌, ◌++◌, All, Option, Some, None}
use Rattle.std.proofs.Common.{Result, Ok, ◌+◌, ◌<◌, ◌≤◌, length, map, subst, take, slice_index_or}
use Rattle.std.specs.Bool.{then_some}
use Rattle.std.proofs.Common.{Err, is_some, ◌⊎◌, inl, inr, refl, sym, ap, arith}
use Rattle.std.specs.Prelude.{⊤, OnOk, OnErr, IfErr, ◌==◌}
use Rattle.std.specs.List.{list_any}
use Rattle.std.specs.Option.{option_map_or}
use Rattle.std.specs.Result.{result_err, result_unwrap_or}
use Rattle.std.proofs.lemmas.List.{length-map, map_more, map_push, take_all}
use Rattle.std.proofs.lemmas.Bool.{le-leb, lt-leb}
use Rattle.std.proofs.lemmas.List.Elements.{All-cons, All-head, All-tail}
use Rattle.std.proofs.lemmas.List.Folds.{list_any-append}
use Rattle.prop_lattice.specs.declared.info.Info.TheVariants.{Nothing}
use Rattle.prop_lattice.specs.declared.info.Kind.{Kind}
use Rattle.prop_refusals.specs.declared.refusal.Refusal.{Refusal}
use Rattle.prop_refusals.specs.declared.refusal.Refusal.TheVariants.{NotAName, NotANumber, NameTaken, NoSuchCell}
use Rattle.prop_refusals.specs.declared.refusal.Refusal.TheVariants.{WrongKind, NotInTheDomain, EmptyValue, Memory}
use Rattle.prop_refusals.specs.Refusals.{first_of, when, number_of}
use Rattle.prop_premises.specs.Origins.{premise_number, is_choice}
use Rattle.prop_procedures.specs.Stored.{Stored}
use Rattle.prop_procedures.specs.Fitting.{kind_at}
use Rattle.prop_language.specs.Commands as commands
use Rattle.prop_language.specs.Commands.{Value}
use Rattle.prop_language.specs.declared.command.Value as declared
use Rattle.prop_language.specs.Said.{value_of}
use Rattle.prop_vocabulary.specs.declared.values.Meant as told
use Rattle.prop_vocabulary.specs.Said.{meant_of}
use Rattle.prop_vocabulary.specs.Values.{Meant, Known}
use Rattle.prop_vocabulary.specs.Cells.{cell_named}
use Rattle.prop_vocabulary.specs.Texts.{elements_of_kind}
use Rattle.prop_vocabulary.specs.Vocabulary.{Vocabulary}
use Rattle.prop_engine.specs.Answers.{Done, answer_done}
use Rattle.prop_workbench.specs.inner.Choosing.{is_one_refused, values_refusal, meaning_of, Means, IsMeaning}
use Rattle.prop_workbench.specs.inner.Choosing.{meanings_of, earlier}
use Rattle.prop_workbench.specs.Effects.{effect, said}
use Rattle.prop_workbench.specs.Refusing.{refusal_of, refused_at, passed}
use Rattle.prop_workbench.specs.inner.Effects.{chosen}
use Rattle.prop_workbench.specs.inner.Refusing.{meaning_at, is_error, choosing_limit_of}
use Rattle.prop_workbench.proofs.SaidLemmas.{AreMeant, refused_found, chosen_said, chosen_limit}
use Rattle.prop_workbench.specs.Machine.{State}
use Rattle.prop_workbench.specs.inner.Steps.{Obeys}
use Rattle.prop_workbench.proofs.StepLemmas.{obeys, refuses_or_lacks}
use Rattle.prop_workbench.proofs.ValueLemmas.{IsValueRefusal, value_refusal}
use Rattle.prop_workbench.proofs.ValueLemmas.IsValueRefusal.{no_name, no_number, wrong_kind, outside as not_inside}
use Rattle.prop_workbench.proofs.ValueLemmas.IsValueRefusal.{empty as no_element}

-- the command
abbrev choose : List ℕ → List ℕ → List Value → commands.Command
choose name cell values = commands.Command.Choose name cell values

-- a premise or a choice has the name
abbrev pub is_taken_in : State → List ℕ → Bool
is_taken_in s name = is_some (premise_number s.premises name) || is_choice s.premises name

-- ---- the refusals in their order

-- the rows of the refusals that a choice can meet
abbrev choice_rows : Bool → Bool → Bool → Bool → Bool → Bool → Bool → List (Option Refusal) → Option Refusal
choice_rows name number taken missing wrong outside empty limits =
    first_of (when NotAName name ∷ when NotANumber number ∷ when NameTaken taken ∷ when NoSuchCell missing
    ∷ when WrongKind wrong ∷ when NotInTheDomain outside ∷ when EmptyValue empty ∷ limits)

abbrev value_rows : Bool → Bool → Bool → Bool → Bool → Bool → Option Refusal
value_rows name number taken wrong outside empty =
    first_of (when NotAName name ∷ when NotANumber number ∷ when NameTaken taken ∷ when WrongKind wrong ∷ when
    NotInTheDomain outside ∷ when EmptyValue empty ∷ [])

some_row : (name number taken wrong outside empty : Bool) (limits : List (Option Refusal)) (e : Refusal)
    → value_rows name number taken wrong outside empty ≡ Some e
    → choice_rows name number taken false wrong outside empty limits ≡ Some e
some_row true number taken wrong outside empty limits e h = h
some_row false true taken wrong outside empty limits e h = h
some_row false false true wrong outside empty limits e h = h
some_row false false false true outside empty limits e h = h
some_row false false false false true empty limits e h = h
some_row false false false false false true limits e h = h
some_row false false false false false false limits e h = cc

no_row : (name number taken wrong outside empty : Bool) (limits : List (Option Refusal))
    → value_rows name number taken wrong outside empty ≡ None
    → choice_rows name number taken false wrong outside empty limits ≡ first_of limits
no_row true number taken wrong outside empty limits h = cc
no_row false true taken wrong outside empty limits h = cc
no_row false false true wrong outside empty limits h = cc
no_row false false false true outside empty limits h = cc
no_row false false false false true empty limits h = cc
no_row false false false false false true limits h = cc
no_row false false false false false false limits h = refl

-- the value is refused so
abbrev is_told : State → List ℕ → Refusal → Value → Bool
is_told s name refusal value =
    option_map_or (λ why. number_of why == number_of refusal) (refused_at s name value) false

error_is : (refusal : Refusal) (r : Result Meant Refusal)
    → option_map_or (λ why. number_of why == number_of refusal) (result_err r) false ≡ is_error refusal r
error_is refusal (Ok meant) = refl
error_is refusal (Err e) = refl

-- a value is refused so at the cell of the name
one_refused : (s : State) (name : List ℕ) (refusal : Refusal) (values : List Value) (cell : ℕ) (kind : Kind)
    → cell_named s.names name ≡ Some cell → kind ≡ (kind_at s.kinds cell).kind →
    list_any (is_told s name refusal) values ≡ is_one_refused s.words kind refusal values
one_refused s name refusal [] cell kind found is_kind = refl
one_refused s name refusal (value ∷ values) cell kind found is_kind =
    let here : is_told s name refusal value ≡ is_error refusal (meaning_at s.words kind value) =
    ap (λ (o : Option Refusal). option_map_or (λ why. number_of why == number_of refusal) o false)
    (refused_found s name value cell found)
    ∙ error_is refusal (meaning_at s.words (kind_at s.kinds cell).kind value)
    ∙ ap (λ (k : Kind). is_error refusal (meaning_at s.words k value)) (sym is_kind) in
    let more = one_refused s name refusal values cell kind found is_kind in
    λ i. here i || more i

-- no value is refused for the cell
never_missing : (e : Refusal) → IsValueRefusal e → is_error NoSuchCell (Err e) ≡ false
never_missing e no_name = refl
never_missing e no_number = refl
never_missing e wrong_kind = refl
never_missing e not_inside = refl
never_missing e no_element = refl

none_missing : (words : Vocabulary) (kind : Kind) (values : List Value)
    → is_one_refused words kind NoSuchCell values ≡ false
none_missing words kind [] = refl
none_missing words kind (value ∷ values) =
    λ i. one (meaning_at words kind value) refl i || none_missing words kind values i
  where
    one : (r : Result Meant Refusal) → meaning_at words kind value ≡ r → is_error NoSuchCell r ≡ false
    one (Ok meant) e = refl
    one (Err x) e = never_missing x (value_refusal kind (elements_of_kind words kind) value x e)

-- the limits that a choice would pass
abbrev passed_by : List Stored → State → List ℕ → List ℕ → List Value → List (Option Refusal)
passed_by library s choice name values = passed s (effect library s (choose choice name values))

by_rows : (library : List Stored) (s : State) (choice name : List ℕ) (values : List Value) (cell : ℕ) (kind : Kind)
    → cell_named s.names name ≡ Some cell → kind ≡ (kind_at s.kinds cell).kind →
    refusal_of library s (choose choice name values) ≡ choice_rows (is_one_refused s.words kind NotAName values)
    (is_one_refused s.words kind NotANumber values) (is_taken_in s choice) false
    (is_one_refused s.words kind WrongKind values)
    (is_one_refused s.words kind NotInTheDomain values) (is_one_refused s.words kind EmptyValue values)
    (passed_by library s choice name values)
by_rows library s choice name values cell kind found is_kind =
    let one : (e : Refusal) → list_any (is_told s name e) values ≡ is_one_refused s.words kind e values =
    λ e. one_refused s name e values cell kind found is_kind in
    λ i. choice_rows (one NotAName i) (one NotANumber i) (is_taken_in s choice)
    ((one NoSuchCell ∙ none_missing s.words kind values) i) (one WrongKind i) (one NotInTheDomain i) (one EmptyValue i)
    (passed_by library s choice name values)

-- a value that is refused, or the name
choice_refused : (library : List Stored) (s : State) (choice name : List ℕ) (values : List Value) (cell : ℕ)
    (kind : Kind) (e : Refusal) → cell_named s.names name ≡ Some cell → kind ≡ (kind_at s.kinds cell).kind →
    values_refusal s.words kind (is_taken_in s choice) values ≡ Some e
    → refusal_of library s (choose choice name values) ≡ Some e
choice_refused library s choice name values cell kind e found is_kind h =
    by_rows library s choice name values cell kind found is_kind
    ∙ some_row (is_one_refused s.words kind NotAName values) (is_one_refused s.words kind NotANumber values)
    (is_taken_in s choice) (is_one_refused s.words kind WrongKind values)
    (is_one_refused s.words kind NotInTheDomain values)
    (is_one_refused s.words kind EmptyValue values) (passed_by library s choice name values) e h

pub choice_stops : (library : List Stored) (s : State) (choice name : List ℕ) (values : List Value) (cell : ℕ)
    (kind : Kind) (e : Refusal) → cell_named s.names name ≡ Some cell → kind ≡ (kind_at s.kinds cell).kind →
    (values_refusal s.words kind (is_taken_in s choice) values ≡ Some e) ⊎ (e ≡ Memory)
    → (refusal_of library s (choose choice name values) ≡ Some e) ⊎ (e ≡ Memory)
choice_stops library s choice name values cell kind e found is_kind (inl h) =
    inl (choice_refused library s choice name values cell kind e found is_kind h)
choice_stops library s choice name values cell kind e found is_kind (inr m) = inr m

-- ---- no cell has the name

missing_so : (s : State) (name : List ℕ) (refusal : Refusal) (values : List Value) (t : Bool)
    → cell_named s.names name ≡ None → (number_of NoSuchCell == number_of refusal) ≡ t →
    list_any (is_told s name refusal) values ≡ list_any (λ value. t) values
missing_so s name refusal [] t none is = refl
missing_so s name refusal (value ∷ values) t none is =
    let here : is_told s name refusal value ≡ t =
    ap (λ (o : Option ℕ). option_map_or (λ why. number_of why == number_of refusal)
    (option_map_or (λ n. result_err (said s.words (kind_at s.kinds n).kind value)) o (Some NoSuchCell)) false) none
    ∙ is in
    let more = missing_so s name refusal values t none is in
    λ i. here i || more i

never_any : (values : List Value) → list_any (λ value. false) values ≡ false
never_any [] = refl
never_any (value ∷ values) = never_any values

some_any : (values : List Value) → 0 < length values → list_any (λ value. true) values ≡ true
some_any [] l = absurd (omega (arith, l))
some_any (value ∷ values) l = refl

without_cell : (library : List Stored) (s : State) (choice name : List ℕ) (values : List Value)
    → cell_named s.names name ≡ None → 0 < length values →
    refusal_of library s (choose choice name values) ≡ choice_rows false false (is_taken_in s choice) true false false
    false (passed_by library s choice name values)
without_cell library s choice name values none some =
    let no : (e : Refusal) → (number_of NoSuchCell == number_of e) ≡ false
    → list_any (is_told s name e) values ≡ false =
    λ e is. missing_so s name e values false none is ∙ never_any values in
    let yes = missing_so s name NoSuchCell values true none refl ∙ some_any values some in
    λ i. choice_rows (no NotAName refl i) (no NotANumber refl i) (is_taken_in s choice) (yes i) (no WrongKind refl i)
    (no NotInTheDomain refl i) (no EmptyValue refl i) (passed_by library s choice name values)

pub choice_nowhere : (library : List Stored) (s : State) (choice name : List ℕ) (values : List Value)
    → cell_named s.names name ≡ None → 0 < length values → is_taken_in s choice ≡ false
    → refusal_of library s (choose choice name values) ≡ Some NoSuchCell
choice_nowhere library s choice name values none some free =
    without_cell library s choice name values none some
    ∙ ap (λ (t : Bool). choice_rows false false t true false false false (passed_by library s choice name values)) free

pub choice_taken : (library : List Stored) (s : State) (choice name : List ℕ) (values : List Value)
    → cell_named s.names name ≡ None → 0 < length values → is_taken_in s choice ≡ true
    → refusal_of library s (choose choice name values) ≡ Some NameTaken
choice_taken library s choice name values none some taken =
    without_cell library s choice name values none some
    ∙ ap (λ (t : Bool). choice_rows false false t true false false false (passed_by library s choice name values)) taken

-- ---- each value means something

refused_so : (e : Refusal) → IsValueRefusal e → is_error NotAName (Err e) ≡ false → is_error NotANumber (Err e) ≡ false
    → is_error WrongKind (Err e) ≡ false → is_error NotInTheDomain (Err e) ≡ false → is_error EmptyValue (Err e) ≡ false
    → ⊥
refused_so e no_name a b c d f = cc
refused_so e no_number a b c d f = cc
refused_so e wrong_kind a b c d f = cc
refused_so e not_inside a b c d f = cc
refused_so e no_element a b c d f = cc

one_means : (words : Vocabulary) (kind : Kind) (value : Value) → is_error NotAName (meaning_at words kind value) ≡ false
    → is_error NotANumber (meaning_at words kind value) ≡ false
    → is_error WrongKind (meaning_at words kind value) ≡ false →
    is_error NotInTheDomain (meaning_at words kind value) ≡ false
    → is_error EmptyValue (meaning_at words kind value) ≡ false → Means words kind value
one_means words kind value = by (meaning_at words kind value) refl
  where
    by : (r : Result Meant Refusal) → meaning_at words kind value ≡ r → is_error NotAName r ≡ false
        → is_error NotANumber r ≡ false → is_error WrongKind r ≡ false → is_error NotInTheDomain r ≡ false
        → is_error EmptyValue r ≡ false →
        r ≡ Ok (result_unwrap_or r (Known Nothing))
    by (Ok meant) e a b c d f = refl
    by (Err x) e a b c d f = absurd (refused_so x (value_refusal kind (elements_of_kind words kind) value x e) a b c d
        f)

or_none : (x y : Bool) → (x || y) ≡ false → (x ≡ false) × (y ≡ false)
or_none true y h = cc
or_none false y h = (refl, h)

all_mean : (words : Vocabulary) (kind : Kind) (values : List Value) → is_one_refused words kind NotAName values ≡ false
    → is_one_refused words kind NotANumber values ≡ false → is_one_refused words kind WrongKind values ≡ false →
    is_one_refused words kind NotInTheDomain values ≡ false → is_one_refused words kind EmptyValue values ≡ false
    → All (Means words kind) values
all_mean words kind [] a b c d f = λ k x l. absurd (omega (arith, l))
all_mean words kind (value ∷ values) a b c d f =
    let a2 = or_none (is_error NotAName (meaning_at words kind value)) (is_one_refused words kind NotAName values) a in
    let b2 = or_none (is_error NotANumber (meaning_at words kind value)) (is_one_refused words kind NotANumber values) b
    in
    let c2 = or_none (is_error WrongKind (meaning_at words kind value)) (is_one_refused words kind WrongKind values) c
    in
    let d2 = or_none (is_error NotInTheDomain (meaning_at words kind value))
    (is_one_refused words kind NotInTheDomain values) d in
    let f2 = or_none (is_error EmptyValue (meaning_at words kind value)) (is_one_refused words kind EmptyValue values) f
    in
    All-cons (Means words kind) value values (one_means words kind value a2.0 b2.0 c2.0 d2.0 f2.0)
    (all_mean words kind values a2.1 b2.1 c2.1 d2.1 f2.1)

rows_false : (name number taken wrong outside empty : Bool) → value_rows name number taken wrong outside empty ≡ None →
    (name ≡ false) × (number ≡ false) × (taken ≡ false) × (wrong ≡ false) × (outside ≡ false) × (empty ≡ false)
rows_false true number taken wrong outside empty h = cc
rows_false false true taken wrong outside empty h = cc
rows_false false false true wrong outside empty h = cc
rows_false false false false true outside empty h = cc
rows_false false false false false true empty h = cc
rows_false false false false false false true h = cc
rows_false false false false false false false h = (refl, refl, refl, refl, refl, refl)

pub values_mean : (words : Vocabulary) (kind : Kind) (taken : Bool) (values : List Value)
    → values_refusal words kind taken values ≡ None → All (Means words kind) values
values_mean words kind taken values h =
    let x = rows_false (is_one_refused words kind NotAName values) (is_one_refused words kind NotANumber values) taken
    (is_one_refused words kind WrongKind values) (is_one_refused words kind NotInTheDomain values)
    (is_one_refused words kind EmptyValue values) h in
    all_mean words kind values x.0 x.1 x.3 x.4 x.5

-- what the values mean is what they mean at a cell of the kind
pub meanings_mean : (words : Vocabulary) (kind : Kind) (values : List Value) → All (Means words kind) values
    → All (IsMeaning words kind) (meanings_of words kind values)
meanings_mean words kind [] mean = λ k x l. absurd (omega (arith, l))
meanings_mean words kind (value ∷ values) mean =
    All-cons (IsMeaning words kind) (meaning_of words kind value) (meanings_of words kind values)
    (value, All-head (Means words kind) value values mean)
    (meanings_mean words kind values (All-tail (Means words kind) value values mean))

-- the name is free
pub free_name : (words : Vocabulary) (kind : Kind) (taken : Bool) (values : List Value)
    → values_refusal words kind taken values ≡ None → taken ≡ false
free_name words kind taken values h =
    (rows_false (is_one_refused words kind NotAName values) (is_one_refused words kind NotANumber values) taken
    (is_one_refused words kind WrongKind values) (is_one_refused words kind NotInTheDomain values)
    (is_one_refused words kind EmptyValue values) h).2

pub is_nobodys : (o : Option ℕ) (b : Bool) → (is_some o || b) ≡ false → (o ≡ None) × (b ≡ false)
is_nobodys (Some p) b h = cc
is_nobodys None b h = (refl, h)

-- ---- one value after the other

-- of two refusals, by their numbers
pub earlier_before : (first : Option Refusal) (before now : Refusal) (a b : ℕ) → first ≡ Some before
    → a ≡ number_of before → b ≡ number_of now → a ≤ b → before ≡ earlier first now
earlier_before first before now a b is p q l =
    subst (λ f. before ≡ earlier f now) (sym is)
    (rw (le-leb (number_of before) (number_of now) (omega (arith, p, q, l))) refl)

pub earlier_now : (first : Option Refusal) (before now : Refusal) (a b : ℕ) → first ≡ Some before
    → a ≡ number_of before → b ≡ number_of now → b < a → now ≡ earlier first now
earlier_now first before now a b is p q l =
    subst (λ f. now ≡ earlier f now) (sym is)
    (rw (lt-leb (number_of before) (number_of now) (omega (arith, p, q, l))) refl)

-- what one value more adds to the rows
row_more : (name number taken wrong outside empty : Bool) (e : Refusal) → IsValueRefusal e →
    value_rows (name || (is_error NotAName (Err e) || false)) (number || (is_error NotANumber (Err e) || false)) taken
    (wrong || (is_error WrongKind (Err e) || false)) (outside || (is_error NotInTheDomain (Err e) || false))
    (empty || (is_error EmptyValue (Err e) || false))
    ≡ Some (earlier (value_rows name number taken wrong outside empty) e)
row_more true number taken wrong outside empty e no_name = refl
row_more true number taken wrong outside empty e no_number = refl
row_more true number taken wrong outside empty e wrong_kind = refl
row_more true number taken wrong outside empty e not_inside = refl
row_more true number taken wrong outside empty e no_element = refl
row_more false true taken wrong outside empty e no_name = refl
row_more false true taken wrong outside empty e no_number = refl
row_more false true taken wrong outside empty e wrong_kind = refl
row_more false true taken wrong outside empty e not_inside = refl
row_more false true taken wrong outside empty e no_element = refl
row_more false false true wrong outside empty e no_name = refl
row_more false false true wrong outside empty e no_number = refl
row_more false false true wrong outside empty e wrong_kind = refl
row_more false false true wrong outside empty e not_inside = refl
row_more false false true wrong outside empty e no_element = refl
row_more false false false true outside empty e no_name = refl
row_more false false false true outside empty e no_number = refl
row_more false false false true outside empty e wrong_kind = refl
row_more false false false true outside empty e not_inside = refl
row_more false false false true outside empty e no_element = refl
row_more false false false false true empty e no_name = refl
row_more false false false false true empty e no_number = refl
row_more false false false false true empty e wrong_kind = refl
row_more false false false false true empty e not_inside = refl
row_more false false false false true empty e no_element = refl
row_more false false false false false true e no_name = refl
row_more false false false false false true e no_number = refl
row_more false false false false false true e wrong_kind = refl
row_more false false false false false true e not_inside = refl
row_more false false false false false true e no_element = refl
row_more false false false false false false e no_name = refl
row_more false false false false false false e no_number = refl
row_more false false false false false false e wrong_kind = refl
row_more false false false false false false e not_inside = refl
row_more false false false false false false e no_element = refl

or_none_more : (b : Bool) → (b || false) ≡ b
or_none_more true = refl
or_none_more false = refl

one_more : (words : Vocabulary) (kind : Kind) (refusal : Refusal) (values : List Value) (value : Value) →
    is_one_refused words kind refusal (values ++ value ∷ [])
    ≡ (is_one_refused words kind refusal values || (is_error refusal (meaning_at words kind value) || false))
one_more words kind refusal values value =
    list_any-append (λ v. is_error refusal (meaning_at words kind v)) values (value ∷ [])

-- a value that is refused
pub refused_more : (words : Vocabulary) (kind : Kind) (taken : Bool) (values : List Value) (value : Value) (e : Refusal)
    → meaning_at words kind value ≡ Err e →
    values_refusal words kind taken (values ++ value ∷ []) ≡ Some (earlier (values_refusal words kind taken values) e)
refused_more words kind taken values value e said =
    (λ i. value_rows (one_more words kind NotAName values value i) (one_more words kind NotANumber values value i) taken
    (one_more words kind WrongKind values value i) (one_more words kind NotInTheDomain values value i)
    (one_more words kind EmptyValue values value i))
    ∙ (λ i. value_rows (is_one_refused words kind NotAName values || (is_error NotAName (said i) || false))
    (is_one_refused words kind NotANumber values || (is_error NotANumber (said i) || false)) taken
    (is_one_refused words kind WrongKind values || (is_error WrongKind (said i) || false))
    (is_one_refused words kind NotInTheDomain values || (is_error NotInTheDomain (said i) || false))
    (is_one_refused words kind EmptyValue values || (is_error EmptyValue (said i) || false)))
    ∙ row_more (is_one_refused words kind NotAName values) (is_one_refused words kind NotANumber values) taken
    (is_one_refused words kind WrongKind values) (is_one_refused words kind NotInTheDomain values)
    (is_one_refused words kind EmptyValue values) e
    (value_refusal kind (elements_of_kind words kind) value e said)

-- a value that means something
pub meant_more : (words : Vocabulary) (kind : Kind) (taken : Bool) (values : List Value) (value : Value) (meant : Meant)
    → meaning_at words kind value ≡ Ok meant →
    values_refusal words kind taken (values ++ value ∷ []) ≡ values_refusal words kind taken values
meant_more words kind taken values value meant said =
    λ i. value_rows (same NotAName i) (same NotANumber i) taken (same WrongKind i) (same NotInTheDomain i)
    (same EmptyValue i)
  where
    same : (e : Refusal) → is_one_refused words kind e (values ++ value ∷ []) ≡ is_one_refused words kind e values
    same e = one_more words kind e values value
        ∙ ap (λ r. is_one_refused words kind e values || (is_error e r || false)) said
        ∙ or_none_more (is_one_refused words kind e values)

-- These values were looked at: this is what refuses them, and where nothing does, this is what they mean.
pub record IsJudged (words : Vocabulary) (kind : Kind) (taken : Bool) (values : List Value) (first : Option Refusal)
    (meants : List Meant) : Type 0 where
  pub first_is : first ≡ values_refusal words kind taken values
  pub meants_are : first ≡ None → meants ≡ meanings_of words kind values

pub judged_none : (words : Vocabulary) (kind : Kind) (taken : Bool) (first : Option Refusal) (meants : List Meant)
    → first ≡ then_some taken NameTaken → meants ≡ [] → IsJudged words kind taken [] first meants
judged_none words kind true first meants e none = record { first_is = e; meants_are = λ h. none }
judged_none words kind false first meants e none = record { first_is = e; meants_are = λ h. none }

pub judged_refused : (words : Vocabulary) (kind : Kind) (taken : Bool) (values : List Value) (value : Value)
    (first : Option Refusal) (meants : List Meant) (e now : Refusal) → IsJudged words kind taken values first meants
    → meaning_at words kind value ≡ Err e → now ≡ earlier first e
    → IsJudged words kind taken (values ++ value ∷ []) (Some now) meants
judged_refused words kind taken values value first meants e now judged said is = record {
  first_is = ap Some (is ∙ ap (λ f. earlier f e) judged.first_is)
      ∙ sym (refused_more words kind taken values value e said);
  meants_are = λ h. cc;
}

pub judged_meant : (words : Vocabulary) (kind : Kind) (taken : Bool) (values : List Value) (value : Value)
    (first : Option Refusal) (meants : List Meant) (meant : Meant) → IsJudged words kind taken values first meants
    → meaning_at words kind value ≡ Ok meant
    → IsJudged words kind taken (values ++ value ∷ []) first (meants ++ meant ∷ [])
judged_meant words kind taken values value first meants meant judged said = record {
  first_is = judged.first_is ∙ sym (meant_more words kind taken values value meant said);
  meants_are = λ h.
      (λ i. judged.meants_are h i ++ meant ∷ [])
      ∙ ap (λ m. meanings_of words kind values ++ m ∷ [])
      (sym (ap (λ r. result_unwrap_or r (Known Nothing)) said))
      ∙ sym (map_push (meaning_of words kind) values value);
}

-- the values up to a place, and the one there
pub first_values : (values : List declared.Value) (i : ℕ) (value : declared.Value) → i < length values
    → value ≡ slice_index_or values i value →
    map value_of (take (i + 1) values) ≡ map value_of (take i values) ++ value_of value ∷ []
first_values values i value l is =
    map_more value_of values i value l ∙ (λ j. map value_of (take i values) ++ value_of (sym is j) ∷ [])

pub all_judged : (words : Vocabulary) (kind : Kind) (taken : Bool) (values : List declared.Value)
    (first : Option Refusal) (meants : List Meant) (k : ℕ) → length values ≤ k
    → IsJudged words kind taken (map value_of (take k values)) first meants
    → IsJudged words kind taken (map value_of values) first meants
all_judged words kind taken values first meants k l judged =
    subst (λ vs. IsJudged words kind taken (map value_of vs) first meants) (take_all k values l) judged

-- there is one
pub some_values : (values : List declared.Value) → 2 ≤ length values → 0 < length (map value_of values)
some_values values l = omega (arith, l, length-map values value_of)

-- as many as there are values
pub meants_count : (words : Vocabulary) (kind : Kind) (values : List declared.Value) (meants : List told.Meant)
    → map meant_of meants ≡ meanings_of words kind (map value_of values) → length meants ≡ length values
meants_count words kind values meants e =
    sym (length-map meants meant_of) ∙ ap length e ∙ length-map (map value_of values) (meaning_of words kind)
    ∙ length-map values value_of

-- ---- the choice is made

meants_are : (words : Vocabulary) (kind : Kind) (values : List Value) → All (Means words kind) values
    → AreMeant words kind values (meanings_of words kind values)
meants_are words kind [] mean = tt
meants_are words kind (value ∷ values) mean = (
  All-head (Means words kind) value values mean,
  meants_are words kind values (All-tail (Means words kind) value values mean),
)

-- ---- the choice is made, or a limit refuses it

pub chosen_or_not : (library : List Stored) (s new : State) (choice name : List ℕ) (values : List Value) (cell : ℕ)
    (kind : Kind) (taken : Bool) → cell_named s.names name ≡ Some cell → kind ≡ (kind_at s.kinds cell).kind
    → taken ≡ is_taken_in s choice → 0 < length values →
    values_refusal s.words kind taken values ≡ None → (r : Result ⊤ Refusal)
    → OnOk r (choosing_limit_of s (meanings_of s.words kind values) ≡ None)
    → OnOk r (new ≡ chosen s choice cell (meanings_of s.words kind values)) →
    IfErr r (λ e. (choosing_limit_of s (meanings_of s.words kind values) ≡ Some e) ⊎ (e ≡ Memory))
    → OnErr r (new ≡ s) → Obeys library s (choose choice name values) (answer_done r) new 0
chosen_or_not library s new choice name values cell kind taken found is_kind is_taken some none = by
  where
    meants : List Meant
    meants = meanings_of s.words kind values

    are : AreMeant s.words (kind_at s.kinds cell).kind values meants
    are = subst (λ k. AreMeant s.words k values meants) is_kind
        (meants_are s.words kind values (values_mean s.words kind taken values none))

    made : effect library s (choose choice name values) ≡ chosen s choice cell meants
    made = chosen_said library s choice name values cell meants found are

    many : 0 < length meants
    many = omega (arith, some, length-map values (meaning_of s.words kind))

    refusal : refusal_of library s (choose choice name values) ≡ choosing_limit_of s meants
    refusal =
        by_rows library s choice name values cell kind found is_kind
        ∙ no_row (is_one_refused s.words kind NotAName values) (is_one_refused s.words kind NotANumber values)
        (is_taken_in s choice) (is_one_refused s.words kind WrongKind values)
        (is_one_refused s.words kind NotInTheDomain values)
        (is_one_refused s.words kind EmptyValue values) (passed_by library s choice name values)
        (ap (λ (t : Bool). values_refusal s.words kind t values) (sym is_taken) ∙ none)
        ∙ ap (λ t. first_of (passed s t)) made ∙ chosen_limit s choice cell meants many

    stops : (e : Refusal) → (choosing_limit_of s meants ≡ Some e) ⊎ (e ≡ Memory)
        → (refusal_of library s (choose choice name values) ≡ Some e) ⊎ (e ≡ Memory)
    stops e (inl h) = inl (refusal ∙ h)
    stops e (inr m) = inr m

    by : (r : Result ⊤ Refusal) → OnOk r (choosing_limit_of s (meanings_of s.words kind values) ≡ None)
        → OnOk r (new ≡ chosen s choice cell (meanings_of s.words kind values)) →
        IfErr r (λ e. (choosing_limit_of s (meanings_of s.words kind values) ≡ Some e) ⊎ (e ≡ Memory))
        → OnErr r (new ≡ s) → Obeys library s (choose choice name values) (answer_done r) new 0
    by (Ok t) fits ok why same = obeys library s new (choose choice name values) Done 0 (refusal ∙ fits)
        (record { answer_is = refl; new_is = ok ∙ sym made; no_steps = refl })
    by (Err e) fits ok why same = refuses_or_lacks library s new (choose choice name values) e (stops e why) same
