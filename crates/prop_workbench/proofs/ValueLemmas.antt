-- What a value says at a cell, and why it is refused.
use Rattle.std.proofs.Common.{◌≡◌, ◌∙◌, ℕ, ℤ, neg_ℤ, ◌≤ℤ◌, ◌<◌, ◌≤◌, ◌^◌, ◌/◌, zero, suc, bytes_eq, length, Bool}
use Rattle.std.proofs.Common.{true, false, cond, ◌&&◌, ◌||◌, List, [], ◌∷◌, Option, Some, None, Result, Ok, Err}
use Rattle.std.proofs.Common.{◌⊎◌, inl, inr, refl, sym, ap, subst, arith, slice_index_or, eq-eqb}
use Rattle.std.specs.Prelude.{int_le, int_lt, ⊤, OnOk, OnErr, IfErr}
use Rattle.std.specs.Option.{option_and_then, option_map_or}
use Rattle.std.specs.Result.{result_err}
use Rattle.std.specs.List.{list_all}
use Rattle.std.proofs.lemmas.Int.{ints}
use Rattle.prop_lattice.specs.declared.span.TheConstants.{B}
use Rattle.prop_lattice.specs.declared.info.Info.{Info}
use Rattle.prop_lattice.specs.declared.info.Kind.{Kind}
use Rattle.prop_lattice.specs.declared.info.Kind.TheVariants as kinds
use Rattle.prop_refusals.specs.declared.refusal.Refusal.{Refusal}
use Rattle.prop_refusals.specs.declared.refusal.Refusal.TheVariants.{NotAName, NotANumber, WrongKind, Memory}
use Rattle.prop_refusals.specs.declared.refusal.Refusal.TheVariants.{NoSuchCell}
use Rattle.prop_refusals.specs.declared.refusal.Refusal.TheVariants.{NotInTheDomain, EmptyValue, IsAChoice}
use Rattle.prop_lattice.specs.Ends.{AreEnds, ends_or_not, some_or_not, span_from}
use Rattle.prop_lattice.specs.inner.Ends.{AreSome, span_if, elements_if}
use Rattle.prop_lattice.specs.Ends.{elements_from}
use Rattle.prop_refusals.specs.Refusals.{first_of, when}
use Rattle.prop_procedures.specs.Stored.{Stored}
use Rattle.prop_procedures.specs.declared.shape.Kinded.{Kinded}
use Rattle.std.proofs.Math.Pow.{pow_mono}
use Rattle.std.proofs.Math.Nat.{div-eq_of_lt}
use Rattle.std.specs.Int.{bit_at}
use Rattle.std.proofs.lemmas.Nat.Bits.{bit_at-zero}
use Rattle.std.proofs.lemmas.Slice.Eq.{bytes_eq-Decides}
use Rattle.prop_sets.specs.laws.ChosenLaws.{bits_where-lt, bits_where-has}
use Rattle.prop_procedures.specs.Fitting.{kind_at}
use Rattle.prop_cells.specs.Refusing.{may_be_stated}
use Rattle.prop_language.specs.Commands.{Value, Bare, Braces}
use Rattle.prop_language.specs.Names.{whole_number, is_name, is_among}
use Rattle.prop_vocabulary.specs.Values.{Meant, Known, Name, known, value_said, span_value}
use Rattle.prop_vocabulary.specs.Values.{set_value}
use Rattle.prop_vocabulary.specs.inner.SetBits.{bits_named}
use Rattle.prop_vocabulary.specs.Values.{ends_value, bounded_number, halves}
use Rattle.prop_workbench.specs.Machine.{State}
use Rattle.prop_workbench.specs.Refusing.{refusal_of, refused_at, passed}
use Rattle.prop_workbench.specs.Effects.{effect, said}
use Rattle.prop_workbench.specs.Steps.{Carries}
use Rattle.prop_workbench.specs.inner.Steps.{Obeys}
use Rattle.prop_engine.specs.Answers.{Done, answer_done}
use Rattle.prop_premises.specs.Origins.{is_choice}
use Rattle.prop_workbench.proofs.SaidLemmas.{refused_found, said_state, said_limit}
use Rattle.prop_workbench.proofs.StepLemmas.{obeys, refuses_or_lacks}
use Rattle.prop_workbench.specs.inner.Refusing.{is_choice_told, meaning_at, stating_limit, with_meant}
use Rattle.prop_workbench.specs.inner.Effects.{stating, stated, info_meant, MayMean}
use Rattle.prop_vocabulary.specs.Cells.{cell_named}

-- ---- the refusals of values

-- the reasons for which a value is refused
pub data IsValueRefusal : Refusal → Type 0 where
  no_name : IsValueRefusal NotAName
  no_number : IsValueRefusal NotANumber
  wrong_kind : IsValueRefusal WrongKind
  outside : IsValueRefusal NotInTheDomain
  empty : IsValueRefusal EmptyValue

empty_or_span : (t : Bool) (info : Info) (e : Refusal) → cond t (Err EmptyValue) (Ok info) ≡ Err e → IsValueRefusal e
empty_or_span true info e h = let same : EmptyValue ≡ e = cc in subst IsValueRefusal same empty
empty_or_span false info e h = cc

ends_refusal : (low high : Option ℤ) (e : Refusal) → ends_value low high ≡ Err e → IsValueRefusal e
ends_refusal (Some low) (Some high) e h = empty_or_span (int_lt high low) (span_from low high) e h
ends_refusal (Some low) None e h = let same : NotANumber ≡ e = cc in subst IsValueRefusal same no_number
ends_refusal None high e h = let same : NotANumber ≡ e = cc in subst IsValueRefusal same no_number

span_refusal : (parts : List ℕ × Option (List ℕ)) (e : Refusal) → span_value parts ≡ Err e → IsValueRefusal e
span_refusal (word, None) e h = ends_refusal (bounded_number word) (bounded_number word) e h
span_refusal (left, Some right) e h = ends_refusal (bounded_number left) (bounded_number right) e h

set_or_outside : (t : Bool) (info : Info) (e : Refusal) → cond t (Ok info) (Err NotInTheDomain) ≡ Err e
    → IsValueRefusal e
set_or_outside true info e h = cc
set_or_outside false info e h = let same : NotInTheDomain ≡ e = cc in subst IsValueRefusal same outside

set_refusal : (names words : List (List ℕ)) (e : Refusal) → set_value names words ≡ Err e → IsValueRefusal e
set_refusal names [] e h = let same : EmptyValue ≡ e = cc in subst IsValueRefusal same empty
set_refusal names (w ∷ words) e h = set_or_outside (list_all (is_among names) (w ∷ words))
    (elements_from (bits_named names (w ∷ words))) e h

known_refusal : (r : Result Info Refusal) (e : Refusal) → known r ≡ Err e → r ≡ Err e
known_refusal (Ok info) e h = cc
known_refusal (Err other) e h = let same : other ≡ e = cc in ap Err same

symbol_refused : (t : Bool) (word : List ℕ) (e : Refusal) → cond t (Ok (Name word)) (Err NotAName) ≡ Err e
    → IsValueRefusal e
symbol_refused true word e h = cc
symbol_refused false word e h = let same : NotAName ≡ e = cc in subst IsValueRefusal same no_name

pub value_refusal : (kind : Kind) (names : List (List ℕ)) (value : Value) (e : Refusal)
    → value_said kind names value ≡ Err e → IsValueRefusal e
value_refusal kinds.Span names (Bare word) e h =
    span_refusal (halves word) e (known_refusal (span_value (halves word)) e h)
value_refusal kinds.Span names (Braces words) e h = let same : WrongKind ≡ e =
    cc in subst IsValueRefusal same wrong_kind
value_refusal (kinds.Set d) names (Bare word) e h =
    set_refusal names (word ∷ []) e (known_refusal (set_value names (word ∷ [])) e h)
value_refusal (kinds.Set d) names (Braces words) e h =
    set_refusal names words e (known_refusal (set_value names words) e h)
value_refusal kinds.Symbol names (Bare word) e h = symbol_refused (is_name word) word e h
value_refusal kinds.Symbol names (Braces words) e h = let same : WrongKind ≡ e =
    cc in subst IsValueRefusal same wrong_kind

-- ---- what is said may be stated

within : (low high z : ℤ) (o : Option ℤ)
    → option_and_then (λ n. cond (int_le low n && int_le n high) (Some n) None) o ≡ Some z → (low ≤ℤ z) × (z ≤ℤ high)
within low high z None h = cc
within low high z (Some n) h = by (int_le low n && int_le n high) refl h
  where
    tested : (int_le low n && int_le n high) ≡ true → (low ≤ℤ n) × (n ≤ℤ high)
    tested t = (grind (arith, ints), grind (arith, ints))

    by : (t : Bool) → (int_le low n && int_le n high) ≡ t → cond t (Some n) None ≡ Some z → (low ≤ℤ z) × (z ≤ℤ high)
    by true e f = let same : n ≡ z = cc in rw (← same) (tested e)
    by false e f = cc

span_may_be : (size : ℕ) (low high : ℤ) → neg_ℤ B ≤ℤ low → low ≤ℤ high → high ≤ℤ B
    → may_be_stated kinds.Span size (span_from low high) ≡ true
unfolding span_from
span_may_be size low high above ordered below = by (ends_or_not low high)
  where
    by : (d : AreEnds low high ⊎ ¬ (AreEnds low high)) → may_be_stated kinds.Span size (span_if low high d) ≡ true
    by (inl e) = refl
    by (inr f) = absurd (f (above, ordered, below))

ends_may_be : (size : ℕ) (low high : Option ℤ) (info : Info) →
    ((z : ℤ) → low ≡ Some z → (neg_ℤ B ≤ℤ z) × (z ≤ℤ B)) →
    ((z : ℤ) → high ≡ Some z → (neg_ℤ B ≤ℤ z) × (z ≤ℤ B)) →
    ends_value low high ≡ Ok info → may_be_stated kinds.Span size info ≡ true
ends_may_be size (Some low) (Some high) info l r h = by (int_lt high low) refl h
  where
    ordered : int_lt high low ≡ false → low ≤ℤ high
    ordered t = grind (arith, ints)

    by : (t : Bool) → int_lt high low ≡ t → cond t (Err EmptyValue) (Ok (span_from low high)) ≡ Ok info
        → may_be_stated kinds.Span size info ≡ true
    by true e f = cc
    by false e f = let same : span_from low high ≡ info =
        cc in rw (← same) (span_may_be size low high (l low refl).0 (ordered e) (r high refl).1)
ends_may_be size (Some low) None info l r h = cc
ends_may_be size None high info l r h = cc

bounded : (word : List ℕ) (z : ℤ) → bounded_number word ≡ Some z → (neg_ℤ B ≤ℤ z) × (z ≤ℤ B)
bounded word z h = within (neg_ℤ B) B z (whole_number word) h

span_value_may_be : (size : ℕ) (parts : List ℕ × Option (List ℕ)) (info : Info) → span_value parts ≡ Ok info
    → may_be_stated kinds.Span size info ≡ true
span_value_may_be size (word, None) info h =
    ends_may_be size (bounded_number word) (bounded_number word) info (bounded word) (bounded word) h
span_value_may_be size (left, Some right) info h =
    ends_may_be size (bounded_number left) (bounded_number right) info (bounded left) (bounded right) h

-- the place of a name among names
among_at : (names : List (List ℕ)) (w : List ℕ) → is_among names w ≡ true
    → (i : ℕ) × (i < length names) × (slice_index_or names i [] ≡ w)
among_at [] w h = cc
among_at (n ∷ names) w h = by (among_at names w) (bytes_eq n w) refl h
  where
    by : (is_among names w ≡ true → (i : ℕ) × (i < length names) × (slice_index_or names i [] ≡ w)) → (t : Bool)
        → bytes_eq n w ≡ t → (t || is_among names w) ≡ true
        → (i : ℕ) × (i < length (n ∷ names)) × (slice_index_or (n ∷ names) i [] ≡ w)
    by others true e k = (0, omega arith, (bytes_eq-Decides n w).0 e)
    by others false e k = let rest = others k in (suc rest.0, omega (arith, rest.1), rest.2)

-- the first of the words is found, so that a bit is set
bit_named : (names words : List (List ℕ)) (w : List ℕ) → is_among names w ≡ true → 0 < bits_named names (w ∷ words)
bit_named names words w h =
    let at = among_at names w h in
    let same : bytes_eq w (slice_index_or names at.0 []) ≡ true = rw at.2 ((bytes_eq-Decides w w).1 refl) in
    let bit = bits_where-has (length names) (λ i. is_among (w ∷ words) (slice_index_or names i [])) at.0 at.1
    (rw same refl) in
    by (bits_named names (w ∷ words)) at.0 bit
  where
    by : (bits i : ℕ) → bit_at bits i ≡ 1 → 0 < bits
    by zero i e = absurd (omega (arith, e, bit_at-zero i))
    by (suc n) i e = omega arith

-- bits below a size are of it
below_may_be : (d size bits : ℕ) → bits < 2 ^ size → 0 < bits → bits < 2 ^ 64
    → may_be_stated (kinds.Set d) size (elements_from bits) ≡ true
unfolding elements_from
below_may_be d size bits l z k = by (some_or_not bits)
  where
    by : (t : AreSome bits ⊎ ¬ (AreSome bits)) → may_be_stated (kinds.Set d) size (elements_if bits t) ≡ true
    by (inl some) = eq-eqb (bits / 2 ^ size) 0 (div-eq_of_lt l)
    by (inr none) = absurd (none (z, k))

first_of_all : (p : List ℕ → Bool) (w : List ℕ) (words : List (List ℕ)) → list_all p (w ∷ words) ≡ true → p w ≡ true
first_of_all p w words h = by (p w) h
  where
    by : (t : Bool) → (t && list_all p words) ≡ true → t ≡ true
    by true k = refl
    by false k = cc

-- the set of named elements of a domain of this size may be stated at its cells
set_may_be : (d size : ℕ) (names words : List (List ℕ)) (info : Info) → size ≡ length names → length names ≤ 64
    → set_value names words ≡ Ok info → may_be_stated (kinds.Set d) size info ≡ true
set_may_be d size names [] info same few h = cc
set_may_be d size names (w ∷ words) info same few h = by (list_all (is_among names) (w ∷ words)) refl h
  where
    bits : ℕ
    bits = bits_named names (w ∷ words)

    by : (t : Bool) → list_all (is_among names) (w ∷ words) ≡ t
        → cond t (Ok (elements_from bits)) (Err NotInTheDomain) ≡ Ok info → may_be_stated (kinds.Set d) size info ≡ true
    by true all e =
        let found : elements_from bits ≡ info = cc in
        let below : bits < 2 ^ length names =
        bits_where-lt (length names) (λ i. is_among (w ∷ words) (slice_index_or names i [])) in
        let most : 2 ^ length names ≤ 2 ^ 64 = pow_mono few in
        rw (← found) (below_may_be d size bits (rw same below)
        (bit_named names words w (first_of_all (is_among names) w words all)) (omega (arith, below, most)))
    by false all e = cc

symbol_known : (t : Bool) (word : List ℕ) (info : Info) → cond t (Ok (Name word)) (Err NotAName) ≡ Ok (Known info) → ⊥
symbol_known true word info h = cc
symbol_known false word info h = cc

known_is : (r : Result Info Refusal) (info : Info) → known r ≡ Ok (Known info) → r ≡ Ok info
known_is (Ok other) info h = let same : other ≡ info = cc in ap Ok same
known_is (Err e) info h = cc

known_names : (r : Result Info Refusal) (symbol : List ℕ) → known r ≡ Ok (Name symbol) → ⊥
known_names (Ok other) symbol h = cc
known_names (Err e) symbol h = cc

pub value_may_be : (k : Kinded) (names : List (List ℕ)) (value : Value) (meant : Meant) → k.size ≡ length names
    → length names ≤ 64 → value_said k.kind names value ≡ Ok meant → MayMean k meant
value_may_be k names value meant same few h = by k.kind refl value meant h
  where
    by : (kind : Kind) → k.kind ≡ kind → (value : Value) (meant : Meant) → value_said kind names value ≡ Ok meant
        → MayMean k meant
    by kinds.Span e (Bare word) (Known info) h =
        rw e (span_value_may_be k.size (halves word) info (known_is (span_value (halves word)) info h))
    by kinds.Span e (Bare word) (Name symbol) h = absurd (known_names (span_value (halves word)) symbol h)
    by kinds.Span e (Braces words) meant h = cc
    by (kinds.Set d) e (Bare word) (Known info) h =
        rw e (set_may_be d k.size names (word ∷ []) info same few (known_is (set_value names (word ∷ [])) info h))
    by (kinds.Set d) e (Bare word) (Name symbol) h = absurd (known_names (set_value names (word ∷ [])) symbol h)
    by (kinds.Set d) e (Braces words) (Known info) h =
        rw e (set_may_be d k.size names words info same few (known_is (set_value names words) info h))
    by (kinds.Set d) e (Braces words) (Name symbol) h = absurd (known_names (set_value names words) symbol h)
    by kinds.Symbol e (Bare word) (Known info) h = absurd (symbol_known (is_name word) word info h)
    by kinds.Symbol e (Bare word) (Name symbol) h = e
    by kinds.Symbol e (Braces words) meant h = cc

-- ---- the refusal of a statement

-- a value that is refused is refused first
pub value_refused : (library : List Stored) (s : State) (premise : Option (List ℕ)) (name : List ℕ) (value : Value)
    (cell : ℕ) (e : Refusal) → cell_named s.names name ≡ Some cell
    → meaning_at s.words (kind_at s.kinds cell).kind value ≡ Err e →
    refusal_of library s (stating premise name value) ≡ Some e
value_refused library s premise name value cell e found said = by premise
  where
    refused : refused_at s name value ≡ Some e
    refused = refused_found s name value cell found ∙ ap result_err said

    by : (premise : Option (List ℕ)) → refusal_of library s (stating premise name value) ≡ Some e
    by None = λ i. first_of (refused i ∷ passed s (effect library s (stating None name value)))
    by (Some told) = λ i. first_of (refused i ∷ when IsAChoice (is_choice s.premises told) ∷ passed s
        (effect library s (stating (Some told) name value)))

-- where no cell has the name, that is
pub told_nowhere : (library : List Stored) (s : State) (premise : Option (List ℕ)) (name : List ℕ) (value : Value)
    → cell_named s.names name ≡ None → refusal_of library s (stating premise name value) ≡ Some NoSuchCell
told_nowhere library s premise name value none = by premise
  where
    nowhere : refused_at s name value ≡ Some NoSuchCell
    nowhere = λ i. option_map_or (λ n. result_err (said s.words (kind_at s.kinds n).kind value)) (none i)
        (Some NoSuchCell)

    by : (premise : Option (List ℕ)) → refusal_of library s (stating premise name value) ≡ Some NoSuchCell
    by None = λ i. first_of (nowhere i ∷ passed s (effect library s (stating None name value)))
    by (Some told) = λ i. first_of (nowhere i ∷ when IsAChoice (is_choice s.premises told) ∷ passed s
        (effect library s (stating (Some told) name value)))

-- where the value means something, the name of a choice is refused
pub choice_told : (library : List Stored) (s : State) (premise : Option (List ℕ)) (name : List ℕ) (value : Value)
    (cell : ℕ) (meant : Meant) → cell_named s.names name ≡ Some cell
    → meaning_at s.words (kind_at s.kinds cell).kind value ≡ Ok meant → is_choice_told s premise ≡ true →
    refusal_of library s (stating premise name value) ≡ Some IsAChoice
choice_told library s None name value cell meant found said told = cc
choice_told library s (Some premise) name value cell meant found said told =
    λ i. first_of ((refused_found s name value cell found ∙ ap result_err said) i ∷ when IsAChoice (told i) ∷ passed s
    (effect library s (stating (Some premise) name value)))

-- and else only a limit is
pub limit_told : (library : List Stored) (s : State) (premise : Option (List ℕ)) (name : List ℕ) (value : Value)
    (cell : ℕ) (meant : Meant) → cell_named s.names name ≡ Some cell
    → meaning_at s.words (kind_at s.kinds cell).kind value ≡ Ok meant → is_choice_told s premise ≡ false →
    refusal_of library s (stating premise name value) ≡ stating_limit s premise meant
limit_told library s premise name value cell meant found said told = by premise told
  where
    fine : refused_at s name value ≡ None
    fine = refused_found s name value cell found ∙ ap result_err said

    by : (premise : Option (List ℕ)) → is_choice_told s premise ≡ false
        → refusal_of library s (stating premise name value) ≡ stating_limit s premise meant
    by None told =
        (λ i. first_of (fine i ∷ passed s (effect library s (stating None name value))))
        ∙ ap (λ t. first_of (passed s t)) (said_state library s None name value cell meant found said)
        ∙ said_limit s None cell meant
    by (Some premise) told =
        (λ i. first_of (fine i ∷ when IsAChoice (told i) ∷ passed s
        (effect library s (stating (Some premise) name value))))
        ∙ ap (λ t. first_of (passed s t)) (said_state library s (Some premise) name value cell meant found said)
        ∙ said_limit s (Some premise) cell meant

stating_carried : (library : List Stored) (s new : State) (premise : Option (List ℕ)) (name : List ℕ) (value : Value)
    → new ≡ effect library s (stating premise name value)
    → Carries library s (stating premise name value) Done new 0
stating_carried library s new None name value e = record { answer_is = refl; new_is = e; no_steps = refl }
stating_carried library s new (Some premise) name value e = record { answer_is = refl; new_is = e; no_steps = refl }

-- a value is stated, or a limit is met
pub told_or_not : (library : List Stored) (s new : State) (premise under : Option (List ℕ)) (name : List ℕ)
    (value : Value) (cell : ℕ) (meant : Meant) → cell_named s.names name ≡ Some cell
    → meaning_at s.words (kind_at s.kinds cell).kind value ≡ Ok meant → is_choice_told s premise ≡ false
    → under ≡ premise → (r : Result ⊤ Refusal) → OnOk r (stating_limit s under meant ≡ None)
    → OnOk r (new ≡ stated s under cell (with_meant s.words meant) (info_meant s.words meant)) →
    IfErr r (λ e. (stating_limit s under meant ≡ Some e) ⊎ (e ≡ Memory)) → OnErr r (new ≡ s)
    → Obeys library s (stating premise name value) (answer_done r) new 0
told_or_not library s new premise under name value cell meant found said told same = by
  where
    limit : refusal_of library s (stating premise name value) ≡ stating_limit s under meant
    limit = limit_told library s premise name value cell meant found said told
        ∙ ap (λ o. stating_limit s o meant) (sym same)

    made : stated s under cell (with_meant s.words meant) (info_meant s.words meant) ≡ effect library s
        (stating premise name value)
    made = ap (λ o. stated s o cell (with_meant s.words meant) (info_meant s.words meant)) same
        ∙ sym (said_state library s premise name value cell meant found said)

    stops : (e : Refusal) → (stating_limit s under meant ≡ Some e) ⊎ (e ≡ Memory)
        → (refusal_of library s (stating premise name value) ≡ Some e) ⊎ (e ≡ Memory)
    stops e (inl h) = inl (limit ∙ h)
    stops e (inr m) = inr m

    by : (r : Result ⊤ Refusal) → OnOk r (stating_limit s under meant ≡ None)
        → OnOk r (new ≡ stated s under cell (with_meant s.words meant) (info_meant s.words meant)) →
        IfErr r (λ e. (stating_limit s under meant ≡ Some e) ⊎ (e ≡ Memory)) → OnErr r (new ≡ s)
        → Obeys library s (stating premise name value) (answer_done r) new 0
    by (Ok t) fits ok why back = obeys library s new (stating premise name value) Done 0 (limit ∙ fits)
        (stating_carried library s new premise name value (ok ∙ made))
    by (Err e) fits ok why back = refuses_or_lacks library s new (stating premise name value) e (stops e why) back
