-- Why a definition may not be made: each test after those before it.
use Rattle.std.proofs.Common.{◌≡◌, ◌∙◌, ℕ, ◌≤◌, ◌⊎◌, List, [], ◌∷◌, ◌++◌, ◌||◌, Bool, true, false, nat_le, Option, Some}
use Rattle.std.proofs.Common.{None, map, length, take, drop, is_some, refl, sym, ap, arith, inl, inr}
use Rattle.std.specs.Prelude.{Result, Ok, Err, IfErr, OnOk}
use Rattle.std.specs.Borrow.{Bor}
use Rattle.std.specs.List.{list_any, flat_map}
use Rattle.std.proofs.lemmas.List.{take_at, drop_at, length-map, length-append}
use Rattle.std.proofs.lemmas.Bool.{or_parts, or_left, or_right}
use Rattle.prop_refusals.specs.Refusals.{most, when, first_of}
use Rattle.prop_refusals.specs.declared.refusal.Limit.TheVariants.{Definitions as TooMany}
use Rattle.prop_refusals.specs.declared.refusal.Refusal.{Refusal}
use Rattle.prop_refusals.specs.declared.refusal.Refusal.TheVariants.{NameTaken, NoSuchDomain, NoSuchRelation}
use Rattle.prop_refusals.specs.declared.refusal.Refusal.TheVariants.{NoSuchCell, NoSuchProcedure, WrongCount}
use Rattle.prop_refusals.specs.declared.refusal.Refusal.TheVariants.{LimitReached, Memory}
use Rattle.prop_sets.specs.Names.{has_repeat}
use Rattle.prop_procedures.specs.Stored.{Stored, procedure_number}
use Rattle.prop_vocabulary.specs.Names.{number_in}
use Rattle.prop_vocabulary.specs.Refusing.{IsReason}
use Rattle.prop_vocabulary.specs.Vocabulary.{Vocabulary}
use Rattle.prop_language.specs.Commands as commands
use Rattle.prop_language.specs.declared.command.Step.{Step}
use Rattle.prop_language.specs.Said.{words, step_of}
use Rattle.prop_compound.specs.Definitions.{Definitions}
use Rattle.prop_compound.specs.Defining.{locals_of, scope_of, is_name_taken, is_domain_missing, is_relation_missing}
use Rattle.prop_compound.specs.Defining.{is_cell_missing, is_unknown, is_count_wrong, words_refusals, uses_refusals}
use Rattle.prop_compound.specs.Defining.{define_refusal}
use Rattle.prop_compound.specs.inner.Defining.{steps_refusal}
use Rattle.prop_compound.proofs.Firsts.{stops, passes, list_any-map}
use Rattle.prop_compound.proofs.Scoping.{taken_then}

-- some step does, by what the steps say
pub some_said : (p : commands.Step → Bool) (steps : List Step) (b : Bool)
    → b ≡ list_any (λ step. p (step_of step)) steps → list_any p (map step_of steps) ≡ b
some_said p steps b e = list_any-map step_of p steps ∙ sym e

-- the first names in the scope are the parameters, and behind them are the locals
module _ (params : List (Bor (List ℕ))) (scope : List (List ℕ)) (steps : List commands.Step)
    (e : scope ≡ scope_of (words params) steps) where
  pub said_within : length params ≤ length scope
  said_within =
      omega (
        arith,
        ap length e,
        length-append (words params) (flat_map locals_of steps),
        length-map params (λ (w : Bor (List ℕ)). w.now),
      )

  pub said_first : take (length params) scope ≡ words params
  said_first = ap (take (length params)) e
      ∙ take_at (words params) (flat_map locals_of steps) (length params)
      (length-map params (λ (w : Bor (List ℕ)). w.now))

  pub said_behind : drop (length params) scope ≡ flat_map locals_of steps
  said_behind = ap (drop (length params)) e
      ∙ drop_at (words params) (flat_map locals_of steps) (length params)
      (length-map params (λ (w : Bor (List ℕ)). w.now))

-- what a lookup found, and what it did not find
pub is_found : (found looked : Option ℕ) (b : Bool) → b ≡ is_some found → found ≡ looked → is_some looked ≡ b
is_found found looked b h e = sym (h ∙ ap is_some e)

-- ---- the first of three refusals

module _ (r s t : Refusal) (a b c : Bool) where
  pub first_of_three : a ≡ true → Some r ≡ first_of (when r a ∷ when s b ∷ when t c ∷ [])
  first_of_three e = sym (stops r a (when s b ∷ when t c ∷ []) e)

  pub second_of_three : a ≡ false → b ≡ true → Some s ≡ first_of (when r a ∷ when s b ∷ when t c ∷ [])
  second_of_three e f = sym (passes r a (when s b ∷ when t c ∷ []) (Some s) e (stops s b (when t c ∷ []) f))

  pub third_of_three : a ≡ false → b ≡ false → c ≡ true → Some t ≡ first_of (when r a ∷ when s b ∷ when t c ∷ [])
  third_of_three e f g = sym (passes r a (when s b ∷ when t c ∷ []) (Some t) e
      (passes s b (when t c ∷ []) (Some t) f (stops t c [] g)))

  pub none_of_three : a ≡ false → b ≡ false → c ≡ false → None ≡ first_of (when r a ∷ when s b ∷ when t c ∷ [])
  none_of_three e f g = sym (passes r a (when s b ∷ when t c ∷ []) None e
      (passes s b (when t c ∷ []) None f (passes t c [] None g refl)))

-- ---- refusals before others

first_before : (xs ys : List (Option Refusal)) (r : Refusal) → first_of xs ≡ Some r → first_of (xs ++ ys) ≡ Some r
first_before [] ys r e = cc
first_before (None ∷ xs) ys r e = first_before xs ys r e
first_before (Some q ∷ xs) ys r e = e

none_before : (xs ys : List (Option Refusal)) → first_of xs ≡ None → first_of (xs ++ ys) ≡ first_of ys
none_before [] ys e = refl
none_before (None ∷ xs) ys e = none_before xs ys e
none_before (Some q ∷ xs) ys e = cc

-- what is not refused first is not refused at all
one_passed : (r : Refusal) (b : Bool) (rest : List (Option Refusal)) → first_of (when r b ∷ rest) ≡ None
    → (b ≡ false) × (first_of rest ≡ None)
one_passed r true rest e = cc
one_passed r false rest e = (refl, e)

-- why steps are refused for what they use, by whether some use what is not there or a wrong number of cells
pub same_uses : (library : List Stored) (definitions : Definitions) (steps : List commands.Step) (unknown counts : Bool)
    → unknown ≡ list_any (is_unknown library definitions) steps
    → counts ≡ list_any (is_count_wrong library definitions) steps
    → first_of (when NoSuchProcedure unknown ∷ when WrongCount counts
    ∷ when (LimitReached TooMany) (nat_le (most TooMany) (length definitions.definitions)) ∷ [])
    ≡ first_of (uses_refusals library definitions steps)
same_uses library definitions steps unknown counts e f =
    (λ i. first_of (when NoSuchProcedure (e i) ∷ when WrongCount (f i)
    ∷ when (LimitReached TooMany) (nat_le (most TooMany) (length definitions.definitions)) ∷ []))

module _ (library : List Stored) (words : Vocabulary) (definitions : Definitions) (params : List (List ℕ))
    (steps : List commands.Step) where
  -- what the steps of a definition that is not refused have
  pub record IsRightly : Type 0 where
    pub cells : is_cell_missing params steps ≡ false
    pub procedures : list_any (is_unknown library definitions) steps ≡ false
    pub counts : list_any (is_count_wrong library definitions) steps ≡ false

  module _ (cells : List (List ℕ)) (first : cells ≡ params) (o : Option Refusal)
      (h : o ≡ first_of (words_refusals words cells steps)) where
    said : first_of (words_refusals words params steps) ≡ o
    said = sym (h ∙ ap (λ cs. first_of (words_refusals words cs steps)) first)

    pub refused_words : (r : Refusal) → o ≡ Some r → steps_refusal library words definitions params steps ≡ Some r
    refused_words r e = first_before (words_refusals words params steps) (uses_refusals library definitions steps) r
        (said ∙ e)

    module _ (e : o ≡ None) (o' : Option Refusal) (h' : o' ≡ first_of (uses_refusals library definitions steps)) where
      past_words : steps_refusal library words definitions params steps ≡ o'
      past_words = none_before (words_refusals words params steps) (uses_refusals library definitions steps) (said ∙ e)
          ∙ sym h'

      pub refused_uses : (r : Refusal) → o' ≡ Some r → steps_refusal library words definitions params steps ≡ Some r
      refused_uses r e' = past_words ∙ e'

      pub not_refused : o' ≡ None → steps_refusal library words definitions params steps ≡ None
      not_refused e' = past_words ∙ e'

      pub rightly : o' ≡ None → IsRightly
      rightly e' =
          let a = one_passed NoSuchDomain (list_any (is_domain_missing words) steps)
          (when NoSuchRelation (list_any (is_relation_missing words) steps) ∷ when NoSuchCell
          (is_cell_missing params steps) ∷ []) (said ∙ e) in
          let b = one_passed NoSuchRelation (list_any (is_relation_missing words) steps)
          (when NoSuchCell (is_cell_missing params steps) ∷ []) a.1 in
          let c = one_passed NoSuchCell (is_cell_missing params steps) [] b.1 in
          let d = one_passed NoSuchProcedure (list_any (is_unknown library definitions) steps)
          (when WrongCount (list_any (is_count_wrong library definitions) steps) ∷ when (LimitReached TooMany)
          (nat_le (most TooMany) (length definitions.definitions)) ∷ []) (sym h' ∙ e') in
          let f = one_passed WrongCount (list_any (is_count_wrong library definitions) steps)
          (when (LimitReached TooMany) (nat_le (most TooMany) (length definitions.definitions)) ∷ []) d.1 in
          record { cells = c.0; procedures = d.0; counts = f.0 }

module _ (library : List Stored) (words : Vocabulary) (definitions : Definitions) (name : List ℕ)
    (params : List (List ℕ)) (steps : List commands.Step) where
  -- a name that is taken is refused before all else
  pub refused_name : is_name_taken library definitions name params steps ≡ true
      → define_refusal library words definitions name params steps ≡ Some NameTaken
  refused_name e =
      stops NameTaken (is_name_taken library definitions name params steps)
      (words_refusals words params steps ++ uses_refusals library definitions steps) e

  pub why_named : (e : Refusal) → ((e ≡ NameTaken) × (is_name_taken library definitions name params steps ≡ true))
      ⊎ (e ≡ Memory) → (define_refusal library words definitions name params steps ≡ Some e) ⊎ (e ≡ Memory)
  why_named e (inl h) = inl (refused_name h.1 ∙ ap (λ r. Some r) (sym h.0))
  why_named e (inr h) = inr h

  -- what is not refused has a new name
  pub new_name : define_refusal library words definitions name params steps ≡ None
      → number_in definitions.names name ≡ None
  new_name e =
      let taken = one_passed NameTaken (is_name_taken library definitions name params steps)
      (words_refusals words params steps ++ uses_refusals library definitions steps) e in
      let a = or_parts (is_some (procedure_number library name))
      (is_some (number_in definitions.names name) || has_repeat (scope_of params steps)) taken.0 in
      let b = or_parts (is_some (number_in definitions.names name)) (has_repeat (scope_of params steps)) a.1 in
      absent (number_in definitions.names name) b.0
    where
      absent : (o : Option ℕ) → is_some o ≡ false → o ≡ None
      absent None h = refl
      absent (Some n) h = cc

-- the name is taken, or not, by a procedure, a definition, or among its own parameters and locals
module _ (library : List Stored) (definitions : Definitions) (name : List ℕ) (params : List (List ℕ))
    (steps : List commands.Step) where
  pub taken_procedure : is_some (procedure_number library name) ≡ true
      → is_name_taken library definitions name params steps ≡ true
  taken_procedure e = or_left _ _ e

  pub taken_definition : is_some (number_in definitions.names name) ≡ true
      → is_name_taken library definitions name params steps ≡ true
  taken_definition e = or_right (is_some (procedure_number library name)) _ (or_left _ _ e)

  module _ (procedure : is_some (procedure_number library name) ≡ false)
      (definition : is_some (number_in definitions.names name) ≡ false) where
    same_repeat : is_name_taken library definitions name params steps ≡ has_repeat (scope_of params steps)
    same_repeat = (λ i. procedure i || (definition i || has_repeat (scope_of params steps)))

    pub taken_pushed : {X : Type 0} (r : Result X Refusal) → OnOk r (has_repeat (scope_of params steps) ≡ false)
        → OnOk r (is_name_taken library definitions name params steps ≡ false)
    taken_pushed (Ok x) h = same_repeat ∙ h
    taken_pushed (Err e) h = h

    pub taken_why : {X : Type 0} (r : Result X Refusal)
        → IfErr r (λ e. ((e ≡ NameTaken) × (has_repeat (scope_of params steps) ≡ true)) ⊎ (e ≡ Memory))
        → IfErr r (λ e. ((e ≡ NameTaken) × (is_name_taken library definitions name params steps ≡ true)) ⊎ (e ≡ Memory))
    taken_why (Ok x) h = h
    taken_why (Err e) h = taken_then e (λ again. same_repeat ∙ again) h

-- what is said of the rest where the name is new
module _ (library : List Stored) (words : Vocabulary) (definitions : Definitions) (name : List ℕ)
    (params : List (List ℕ)) (steps : List commands.Step)
    (new : is_name_taken library definitions name params steps ≡ false) where
  pub fits_named : {X : Type 0} (r : Result X Refusal)
      → OnOk r (steps_refusal library words definitions params steps ≡ None)
      → OnOk r (define_refusal library words definitions name params steps ≡ None)
  fits_named (Ok x) h =
      passes NameTaken (is_name_taken library definitions name params steps)
      (words_refusals words params steps ++ uses_refusals library definitions steps) None new h
  fits_named (Err e) h = h

  pub why_rest : {X : Type 0} (r : Result X Refusal)
      → IfErr r (IsReason (steps_refusal library words definitions params steps))
      → IfErr r (IsReason (define_refusal library words definitions name params steps))
  why_rest (Ok x) h = h
  why_rest (Err e) (inl h) =
      inl (passes NameTaken (is_name_taken library definitions name params steps)
      (words_refusals words params steps ++ uses_refusals library definitions steps) (Some e) new h)
  why_rest (Err e) (inr h) = inr h
