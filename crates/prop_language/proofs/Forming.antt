-- What the parts of a form make together.
use Rattle.std.proofs.Common.{◌≡◌, ℕ, List, [], ◌∷◌, ◌++◌, Bool, true, false, cond, refl, sym, ◌∙◌, ap, arith, Some}
use Rattle.std.proofs.Common.{None, Ok, Err, inl, inr}
use Rattle.std.specs.Prelude.{Option, Result, ⊤, ◌⊎◌, ◌≢◌, Contains, bytes_eq, codes, not, ◌&&◌}
use Rattle.std.specs.Option.{option_map, option_and_then}
use Rattle.std.specs.List.{list_all}
use Rattle.std.proofs.lemmas.Bool.{false≢true}
use Rattle.std.proofs.lemmas.List.Folds.{list_all-append}
use Rattle.prop_refusals.specs.declared.refusal.Refusal.{Refusal}
use Rattle.prop_refusals.specs.declared.refusal.Refusal.TheVariants.{WrongForm, NotAName, NotANumber, Memory}
use Rattle.prop_language.specs.Tokens.{Token, Word, Open, Close, Semicolon, Equals}
use Rattle.prop_language.specs.Names.{is_name}
use Rattle.prop_language.specs.Commands.{Value, KindWord, By, Passed, Step, Command}
use Rattle.prop_language.specs.inner.Forms.{join, only_words, domain, pairs, relation, kind_word, cell, tell, values}
use Rattle.prop_language.specs.inner.Forms.{in_braces, one_value, only_value, cells_by, by_form, attach, with_cell}
use Rattle.prop_language.specs.inner.Forms.{passed_form, use_step}
use Rattle.prop_language.specs.inner.Grammar.{kind_names, by_names, is_by_in_range, passed_names, is_passed_in_range}
use Rattle.prop_language.specs.inner.Parsing.{command_in_form}
use Rattle.prop_language.specs.inner.Parts.{front, one_word, are_words, front_words, before_pairs, behind_by, given}
use Rattle.prop_language.specs.inner.Parts.{before_by, judged, step_in_form, BeginsOpen}

-- ---- values

-- the values, where there are any, are one or more
abbrev pub Filled : Option (List Value) → Type 0
Filled None = ⊤
Filled (Some []) = ⊥
Filled (Some (v ∷ vs)) = ⊤

filled_join : (v : Value) (vs : Option (List Value)) → Filled (join (Some v) vs)
filled_join v None = tt
filled_join v (Some vs) = tt

filled_in : (ws : List (List ℕ)) (ts : List Token) → Filled (in_braces ws ts)
filled_in ws [] = tt
filled_in ws (Word w ∷ ts) = filled_in (ws ++ w ∷ []) ts
filled_in ws (Close ∷ ts) = filled_join _ (values ts)
filled_in ws (t ∷ ts) = tt

pub filled : (ts : List Token) → ts ≢ [] → Filled (values ts)
filled [] h = absurd (h refl)
filled (Word w ∷ ts) h = filled_join _ (values ts)
filled (Open ∷ ts) h = filled_in [] ts
filled (t ∷ ts) h = tt

-- a value and more is not one value
two : (v : Value) (vs : Option (List Value)) → Filled vs → option_and_then one_value (join (Some v) vs) ≡ None
two v None h = refl
two v (Some []) h = absurd h
two v (Some (u ∷ vs)) h = refl

pub more_than_one : (ts rest : List Token) (v : Value) → values ts ≡ join (Some v) (values rest) → rest ≢ []
    → only_value ts ≡ None
more_than_one ts rest v e h = ap (option_and_then one_value) e ∙ two v (values rest) (filled rest h)

-- ---- open braces

opened : (t u : Token) (ts : List Token) → BeginsOpen ts → Contains (t ∷ u ∷ ts) Open
opened t u (Open ∷ ts) h = (2, omega arith, refl)
opened t u ts h = absurd h

pub opened_behind : (ts rest : List Token) (p x : List ℕ) → ts ≡ Word p ∷ Word x ∷ rest → BeginsOpen rest
    → Contains ts Open
opened_behind ts rest p x e h = rw e (opened (Word p) (Word x) rest h)

-- ---- names

pub not_all : {X : Type 0} (p : X → Bool) (xs : List X) (y : X) (ys : List X) → p y ≡ false
    → list_all p (xs ++ y ∷ ys) ≡ false
not_all p [] y ys h = rw h refl
not_all p (x ∷ xs) y ys h = rw (not_all p xs y ys h) (never (p x))
  where
    never : (b : Bool) → (b && false) ≡ false
    never true = refl
    never false = refl

-- the refusal for names
pub unnamed : {X : Type 0} (names : List (List ℕ)) (in_range : Bool) (read : X) (refusal : Refusal)
    → (refusal ≡ NotAName) × (list_all is_name names ≡ false) → judged names in_range read ≡ Err refusal
unnamed names in_range read refusal h =
    ap (λ b. cond (not b) (Err NotAName) (cond (not in_range) (Err NotANumber) (Ok read))) h.1 ∙ ap Err (sym h.0)

pub all_named : {X : Type 0} (names : List (List ℕ)) (read : X) → list_all is_name names ≡ true
    → judged names true read ≡ Ok read
all_named names read h =
    ap (λ b. cond (not b) (Err NotAName) (cond (not true) (Err NotANumber) (Ok read))) h

pub first_unnamed : (n : List ℕ) (xs : List (List ℕ)) → is_name n ≡ false → list_all is_name (n ∷ xs) ≡ false
first_unnamed n xs h = rw h refl

pub others_unnamed : (n : List ℕ) (xs : List (List ℕ)) → is_name n ≡ true → list_all is_name xs ≡ false
    → list_all is_name (n ∷ xs) ≡ false
others_unnamed n xs e h = rw (e, h) refl

pub both_named : (n : List ℕ) (xs : List (List ℕ)) → is_name n ≡ true → list_all is_name xs ≡ true
    → list_all is_name (n ∷ xs) ≡ true
both_named n xs e h = rw (e, h) refl

-- ---- forms

-- the refusal of another form
pub misread : (o : Option Command) (refusal : Refusal) → (refusal ≡ WrongForm) × (o ≡ None)
    → command_in_form o ≡ Err refusal
misread o refusal h = ap command_in_form h.1 ∙ ap Err (sym h.0)

-- there are no two words in front
abbrev pub LacksTwo : List Token → Type 0
LacksTwo ts = option_and_then (λ (found : List ℕ × List Token). front found.1) (front ts) ≡ None

pub lacks_second_word : (ts behind : List Token) (a : List ℕ) → ts ≡ Word a ∷ behind → front behind ≡ None → LacksTwo ts
lacks_second_word ts behind a e h = rw e h

pub no_attach : (ts : List Token) → LacksTwo ts → attach ts ≡ None
no_attach [] h = refl
no_attach (Word a ∷ []) h = refl
no_attach (Word a ∷ Word b ∷ ts) h = cc
no_attach (Word a ∷ t ∷ ts) h = refl
no_attach (t ∷ ts) h = refl

pub no_tell : (ts : List Token) → LacksTwo ts → tell ts ≡ None
no_tell [] h = refl
no_tell (Word a ∷ []) h = refl
no_tell (Word a ∷ Word b ∷ ts) h = cc
no_tell (Word a ∷ t ∷ ts) h = refl
no_tell (t ∷ ts) h = refl

pub no_cell : (ts : List Token) → front ts ≡ None → cell ts ≡ None
no_cell [] h = refl
no_cell (Word a ∷ ts) h = cc
no_cell (t ∷ ts) h = refl

pub no_kind : (a : List ℕ) (ts : List Token) → one_word ts ≡ None → cell (Word a ∷ ts) ≡ None
no_kind a [] h = refl
no_kind a (Word b ∷ []) h = cc
no_kind a (Word b ∷ t ∷ ts) h = refl
no_kind a (t ∷ ts) h = refl

-- a cell's words
pub cell_unnamed : (ts : List Token) (x k : List ℕ) (refusal : Refusal) → ts ≡ Word x ∷ Word k ∷ []
    → (refusal ≡ NotAName) × (list_all is_name (x ∷ kind_names (kind_word k)) ≡ false)
    → command_in_form (cell ts) ≡ Err refusal
cell_unnamed ts x k refusal e h =
    ap (λ l. command_in_form (cell l)) e
    ∙ unnamed (x ∷ kind_names (kind_word k)) true (Some (Command.Cell x (kind_word k))) refusal h

pub cell_read : (ts : List Token) (x k : List ℕ) (kind : KindWord) → ts ≡ Word x ∷ Word k ∷ [] → kind_word k ≡ kind
    → list_all is_name (x ∷ kind_names kind) ≡ true → command_in_form (cell ts) ≡ Ok (Some (Command.Cell x kind))
cell_read ts x k kind e f h =
    ap (λ l. command_in_form (cell l)) e ∙ ap (λ kind. command_in_form (Some (Command.Cell x kind))) f
    ∙ all_named (x ∷ kind_names kind) (Some (Command.Cell x kind)) h

-- what is told
pub nothing_told : (ts rest : List Token) (p x : List ℕ) (refusal : Refusal) → ts ≡ Word p ∷ Word x ∷ rest
    → (refusal ≡ Memory) ⊎ ((refusal ≡ WrongForm) × (only_value rest ≡ None))
    → (refusal ≡ Memory) ⊎ (command_in_form (tell ts) ≡ Err refusal)
nothing_told ts rest p x refusal e (inl memory) = inl memory
nothing_told ts rest p x refusal e (inr h) =
    inr (misread (tell ts) refusal (h.0, ap tell e ∙ ap (option_map (Command.Tell p x)) h.1))

told : (ts rest : List Token) (p x : List ℕ) (v : Value) → ts ≡ Word p ∷ Word x ∷ rest → only_value rest ≡ Some v
    → tell ts ≡ Some (Command.Tell p x v)
told ts rest p x v e f = ap tell e ∙ ap (option_map (Command.Tell p x)) f

pub tell_unnamed : (ts rest : List Token) (p x : List ℕ) (v : Value) (refusal : Refusal) → ts ≡ Word p ∷ Word x ∷ rest
    → only_value rest ≡ Some v → (refusal ≡ NotAName) × (list_all is_name (p ∷ x ∷ []) ≡ false)
    → command_in_form (tell ts) ≡ Err refusal
tell_unnamed ts rest p x v refusal e f h =
    ap command_in_form (told ts rest p x v e f) ∙ unnamed (p ∷ x ∷ []) true (Some (Command.Tell p x v)) refusal h

pub tell_read : (ts rest : List Token) (p x : List ℕ) (v : Value) → ts ≡ Word p ∷ Word x ∷ rest
    → only_value rest ≡ Some v → list_all is_name (p ∷ x ∷ []) ≡ true
    → command_in_form (tell ts) ≡ Ok (Some (Command.Tell p x v))
tell_read ts rest p x v e f h =
    ap command_in_form (told ts rest p x v e f) ∙ all_named (p ∷ x ∷ []) (Some (Command.Tell p x v)) h

-- ---- cells, and what follows them

map_map : {A B C : Type 0} (f : B → C) (g : A → B) (o : Option A)
    → option_map f (option_map g o) ≡ option_map (λ a. f (g a)) o
map_map f g None = refl
map_map f g (Some a) = refl

-- the cells are those before the first `by`
pub cells_are : {P : Type 0} (read : Option (List Token) → Option P) (ts : List Token)
    → cells_by read ts ≡ option_map (λ by. (before_by ts, by)) (given read ts)
cells_are read [] = refl
cells_are read (Word w ∷ ts) = by_first (bytes_eq w (codes "by")) (cells_are read ts)
  where
    by_first : (b : Bool) → cells_by read ts ≡ option_map (λ by. (before_by ts, by)) (given read ts)
        → cond b (option_map (λ by. ([], by)) (read (Some ts)))
        (option_map (with_cell w) (cells_by read ts)) ≡ option_map (λ by. (cond b [] (w ∷ before_by ts), by))
        (option_and_then read (cond b (Some (Some ts)) (behind_by ts)))
    by_first true more = refl
    by_first false more = ap (option_map (with_cell w)) more
        ∙ map_map (with_cell w) (λ by. (before_by ts, by)) (given read ts)
cells_are read (t ∷ ts) = refl

-- ---- names before numbers

-- a word among the first that is no name
unnamed_front : {X : Type 0} (front more : List (List ℕ)) (in_range : Bool) (read : X) → list_all is_name front ≡ false
    → judged (front ++ more) in_range read ≡ Err NotAName
unnamed_front front more in_range read h = rw (list_all-append is_name front more, h) refl

named_front : {X : Type 0} (front more : List (List ℕ)) (in_range : Bool) (read : X) → list_all is_name front ≡ true
    → judged (front ++ more) in_range read ≡ judged more in_range read
named_front front more in_range read h = rw (list_all-append is_name front more, h) refl

-- a part's refusal is that of the whole
pub part_refused : {X Y : Type 0} (names : List (List ℕ)) (in_range : Bool) (part : X) (whole : Y) (refusal : Refusal)
    → judged names in_range part ≡ Err refusal → judged names in_range whole ≡ Err refusal
part_refused names in_range part whole refusal h = at (not (list_all is_name names)) (not in_range) h
  where
    at : (unnamed outside : Bool) → cond unnamed (Err NotAName) (cond outside (Err NotANumber) (Ok part)) ≡ Err refusal
        → cond unnamed (Err NotAName) (cond outside (Err NotANumber) (Ok whole)) ≡ Err refusal
    at true outside h = cc
    at false true h = cc
    at false false h = cc

pub part_judged : {X Y : Type 0} (names : List (List ℕ)) (in_range : Bool) (part part' : X) (made : X → Y)
    → judged names in_range part ≡ Ok part' → judged names in_range (made part) ≡ Ok (made part')
part_judged {X = X} {Y = Y} names in_range part part' made h = at (not (list_all is_name names)) (not in_range) h
  where
    at : (unnamed outside : Bool) → cond {A = Result X Refusal} unnamed (Err NotAName)
        (cond outside (Err NotANumber) (Ok part)) ≡ Ok part'
        → cond {A = Result Y Refusal} unnamed (Err NotAName) (cond outside (Err NotANumber) (Ok (made part))) ≡ Ok
        (made part')
    at true outside h = cc
    at false true h = cc
    at false false h = cc

-- ---- uses: a name, cells, and what follows them

-- a use by these names and this parameter, if it has one that is well formed
pub used : {P Y : Type 0} → (P → List (List ℕ)) → (P → Bool) → (P → Y) → List (List ℕ) → Option P → Result Y Refusal
used names in_range made front None = Err WrongForm
used names in_range made front (Some by) = judged (front ++ names by) (in_range by) (made by)

-- the tokens begin with a name and a cell
abbrev pub Uses : (ts rest : List Token) (n x : List ℕ) → Type 0
Uses ts rest n x = ts ≡ Word n ∷ Word x ∷ rest

pub attach_used : (ts rest : List Token) (n x : List ℕ) → Uses ts rest n x
    → command_in_form (attach ts) ≡ used by_names is_by_in_range (λ by. Some (Command.Attach n (x ∷ before_by rest) by))
    (n ∷ x ∷ before_by rest) (given by_form rest)
unfolding used
attach_used ts rest n x u = rw (u, cells_are by_form rest) (at (given by_form rest))
  where
    at : (o : Option By) → command_in_form
        (option_map (λ (r : List (List ℕ) × By). Command.Attach n (x ∷ r.0) r.1)
        (option_map (λ by. (before_by rest, by)) o)) ≡ used by_names is_by_in_range
        (λ by. Some (Command.Attach n (x ∷ before_by rest) by)) (n ∷ x ∷ before_by rest) o
    at None = refl
    at (Some by) = refl

pub step_used : (ts rest : List Token) (n x : List ℕ) → Uses ts rest n x
    → step_in_form (use_step ts) ≡ used passed_names is_passed_in_range (Step.Use n (x ∷ before_by rest))
    (n ∷ x ∷ before_by rest) (given passed_form rest)
unfolding used
step_used ts rest n x u = rw (u, cells_are passed_form rest) (at (given passed_form rest))
  where
    at : (o : Option Passed) → step_in_form
        (option_map (λ (r : List (List ℕ) × Passed). Step.Use n (x ∷ r.0) r.1)
        (option_map (λ by. (before_by rest, by)) o)) ≡ used passed_names is_passed_in_range
        (Step.Use n (x ∷ before_by rest)) (n ∷ x ∷ before_by rest) o
    at None = refl
    at (Some by) = refl

-- what is read of the use, by its name, its cells and its parameter
module _ {P Y : Type 0} (names : P → List (List ℕ)) (in_range : P → Bool) (made : P → Y) where
  pub use_misformed : (whole : Result Y Refusal) (front : List (List ℕ)) (o : Option P) (refusal : Refusal)
      → whole ≡ used names in_range made front o → (refusal ≡ WrongForm) × (o ≡ None) → whole ≡ Err refusal
  unfolding used
  use_misformed whole front o refusal w h = w ∙ ap (used names in_range made front) h.1 ∙ ap Err (sym h.0)

  pub names_refused : (whole : Result Y Refusal) (ns : List (List ℕ)) (o : Option P) (by : P) (refusal : Refusal)
      → whole ≡ used names in_range made ns o
      → o ≡ Some by → (refusal ≡ Memory) ⊎ ((refusal ≡ NotAName) × (list_all is_name ns ≡ false))
      → (refusal ≡ Memory) ⊎ (whole ≡ Err refusal)
  unfolding used
  names_refused whole ns o by refusal w e (inl memory) = inl memory
  names_refused whole ns o by refusal w e (inr h) = inr
      (w ∙ ap (used names in_range made ns) e ∙ unnamed_front ns (names by) (in_range by) (made by) h.1
      ∙ ap Err (sym h.0))

  pub parameter_refused : (whole : Result Y Refusal) (ns : List (List ℕ)) (o : Option P) (by : P) (refusal : Refusal)
      → whole ≡ used names in_range made ns o → o ≡ Some by → list_all is_name ns ≡ true
      → judged (names by) (in_range by) by ≡ Err refusal → whole ≡ Err refusal
  unfolding used
  parameter_refused whole ns o by refusal w e h wrong =
      w ∙ ap (used names in_range made ns) e ∙ named_front ns (names by) (in_range by) (made by) h
      ∙ part_refused (names by) (in_range by) by (made by) refusal wrong

  pub use_read : (whole : Result Y Refusal) (ns : List (List ℕ)) (o : Option P) (by by' : P)
      → whole ≡ used names in_range made ns o → o ≡ Some by → list_all is_name ns ≡ true
      → judged (names by) (in_range by) by ≡ Ok by' → whole ≡ Ok (made by')
  unfolding used
  use_read whole ns o by by' w e h right =
      w ∙ ap (used names in_range made ns) e ∙ named_front ns (names by) (in_range by) (made by) h
      ∙ part_judged (names by) (in_range by) by by' made right

-- the refusal of a name among others
pub name_refused : (xs : List (List ℕ)) (y by_word : List ℕ) (ts rest : List Token) (all : List (List ℕ))
    (refusal : Refusal) → ts ≡ Word y ∷ rest → by_word ≡ codes "by" → false ≡ bytes_eq y by_word
    → xs ++ before_by ts ≡ all → (refusal ≡ Memory) ⊎ ((refusal ≡ NotAName) × (is_name y ≡ false))
    → (refusal ≡ Memory) ⊎ ((refusal ≡ NotAName) × (list_all is_name all ≡ false))
name_refused xs y by_word ts rest all refusal e b f all_is (inl memory) = inl memory
name_refused xs y by_word ts rest all refusal e b f all_is (inr h) =
    let next : before_by ts ≡ y ∷ before_by rest = rw (e, ← b, ← f) refl in
    inr (h.0, ap (list_all is_name) (sym all_is ∙ ap (λ l. xs ++ l) next) ∙ not_all is_name xs y (before_by rest) h.1)

-- the refusal of the first name
pub first_refused : (y : List ℕ) (others : List (List ℕ)) (refusal : Refusal)
    → (refusal ≡ Memory) ⊎ ((refusal ≡ NotAName) × (is_name y ≡ false))
    → (refusal ≡ Memory) ⊎ ((refusal ≡ NotAName) × (list_all is_name (y ∷ others) ≡ false))
first_refused y others refusal (inl memory) = inl memory
first_refused y others refusal (inr h) = inr (h.0, first_unnamed y others h.1)

-- the refusal of the other names
pub others_refused : (y : List ℕ) (others : List (List ℕ)) (refusal : Refusal) → is_name y ≡ true
    → (refusal ≡ Memory) ⊎ ((refusal ≡ NotAName) × (list_all is_name others ≡ false))
    → (refusal ≡ Memory) ⊎ ((refusal ≡ NotAName) × (list_all is_name (y ∷ others) ≡ false))
others_refused y others refusal e (inl memory) = inl memory
others_refused y others refusal e (inr h) = inr (h.0, others_unnamed y others e h.1)

-- ---- domains

words_are : (ts : List Token) → are_words ts ≡ true → only_words ts ≡ Some (front_words ts)
words_are [] h = refl
words_are (Word w ∷ ts) h = ap (join (Some w)) (words_are ts h)
words_are (t ∷ ts) h = absurd (false≢true h)

no_words : (ts : List Token) → are_words ts ≡ false → only_words ts ≡ None
no_words [] h = absurd (false≢true (sym h))
no_words (Word w ∷ ts) h = ap (join (Some w)) (no_words ts h)
no_words (t ∷ ts) h = refl

-- the form of a domain, behind whose name stands a word
abbrev pub Declares : (ts elements others : List Token) (n e : List ℕ) → Type 0
Declares ts elements others n e = (ts ≡ Word n ∷ elements) × (elements ≡ Word e ∷ others)

-- a mark among a domain's elements
pub no_domain : (ts elements others : List Token) (n e : List ℕ) → Declares ts elements others n e
    → are_words elements ≡ false → domain ts ≡ None
no_domain ts elements others n e d h =
    rw (d.0, d.1) (ap (option_map (λ es. Command.Domain n (e ∷ es))) (no_words others (sym (ap are_words d.1) ∙ h)))

pub domain_formed : (ts elements others : List Token) (n e : List ℕ) → Declares ts elements others n e
    → are_words elements ≡ true → domain ts ≡ Some (Command.Domain n (front_words elements))
domain_formed ts elements others n e d h =
    rw (d.0, d.1) (ap (option_map (λ es. Command.Domain n (e ∷ es))) (words_are others (sym (ap are_words d.1) ∙ h)))

-- the refusal of a domain's name or elements
pub elements_refused : (ts elements : List Token) (n : List ℕ) (refusal : Refusal)
    → domain ts ≡ Some (Command.Domain n (front_words elements))
    → (refusal ≡ Memory) ⊎ ((refusal ≡ NotAName) × (list_all is_name (n ∷ front_words elements) ≡ false))
    → (refusal ≡ Memory) ⊎ (command_in_form (domain ts) ≡ Err refusal)
elements_refused ts elements n refusal d (inl memory) = inl memory
elements_refused ts elements n refusal d (inr h) =
    inr (ap command_in_form d ∙ unnamed (n ∷ front_words elements) true (Some (Command.Domain n (front_words elements)))
    refusal h)

pub domain_read : (ts elements : List Token) (n : List ℕ) → domain ts ≡ Some (Command.Domain n (front_words elements))
    → list_all is_name (n ∷ front_words elements) ≡ true
    → command_in_form (domain ts) ≡ Ok (Some (Command.Domain n (front_words elements)))
domain_read ts elements n d h =
    ap command_in_form d ∙ all_named (n ∷ front_words elements) (Some (Command.Domain n (front_words elements))) h

-- the refusal of an element among others
pub element_refused : (xs : List (List ℕ)) (y : List ℕ) (ts rest : List Token) (all : List (List ℕ)) (refusal : Refusal)
    → ts ≡ Word y ∷ rest → xs ++ front_words ts ≡ all
    → (refusal ≡ Memory) ⊎ ((refusal ≡ NotAName) × (is_name y ≡ false))
    → (refusal ≡ Memory) ⊎ ((refusal ≡ NotAName) × (list_all is_name all ≡ false))
element_refused xs y ts rest all refusal e all_is (inl memory) = inl memory
element_refused xs y ts rest all refusal e all_is (inr h) =
    inr (
      h.0,
      ap (list_all is_name) (sym all_is ∙ ap (λ l. xs ++ front_words l) e)
          ∙ not_all is_name xs y (front_words rest) h.1,
    )

-- ---- pairs

none_after : (ps : List (List ℕ × List ℕ)) → before_pairs ps None ≡ None
none_after [] = refl
none_after (p ∷ ps) = ap (join (Some p)) (none_after ps)

one_more : (ps : List (List ℕ × List ℕ)) (p : List ℕ × List ℕ) (others : Option (List (List ℕ × List ℕ)))
    → before_pairs (ps ++ p ∷ []) others ≡ before_pairs ps (join (Some p) others)
one_more [] p others = refl
one_more (q ∷ ps) p others = ap (join (Some q)) (one_more ps p others)

all_before : (ps qs : List (List ℕ × List ℕ)) → before_pairs ps (Some qs) ≡ Some (ps ++ qs)
all_before [] qs = refl
all_before (p ∷ ps) qs = ap (join (Some p)) (all_before ps qs)

pub no_pair : (ts : List Token) → LacksTwo ts → pairs ts ≡ None
no_pair [] h = refl
no_pair (Word a ∷ []) h = refl
no_pair (Word a ∷ Word b ∷ ts) h = cc
no_pair (Word a ∷ t ∷ ts) h = refl
no_pair (t ∷ ts) h = refl

-- the pairs so far and those to come are all pairs
abbrev pub Remain : (ps : List (List ℕ × List ℕ)) (ts all : List Token) → Type 0
Remain ps ts all = before_pairs ps (pairs ts) ≡ pairs all

pub none_remain : (ps : List (List ℕ × List ℕ)) (ts all : List Token) (refusal : Refusal) → Remain ps ts all
    → (refusal ≡ WrongForm) × (pairs ts ≡ None) → (refusal ≡ Memory) ⊎ ((refusal ≡ WrongForm) × (pairs all ≡ None))
none_remain ps ts all refusal r h = inr (h.0, sym r ∙ ap (before_pairs ps) h.1 ∙ none_after ps)

-- the pairs so far, and one that is read
abbrev pub IsNext : (ps qs : List (List ℕ × List ℕ)) (ts rest : List Token) (a b : List ℕ) → Type 0
IsNext ps qs ts rest a b = (ts ≡ Word a ∷ Word b ∷ rest) × (qs ≡ ps ++ (a, b) ∷ [])

pub one_more_remains : (ps qs : List (List ℕ × List ℕ)) (ts rest behind all : List Token) (a b : List ℕ)
    → IsNext ps qs ts rest a b → rest ≡ Semicolon ∷ behind → Remain ps ts all → Remain qs behind all
one_more_remains ps qs ts rest behind all a b n e r =
    let here : pairs ts ≡ join (Some (a, b)) (pairs behind) = rw (n.0, e) refl in
    ap (λ l. before_pairs l (pairs behind)) n.1 ∙ one_more ps (a, b) (pairs behind) ∙ ap (before_pairs ps) (sym here)
    ∙ r

pub no_more_remain : (ps qs : List (List ℕ × List ℕ)) (ts rest all : List Token) (a b : List ℕ)
    → IsNext ps qs ts rest a b → rest ≡ [] → Remain ps ts all → pairs all ≡ Some qs
no_more_remain ps qs ts rest all a b n e r =
    let last : pairs ts ≡ Some ((a, b) ∷ []) = rw (n.0, e) refl in
    sym r ∙ ap (before_pairs ps) last ∙ all_before ps ((a, b) ∷ []) ∙ ap Some (sym n.1)

-- ---- relations

pub no_relation : (ts : List Token) → front ts ≡ None → relation ts ≡ None
no_relation [] h = refl
no_relation (Word w ∷ ts) h = cc
no_relation (t ∷ ts) h = refl

pub no_domains : (n : List ℕ) (ts : List Token) → LacksTwo ts → relation (Word n ∷ ts) ≡ None
no_domains n [] h = refl
no_domains n (Word a ∷ []) h = refl
no_domains n (Word a ∷ Word b ∷ ts) h = cc
no_domains n (Word a ∷ t ∷ ts) h = refl
no_domains n (t ∷ ts) h = refl

-- the front of a relation
abbrev pub Relates : (ts rest : List Token) (n d e : List ℕ) → Type 0
Relates ts rest n d e = ts ≡ Word n ∷ Word d ∷ Word e ∷ Equals ∷ rest

pub pairs_refused : (ts rest : List Token) (n d e : List ℕ) (refusal : Refusal) → Relates ts rest n d e
    → (refusal ≡ Memory) ⊎ ((refusal ≡ WrongForm) × (pairs rest ≡ None))
    → (refusal ≡ Memory) ⊎ (command_in_form (relation ts) ≡ Err refusal)
pairs_refused ts rest n d e refusal r (inl memory) = inl memory
pairs_refused ts rest n d e refusal r (inr h) =
    inr (misread (relation ts) refusal (h.0, ap relation r ∙ ap (option_map (Command.Relation n d e)) h.1))

related : (ts rest : List Token) (n d e : List ℕ) (ps : List (List ℕ × List ℕ)) → Relates ts rest n d e
    → pairs rest ≡ Some ps → relation ts ≡ Some (Command.Relation n d e ps)
related ts rest n d e ps r h = ap relation r ∙ ap (option_map (Command.Relation n d e)) h

pub relation_unnamed : (ts rest : List Token) (n d e : List ℕ) (ps : List (List ℕ × List ℕ)) (refusal : Refusal)
    → Relates ts rest n d e → pairs rest ≡ Some ps → (refusal ≡ NotAName) × (list_all is_name (n ∷ d ∷ e ∷ []) ≡ false)
    → command_in_form (relation ts) ≡ Err refusal
relation_unnamed ts rest n d e ps refusal r f h =
    ap command_in_form (related ts rest n d e ps r f)
    ∙ unnamed (n ∷ d ∷ e ∷ []) true (Some (Command.Relation n d e ps)) refusal h

pub relation_read : (ts rest : List Token) (n d e : List ℕ) (ps : List (List ℕ × List ℕ)) → Relates ts rest n d e
    → pairs rest ≡ Some ps → list_all is_name (n ∷ d ∷ e ∷ []) ≡ true
    → command_in_form (relation ts) ≡ Ok (Some (Command.Relation n d e ps))
relation_read ts rest n d e ps r f h =
    ap command_in_form (related ts rest n d e ps r f) ∙ all_named (n ∷ d ∷ e ∷ []) (Some (Command.Relation n d e ps)) h
