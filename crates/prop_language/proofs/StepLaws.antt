-- What the parts of a definition make together.
use Rattle.std.proofs.Common.{◌≡◌, ◌≢◌, ℕ, ◌+◌, ◌<◌, List, [], ◌∷◌, ◌++◌, append-nil, length, take, drop, get_or, map}
use Rattle.std.proofs.Common.{Bool, true, false, cond, refl, sym, ◌∙◌, ap, subst, arith, zero, suc, Some, None, Ok, Err}
use Rattle.std.proofs.Common.{inl, inr}
use Rattle.std.specs.Borrow.{Bor}
use Rattle.std.specs.Prelude.{Option, Result, ◌⊎◌, ◌==◌, ◌&&◌, not, bytes_eq, codes, flat_map}
use Rattle.std.specs.Option.{option_map, option_map_or, option_and_then, option_or}
use Rattle.std.specs.List.{list_all, slice_split, onto_first, before_first, after_first, position_or_len}
use Rattle.std.proofs.Math.Bool.{and-false}
use Rattle.std.proofs.lemmas.Bool.{false≢true}
use Rattle.std.proofs.lemmas.Bool.Decides.{eqb_tells}
use Rattle.std.proofs.lemmas.Grind.{flat_map-append}
use Rattle.std.proofs.lemmas.List.{map-append}
use Rattle.std.proofs.lemmas.List.Folds.{list_all-append}
use Rattle.std.proofs.lemmas.Slice.Eq.{bytes_eq-Decides}
use Rattle.prop_refusals.specs.declared.refusal.Refusal.{Refusal}
use Rattle.prop_refusals.specs.declared.refusal.Refusal.TheVariants.{WrongForm, NotAName, NotANumber, Memory}
use Rattle.prop_language.specs.Tokens.{Token, Word, Open, Close, Equals, Star, tokens, front_word, with_word, is_blank}
use Rattle.prop_language.specs.Tokens.{mark_of}
use Rattle.prop_language.specs.Names.{is_name}
use Rattle.prop_language.specs.Commands.{KindWord, Step, Command}
use Rattle.prop_language.specs.inner.Forms.{join, only_words, each, is_semicolon, is_equals, kind_word, cell}
use Rattle.prop_language.specs.inner.Forms.{local_of_kind, local_like, use_step, step, steps, define}
use Rattle.prop_language.specs.inner.Grammar.{kind_names, step_names, is_step_in_range}
use Rattle.prop_language.specs.inner.Parsing.{command_in_form}
use Rattle.prop_language.specs.Said.{step_of}
use Rattle.prop_language.specs.inner.Parts.{steps_said}
use Rattle.prop_language.specs.inner.Parts.{behind_word, front_words, judged, step_in_form, steps_in_range, body, Says}
use Rattle.prop_language.specs.declared.command.Step as kept
use Rattle.prop_language.proofs.Forming.{unnamed, all_named}

-- ---- the bytes of each step

is_cut : Option Token → Bool
is_cut None = false
is_cut (Some t) = is_semicolon t

no_cut : (x y z w : Bool) → is_cut (cond x (Some Open)
    (cond y (Some Close) (cond z (Some Equals) (cond w (Some Star) None)))) ≡ false
unfolding is_cut
no_cut true y z w = refl
no_cut false true z w = refl
no_cut false false true w = refl
no_cut false false false true = refl
no_cut false false false false = refl

cut_is : (b : ℕ) → is_cut (mark_of b) ≡ (b == 59)
unfolding is_cut
cut_is b = elim (eqb_tells b 59) [
  | inl p ↦ subst (λ n. is_cut (mark_of n) ≡ (n == 59)) (sym p.1) refl
  | inr p ↦ rw p.0 (no_cut (b == 123) (b == 125) (b == 61) (b == 42))
]

mark_cuts : (b : ℕ) (m : Token) → mark_of b ≡ Some m → (b == 59) ≡ is_semicolon m
unfolding is_cut
mark_cuts b m e = sym (cut_is b) ∙ ap is_cut e

other_cuts_not : (b : ℕ) → mark_of b ≡ None → (b == 59) ≡ false
unfolding is_cut
other_cuts_not b e = sym (cut_is b) ∙ ap is_cut e

blank_cuts_not : (b : ℕ) → is_blank b ≡ true → (b == 59) ≡ false
blank_cuts_not b h = elim (eqb_tells b 59) [
  | inl p ↦ absurd (false≢true (subst (λ n. is_blank n ≡ true) p.1 h))
  | inr p ↦ p.0
]

-- the parts of the bytes between semicolons
abbrev pub pieces : List ℕ → List (List ℕ)
pieces bytes = slice_split (λ b. b == 59) bytes

-- the first part and the others, and what they say of the words and marks
abbrev Cut : List ℕ → Type 0
Cut bytes =
    (part : List ℕ) × (parts : List (List ℕ)) × (pieces bytes ≡ part ∷ parts)
    × ((front_word bytes).0 ≡ (front_word part).0)
    × (slice_split is_semicolon (front_word bytes).1 ≡ (front_word part).1 ∷ map tokens parts)

with_words : (w v : List ℕ) (ts us : List Token) (rest : List (List Token)) → w ≡ v
    → slice_split is_semicolon ts ≡ us ∷ rest → slice_split is_semicolon (with_word (w, ts)) ≡ with_word (v, us) ∷ rest
with_words [] v ts us rest e h = h ∙ ap (λ v. with_word (v, us) ∷ rest) e
with_words (c ∷ w) v ts us rest e h =
    ap (onto_first (Word (c ∷ w))) h ∙ ap (λ v. with_word (v, us) ∷ rest) e

cut_tokens : (bytes : List ℕ) (k : Cut bytes) → slice_split is_semicolon (tokens bytes) ≡ tokens k.0 ∷ map tokens k.1
cut_tokens bytes k = with_words (front_word bytes).0 (front_word k.0).0 (front_word bytes).1 (front_word k.0).1
    (map tokens k.1) k.3 k.4

-- one byte more, which is no semicolon
cut_more : (b : ℕ) (bytes : List ℕ) (k : Cut bytes) → (b == 59) ≡ false → pieces (b ∷ bytes) ≡ (b ∷ k.0) ∷ k.1
cut_more b bytes k e = rw (e, k.2) refl

cut_blank : (b : ℕ) (bytes : List ℕ) → is_blank b ≡ true → Cut bytes → Cut (b ∷ bytes)
cut_blank b bytes e k =
    (b ∷ k.0, k.1, cut_more b bytes k (blank_cuts_not b e), rw e refl, rw e (cut_tokens bytes k))

cut_other : (b : ℕ) (bytes : List ℕ) → is_blank b ≡ false → mark_of b ≡ None → Cut bytes → Cut (b ∷ bytes)
cut_other b bytes e f k =
    (b ∷ k.0, k.1, cut_more b bytes k (other_cuts_not b f), rw (e, f) (ap (λ w. b ∷ w) k.3), rw (e, f) k.4)

cut_mark : (b : ℕ) (bytes : List ℕ) (m : Token) → is_blank b ≡ false → mark_of b ≡ Some m → Cut bytes
    → (semicolon : Bool) → is_semicolon m ≡ semicolon → Cut (b ∷ bytes)
cut_mark b bytes m e f k true s = (
  [],
  k.0 ∷ k.1,
  rw (mark_cuts b m f ∙ s, k.2) refl,
  rw (e, f) refl,
  rw (e, f, s) (ap (λ l. [] ∷ l) (cut_tokens bytes k)),
)
cut_mark b bytes m e f k false s = (
  b ∷ k.0,
  k.1,
  cut_more b bytes k (mark_cuts b m f ∙ s),
  rw (e, f) refl,
  rw (e, f, s) (ap (onto_first m) (cut_tokens bytes k)),
)

cut : (bytes : List ℕ) → Cut bytes
cut [] = ([], [], refl, refl, refl)
cut (b ∷ bytes) = at (is_blank b) (mark_of b) refl refl (cut bytes)
  where
    at : (blank : Bool) (mark : Option Token) → is_blank b ≡ blank → mark_of b ≡ mark → Cut bytes → Cut (b ∷ bytes)
    at true mark e f k = cut_blank b bytes e k
    at false None e f k = cut_other b bytes e f k
    at false (Some m) e f k = cut_mark b bytes m e f k (is_semicolon m) refl

-- the words and marks of the parts are the parts of the words and marks
tokens_cut : (bytes : List ℕ) → map tokens (pieces bytes) ≡ slice_split is_semicolon (tokens bytes)
tokens_cut bytes = let k = cut bytes in ap (map tokens) k.2 ∙ sym (cut_tokens bytes k)

parts_apart : (parts : List (Bor (List ℕ)))
    → map (λ part. tokens part.now) parts ≡ map tokens (map (λ part. part.now) parts)
parts_apart [] = refl
parts_apart (part ∷ parts) = ap (λ l. tokens part.now ∷ l) (parts_apart parts)

-- the steps of all parts are the steps
pub all_parts : (parts : List (Bor (List ℕ))) (bytes : List ℕ) → map (λ part. part.now) parts ≡ pieces bytes
    → each step (map (λ part. tokens part.now) parts) ≡ steps (tokens bytes)
all_parts parts bytes e =
    ap (each step) (parts_apart parts ∙ ap (map tokens) e ∙ tokens_cut bytes)

none_joined : {X : Type 0} (o : Option X) → join o None ≡ None
none_joined None = refl
none_joined (Some x) = refl

none_at : (parts : List (List ℕ)) (i : ℕ) (part : List ℕ) → i < length parts → part ≡ get_or parts i part
    → step (tokens part) ≡ None → each step (map tokens parts) ≡ None
none_at [] i part l e h = absurd (omega arith)
none_at (p ∷ parts) zero part l e h = rw (ap (λ w. step (tokens w)) (sym e) ∙ h) refl
none_at (p ∷ parts) (suc i) part l e h = rw (none_at parts i part (omega arith) e h) (none_joined (step (tokens p)))

-- a part without a form
pub misformed_among : (bytes : List ℕ) (i : ℕ) (part : List ℕ) (refusal : Refusal) → i < length (pieces bytes)
    → part ≡ get_or (pieces bytes) i part → (refusal ≡ Memory) ⊎ ((refusal ≡ WrongForm) × (step (tokens part) ≡ None))
    → (refusal ≡ Memory) ⊎ ((refusal ≡ WrongForm) × (steps (tokens bytes) ≡ None))
misformed_among bytes i part refusal l e (inl memory) = inl memory
misformed_among bytes i part refusal l e (inr h) =
    inr (h.0, ap (each step) (sym (tokens_cut bytes)) ∙ none_at (pieces bytes) i part l e h.1)

-- ---- what stands before the equals sign

pub words_alone : (ps : List (List ℕ)) → only_words (map Word ps) ≡ Some ps
words_alone [] = refl
words_alone (p ∷ ps) = ap (join (Some p)) (words_alone ps)

place_after : (t : Token) (ts : List Token) → is_equals t ≡ false
    → position_or_len is_equals (t ∷ ts) ≡ suc (position_or_len is_equals ts)
place_after t ts e = rw e (omega arith)

before_other : (t : Token) (ts : List Token) → is_equals t ≡ false
    → before_first is_equals (t ∷ ts) ≡ t ∷ before_first is_equals ts
before_other t ts e = ap (λ n. take n (t ∷ ts)) (place_after t ts e)

after_other : (t : Token) (ts : List Token) → is_equals t ≡ false
    → after_first is_equals (t ∷ ts) ≡ after_first is_equals ts
after_other t ts e =
    let next : suc (position_or_len is_equals ts) + 1 ≡ suc (position_or_len is_equals ts + 1) = omega arith in
    ap (λ n. drop (n + 1) (t ∷ ts)) (place_after t ts e) ∙ ap (λ n. drop n (t ∷ ts)) next

pub before_equals : (ps : List (List ℕ)) (rest : List Token)
    → before_first is_equals (map Word ps ++ Equals ∷ rest) ≡ map Word ps
before_equals [] rest = refl
before_equals (p ∷ ps) rest =
    before_other (Word p) (map Word ps ++ Equals ∷ rest) refl ∙ ap (λ l. Word p ∷ l) (before_equals ps rest)

pub after_equals : (ps : List (List ℕ)) (rest : List Token)
    → after_first is_equals (map Word ps ++ Equals ∷ rest) ≡ rest
after_equals [] rest = refl
after_equals (p ∷ ps) rest = after_other (Word p) (map Word ps ++ Equals ∷ rest) refl ∙ after_equals ps rest

-- words and an equals sign, or something else
pub data Head (ts : List Token) : Type 0 where
  Headed : (ps : List (List ℕ)) (rest : List Token) → ts ≡ map Word ps ++ Equals ∷ rest
      → before_first is_equals ts ≡ map Word ps → after_first is_equals ts ≡ rest → body ts ≡ Some rest
      → front_words ts ≡ ps → Head ts
  Headless : (only_words (before_first is_equals ts) ≡ None) ⊎ (after_first is_equals ts ≡ []) → body ts ≡ None
      → Head ts

mark_first : (t : Token) (ts : List Token) → is_equals t ≡ false → ((us : List Token) → only_words (t ∷ us) ≡ None)
    → only_words (before_first is_equals (t ∷ ts)) ≡ None
mark_first t ts e h = ap only_words (before_other t ts e) ∙ h (before_first is_equals ts)

pub head : (ts : List Token) → Head ts
head [] = Headless (inr refl) refl
head (Equals ∷ ts) = Headed [] ts refl refl refl refl refl
head (Word w ∷ ts) = more (head ts)
  where
    more : Head ts → Head (Word w ∷ ts)
    more (Headed ps rest e b a d f) =
        Headed (w ∷ ps) rest (ap (λ l. Word w ∷ l) e) (before_other (Word w) ts refl ∙ ap (λ l. Word w ∷ l) b)
        (after_other (Word w) ts refl ∙ a) d (ap (λ l. w ∷ l) f)
    more (Headless (inl none) d) =
        Headless (inl (ap only_words (before_other (Word w) ts refl) ∙ ap (join (Some w)) none)) d
    more (Headless (inr none) d) = Headless (inr (after_other (Word w) ts refl ∙ none)) d
head (t ∷ ts) = Headless (inl (mark_first t ts refl (λ us. refl))) refl

-- the front of a definition
abbrev pub Begins : (ts params others : List Token) (n p : List ℕ) → Type 0
Begins ts params others n p = (ts ≡ Word n ∷ params) × (params ≡ Word p ∷ others)

no_steps : {X : Type 0} (o : Option X) → option_and_then {U = Command} (λ x. None) o ≡ None
no_steps None = refl
no_steps (Some x) = refl

-- words and no equals sign behind them
pub bodiless : (n p : List ℕ) (others : List Token) → Head others → body others ≡ None
    → define (Word n ∷ Word p ∷ others) ≡ None
bodiless n p others (Headed ps rest e b a d f) h = cc
bodiless n p others (Headless (inl none) d) h = rw none refl
bodiless n p others (Headless (inr none) d) h = rw none (no_steps (only_words (before_first is_equals others)))

-- no equals sign follows the parameters
pub no_body : (ts params others : List Token) (n p : List ℕ) → Begins ts params others n p → body params ≡ None
    → define ts ≡ None
no_body ts params others n p b h = rw (b.0, b.1) (bodiless n p others (head others) (sym (ap body b.1) ∙ h))

pub bodied : (n p : List ℕ) (others rest : List Token) → Head others → body others ≡ Some rest
    → define (Word n ∷ Word p ∷ others) ≡ option_map (Command.Define n (p ∷ front_words others)) (steps rest)
bodied n p others rest (Headed ps rest' e b a d f) h =
    let same : rest' ≡ rest = cc in
    rw (b, words_alone ps, a, same, f) refl
bodied n p others rest (Headless none d) h = cc

-- what the words of a definition say
pub words_read : (ts params others rest : List Token) (n p : List ℕ) → Begins ts params others n p
    → body params ≡ Some rest → define ts ≡ option_map (Command.Define n (front_words params)) (steps rest)
words_read ts params others rest n p b h = rw (b.0, b.1) (bodied n p others rest (head others) (sym (ap body b.1) ∙ h))

-- ---- locals

behind_local : (ts rest : List Token) → Some rest ≡ behind_word (codes "local") ts → ts ≡ Word (codes "local") ∷ rest
behind_local [] rest h = cc
behind_local (Word w ∷ ts) rest h = by (bytes_eq w (codes "local")) refl h
  where
    by : (b : Bool) → bytes_eq w (codes "local") ≡ b → Some rest ≡ cond b (Some ts) None
        → Word w ∷ ts ≡ Word (codes "local") ∷ rest
    by true e h =
        let same : w ≡ codes "local" = (bytes_eq-Decides w (codes "local")).0 e in
        let left : ts ≡ rest = cc in
        ap (λ w. Word w ∷ ts) same ∙ ap (λ l. Word (codes "local") ∷ l) left
    by false e h = cc
behind_local (t ∷ ts) rest h = cc

no_kind : (rest : List Token) → cell rest ≡ None → local_of_kind (Word (codes "local") ∷ rest) ≡ None
no_kind [] h = refl
no_kind (Word n ∷ []) h = refl
no_kind (Word n ∷ Word k ∷ []) h = cc
no_kind (Word n ∷ Word k ∷ t ∷ ts) h = refl
no_kind (Word n ∷ t ∷ ts) h = refl
no_kind (t ∷ ts) h = refl

-- behind the word `local` stand a name and a kind
abbrev pub IsOfKind : (ts rest : List Token) (n kind : List ℕ) → Type 0
IsOfKind ts rest n kind = (Some rest ≡ behind_word (codes "local") ts) × (rest ≡ Word n ∷ Word kind ∷ [])

of_kind : (ts rest : List Token) (n kind : List ℕ) → IsOfKind ts rest n kind
    → step ts ≡ Some (Step.Local n (kind_word kind))
of_kind ts rest n kind h = rw (behind_local ts rest h.0, h.1) refl

pub local_unnamed : (ts rest : List Token) (n kind : List ℕ) (refusal : Refusal) → IsOfKind ts rest n kind
    → (refusal ≡ NotAName) × (list_all is_name (n ∷ kind_names (kind_word kind)) ≡ false)
    → step_in_form (step ts) ≡ Err refusal
local_unnamed ts rest n kind refusal h u =
    ap step_in_form (of_kind ts rest n kind h)
    ∙ unnamed (n ∷ kind_names (kind_word kind)) true (Step.Local n (kind_word kind)) refusal u

pub local_named : (ts rest : List Token) (n kind : List ℕ) (k : KindWord) → IsOfKind ts rest n kind → kind_word kind ≡ k
    → list_all is_name (n ∷ kind_names k) ≡ true → step_in_form (step ts) ≡ Ok (Step.Local n k)
local_named ts rest n kind k h e named =
    ap step_in_form (of_kind ts rest n kind h ∙ ap (λ k. Some (Step.Local n k)) e)
    ∙ all_named (n ∷ kind_names k) (Step.Local n k) named

-- behind the word `local` stands no name and kind, but this
abbrev pub IsLike : (ts rest : List Token) → Option Step → Type 0
IsLike ts rest like =
    (Some rest ≡ behind_word (codes "local") ts) × (cell rest ≡ None)
    × (like ≡ local_like (Word (codes "local") ∷ rest))

like_or_use : (ts rest : List Token) (like : Option Step) → IsLike ts rest like → step ts ≡ option_or like (use_step ts)
like_or_use ts rest like h = rw (behind_local ts rest h.0, no_kind rest h.1, h.2) refl

pub like_unnamed : (ts rest : List Token) (n p : List ℕ) (refusal : Refusal) → IsLike ts rest (Some (Step.Like n p))
    → (refusal ≡ NotAName) × (list_all is_name (n ∷ p ∷ []) ≡ false) → step_in_form (step ts) ≡ Err refusal
like_unnamed ts rest n p refusal h u =
    ap step_in_form (like_or_use ts rest (Some (Step.Like n p)) h) ∙ unnamed (n ∷ p ∷ []) true (Step.Like n p) refusal u

pub like_named : (ts rest : List Token) (n p : List ℕ) → IsLike ts rest (Some (Step.Like n p))
    → list_all is_name (n ∷ p ∷ []) ≡ true → step_in_form (step ts) ≡ Ok (Step.Like n p)
like_named ts rest n p h named =
    ap step_in_form (like_or_use ts rest (Some (Step.Like n p)) h) ∙ all_named (n ∷ p ∷ []) (Step.Like n p) named

-- a use of the name `local`
pub used_local : (ts rest : List Token) → IsLike ts rest None → step ts ≡ use_step ts
used_local ts rest h = like_or_use ts rest None h

-- a use of another name
pub used_other : (ts : List Token) → None ≡ behind_word (codes "local") ts → step ts ≡ use_step ts
used_other [] h = refl
used_other (Word w ∷ ts) h = by (bytes_eq w (codes "local")) refl h
  where
    by : (b : Bool) → bytes_eq w (codes "local") ≡ b → None ≡ cond b (Some ts) None
        → step (Word w ∷ ts) ≡ use_step (Word w ∷ ts)
    by true e h = cc
    by false e h = other ts
      where
        other : (ts : List Token) → step (Word w ∷ ts) ≡ use_step (Word w ∷ ts)
        other [] = refl
        other (Word n ∷ []) = refl
        other (Word n ∷ Word k ∷ []) = rw e refl
        other (Word n ∷ Word k ∷ Word p ∷ []) = rw e refl
        other (Word n ∷ Word k ∷ Word p ∷ t ∷ ts) = refl
        other (Word n ∷ Word k ∷ t ∷ ts) = refl
        other (Word n ∷ t ∷ ts) = refl
        other (t ∷ ts) = refl
used_other (t ∷ ts) h = refl

-- ---- one step more

-- why something is refused for a word of it
abbrev Judgement : (names : List (List ℕ)) (in_range : Bool) (refusal : Refusal) → Type 0
Judgement names in_range refusal =
    ((refusal ≡ NotAName) × (list_all is_name names ≡ false))
    ⊎ ((refusal ≡ NotANumber) × (list_all is_name names ≡ true) × (in_range ≡ false))

why_judged : {X : Type 0} (names : List (List ℕ)) (in_range : Bool) (x : X) (refusal : Refusal)
    → judged names in_range x ≡ Err refusal → Judgement names in_range refusal
why_judged names in_range x refusal h = at (list_all is_name names) in_range refl refl h
  where
    at : (named within : Bool) → list_all is_name names ≡ named → in_range ≡ within
        → cond (not named) (Err NotAName) (cond (not within) (Err NotANumber) (Ok x)) ≡ Err refusal
        → Judgement names in_range refusal
    at false within e f h = inl (cc, e)
    at true false e f h = inr (cc, e, f)
    at true true e f h = cc

right_judged : {X : Type 0} (names : List (List ℕ)) (in_range : Bool) (x y : X) → judged names in_range x ≡ Ok y
    → (x ≡ y) × (list_all is_name names ≡ true) × (in_range ≡ true)
right_judged {X = X} names in_range x y h = at (list_all is_name names) in_range refl refl h
  where
    at : (named within : Bool) → list_all is_name names ≡ named → in_range ≡ within
        → cond {A = Result X Refusal} (not named) (Err NotAName) (cond (not within) (Err NotANumber) (Ok x)) ≡ Ok y
        → (x ≡ y) × (list_all is_name names ≡ true) × (in_range ≡ true)
    at false within e f h = cc
    at true false e f h = cc
    at true true e f h = (cc, e, f)

-- a step behind others, where there are both
behind : Option (List Step) → Option Step → Option (List Step)
behind (Some ss) (Some s) = Some (ss ++ s ∷ [])
behind (Some ss) None = None
behind None o = None

first_behind : (o : Option Step) (all : Option (List Step)) (last : Option Step)
    → join o (behind all last) ≡ behind (join o all) last
unfolding behind
first_behind (Some s) (Some ss) (Some l) = refl
first_behind (Some s) (Some ss) None = refl
first_behind (Some s) None last = refl
first_behind None all last = refl

each_more : (parts : List (List Token)) (ts : List Token)
    → each step (parts ++ ts ∷ []) ≡ behind (each step parts) (step ts)
unfolding behind
each_more [] ts = at (step ts)
  where
    at : (o : Option Step) → join o (Some []) ≡ behind (Some []) o
    at None = refl
    at (Some s) = refl
each_more (part ∷ parts) ts = ap (join (step part)) (each_more parts ts)
    ∙ first_behind (step part) (each step parts) (step ts)

-- what steps say, by whether all words in a name's place are names and all numbers in range
abbrev by_words : (named in_range : Bool) (ss : List Step) → Result (List Step) Refusal
by_words named in_range ss = cond (not named) (Err NotAName) (cond (not in_range) (Err NotANumber) (Ok ss))

names_more : (ss : List Step) (s : Step)
    → list_all is_name (flat_map step_names (ss ++ s ∷ []))
    ≡ (list_all is_name (flat_map step_names ss) && list_all is_name (step_names s))
names_more ss s =
    ap (list_all is_name) (flat_map-append step_names ss (s ∷ [])
    ∙ ap (λ l. flat_map step_names ss ++ l) (append-nil (step_names s)))
    ∙ list_all-append is_name (flat_map step_names ss) (step_names s)

all_more : (ss : List Step) (s : Step)
    → steps_in_range (ss ++ s ∷ []) ≡ by_words
    (list_all is_name (flat_map step_names ss) && list_all is_name (step_names s))
    (list_all is_step_in_range ss && (is_step_in_range s && true)) (ss ++ s ∷ [])
all_more ss s = rw (names_more ss s, list_all-append is_step_in_range ss (s ∷ [])) refl

right_more : (named in_range : Bool) (ss : List Step) (s : Step) (read : List kept.Step) (last : kept.Step)
    (refused : Option Refusal) → s ≡ step_of last → by_words named in_range ss ≡ steps_said read refused →
    by_words (named && true) (in_range && true) (ss ++ s ∷ []) ≡ steps_said (read ++ last ∷ []) refused
right_more true true ss s read last None e h =
    let same : ss ≡ map step_of read = cc in
    ap Ok (ap (λ l. l ++ s ∷ []) same ∙ ap (λ x. map step_of read ++ x ∷ []) e
    ∙ sym (map-append step_of read (last ∷ [])))
right_more true true ss s read last (Some refusal) e h = cc
right_more true false ss s read last None e h = cc
right_more true false ss s read last (Some refusal) e h = h
right_more false in_range ss s read last None e h = cc
right_more false in_range ss s read last (Some refusal) e h = h

-- a step that is read
pub one_read : (parts : List (List Token)) (ts : List Token) (read : List kept.Step) (last : kept.Step)
    (refused : Option Refusal) → Says parts read refused → step_in_form (step ts) ≡ Ok (step_of last)
    → Says (parts ++ ts ∷ []) (read ++ last ∷ []) refused
unfolding behind
one_read parts ts read last refused h e = ap (option_map steps_in_range) (each_more parts ts)
    ∙ at (each step parts) (step ts) h e
  where
    at : (all : Option (List Step)) (o : Option Step) → option_map steps_in_range all ≡ Some (steps_said read refused)
        → step_in_form o ≡ Ok (step_of last)
        → option_map steps_in_range (behind all o) ≡ Some (steps_said (read ++ last ∷ []) refused)
    at None o h e = cc
    at (Some ss) None h e = cc
    at (Some ss) (Some s) h e =
        let r = right_judged (step_names s) (is_step_in_range s) s (step_of last) e in
        let before : steps_in_range ss ≡ steps_said read refused = cc in
        ap Some (all_more ss s ∙ rw (r.1, r.2) (right_more _ _ ss s read last refused r.0 before))

-- a step with a word that is no name
unnamed_more : (named in_range r : Bool) (ss : List Step)
    → by_words (named && false) (in_range && (r && true)) ss ≡ Err NotAName
unnamed_more named in_range r ss = rw (and-false named) refl

pub one_unnamed : (parts : List (List Token)) (ts : List Token) (read : List kept.Step) (refused : Option Refusal)
    → Says parts read refused → step_in_form (step ts) ≡ Err NotAName → Says (parts ++ ts ∷ []) read (Some NotAName)
unfolding behind
one_unnamed parts ts read refused h e = ap (option_map steps_in_range) (each_more parts ts)
    ∙ at (each step parts) (step ts) h e
  where
    at : (all : Option (List Step)) (o : Option Step) → option_map steps_in_range all ≡ Some (steps_said read refused)
        → step_in_form o ≡ Err NotAName → option_map steps_in_range (behind all o) ≡ Some (Err NotAName)
    at None o h e = cc
    at (Some ss) None h e = cc
    at (Some ss) (Some s) h e = elim (why_judged (step_names s) (is_step_in_range s) s NotAName e) [
      | inl w ↦ ap Some (all_more ss s ∙ rw w.1 (unnamed_more _ _ _ (ss ++ s ∷ [])))
      | inr w ↦ cc w.0
    ]

-- a step with a number out of range
numbered_more : (named in_range : Bool) (ss more : List Step) (read : List kept.Step) (refused : Option Refusal)
    → by_words named in_range ss ≡ steps_said read refused
    → by_words (named && true) (in_range && false) more ≡ steps_said read (option_or refused (Some NotANumber))
numbered_more true true ss more read None h = refl
numbered_more true false ss more read (Some refusal) h = h
numbered_more false in_range ss more read (Some refusal) h = h
numbered_more true true ss more read (Some refusal) h = cc
numbered_more true false ss more read None h = cc
numbered_more false in_range ss more read None h = cc

pub one_out_of_range : (parts : List (List Token)) (ts : List Token) (read : List kept.Step) (refused : Option Refusal)
    → Says parts read refused → step_in_form (step ts) ≡ Err NotANumber
    → Says (parts ++ ts ∷ []) read (option_or refused (Some NotANumber))
unfolding behind
one_out_of_range parts ts read refused h e = ap (option_map steps_in_range) (each_more parts ts)
    ∙ at (each step parts) (step ts) h e
  where
    at : (all : Option (List Step)) (o : Option Step) → option_map steps_in_range all ≡ Some (steps_said read refused)
        → step_in_form o ≡ Err NotANumber → option_map steps_in_range (behind all o) ≡ Some
        (steps_said read (option_or refused (Some NotANumber)))
    at None o h e = cc
    at (Some ss) None h e = cc
    at (Some ss) (Some s) h e = elim (why_judged (step_names s) (is_step_in_range s) s NotANumber e) [
      | inl w ↦ cc w.0
      | inr w ↦
          let before : steps_in_range ss ≡ steps_said read refused = cc in
          ap Some (all_more ss s ∙ rw (w.1, w.2) (numbered_more _ _ ss (ss ++ s ∷ []) read refused before))
    ]

-- a step without a form
pub one_misformed : (ts : List Token) (refusal : Refusal) → refusal ≢ NotAName → refusal ≢ NotANumber
    → (refusal ≡ Memory) ⊎ (step_in_form (step ts) ≡ Err refusal)
    → (refusal ≡ Memory) ⊎ ((refusal ≡ WrongForm) × (step ts ≡ None))
one_misformed ts refusal n r (inl memory) = inl memory
one_misformed ts refusal n r (inr e) = inr (at (step ts) refl e)
  where
    at : (o : Option Step) → step ts ≡ o → step_in_form o ≡ Err refusal → (refusal ≡ WrongForm) × (step ts ≡ None)
    at None f e = (cc, f)
    at (Some s) f e = elim (why_judged (step_names s) (is_step_in_range s) s refusal e)
        [ inl w ↦ absurd (n w.0) | inr w ↦ absurd (r w.0) ]

-- ---- definitions

-- the words of a definition, and its steps
abbrev pub Defined : (ts rest : List Token) (n : List ℕ) (ps : List (List ℕ)) → Type 0
Defined ts rest n ps = define ts ≡ option_map (Command.Define n ps) (steps rest)

pub steps_misformed : (ts rest : List Token) (n : List ℕ) (ps : List (List ℕ)) (refusal : Refusal)
    → Defined ts rest n ps → (refusal ≡ Memory) ⊎ ((refusal ≡ WrongForm) × (steps rest ≡ None))
    → (refusal ≡ Memory) ⊎ (command_in_form (define ts) ≡ Err refusal)
steps_misformed ts rest n ps refusal d (inl memory) = inl memory
steps_misformed ts rest n ps refusal d (inr h) =
    inr (ap command_in_form (d ∙ ap (option_map (Command.Define n ps)) h.1) ∙ ap Err (sym h.0))

-- what a definition says, by the words in a name's place and by its steps
whole : (n : List ℕ) (ps : List (List ℕ)) (ss : List Step)
    → command_in_form (Some (Command.Define n ps ss)) ≡ cond
    (not (list_all is_name (n ∷ ps) && list_all is_name (flat_map step_names ss))) (Err NotAName)
    (cond (not (list_all is_step_in_range ss)) (Err NotANumber) (Ok (Some (Command.Define n ps ss))))
whole n ps ss = rw (list_all-append is_name (n ∷ ps) (flat_map step_names ss)) refl

-- the refusal of a definition's name or of a parameter
pub names_refused : (ts rest : List Token) (n : List ℕ) (ps : List (List ℕ)) (read : List kept.Step)
    (refused : Option Refusal) (refusal : Refusal) → Defined ts rest n ps
    → option_map steps_in_range (steps rest) ≡ Some (steps_said read refused) →
    (refusal ≡ Memory) ⊎ ((refusal ≡ NotAName) × (list_all is_name (n ∷ ps) ≡ false))
    → (refusal ≡ Memory) ⊎ (command_in_form (define ts) ≡ Err refusal)
names_refused ts rest n ps read refused refusal d r (inl memory) = inl memory
names_refused ts rest n ps read refused refusal d r (inr h) = inr (ap command_in_form d ∙ at (steps rest) r)
  where
    at : (all : Option (List Step)) → option_map steps_in_range all ≡ Some (steps_said read refused)
        → command_in_form (option_map (Command.Define n ps) all) ≡ Err refusal
    at None r = cc
    at (Some ss) r = whole n ps ss ∙ rw (h.1, h.0) refl

said_named : (named in_range : Bool) (n : List ℕ) (ps : List (List ℕ)) (ss : List Step) (read : List kept.Step)
    (refused : Option Refusal) → by_words named in_range ss ≡ steps_said read refused →
    cond (not (true && named)) (Err NotAName)
    (cond (not in_range) (Err NotANumber) (Ok (Some (Command.Define n ps ss)))) ≡ option_map_or
    (λ refusal. Err refusal) refused (Ok (Some (Command.Define n ps (map step_of read))))
said_named true true n ps ss read None h = let same : ss ≡ map step_of read =
    cc in ap (λ l. Ok (Some (Command.Define n ps l))) same
said_named true true n ps ss read (Some refusal) h = cc
said_named true false n ps ss read None h = cc
said_named true false n ps ss read (Some refusal) h = cc
said_named false in_range n ps ss read None h = cc
said_named false in_range n ps ss read (Some refusal) h = cc

-- what a definition says whose name and parameters are names
pub definition_read : (ts rest : List Token) (n : List ℕ) (ps : List (List ℕ)) (read : List kept.Step)
    (refused : Option Refusal) → Defined ts rest n ps
    → option_map steps_in_range (steps rest) ≡ Some (steps_said read refused) → list_all is_name (n ∷ ps) ≡ true →
    command_in_form (define ts) ≡ option_map_or (λ refusal. Err refusal) refused
    (Ok (Some (Command.Define n ps (map step_of read))))
definition_read ts rest n ps read refused d r named = ap command_in_form d ∙ at (steps rest) r
  where
    at : (all : Option (List Step)) → option_map steps_in_range all ≡ Some (steps_said read refused)
        → command_in_form (option_map (Command.Define n ps) all) ≡ option_map_or (λ refusal. Err refusal) refused
        (Ok (Some (Command.Define n ps (map step_of read))))
    at None r = cc
    at (Some ss) r =
        let same : steps_in_range ss ≡ steps_said read refused = cc in
        whole n ps ss ∙ rw named (said_named _ _ n ps ss read refused same)
