-- What the parts of a choice make together.
use Rattle.std.proofs.Common.{◌≡◌, ℕ, List, [], ◌∷◌, ◌++◌, Bool, true, false, cond, refl, sym, ◌∙◌, ap, Some, None, Ok}
use Rattle.std.proofs.Common.{Err, inl, inr}
use Rattle.std.specs.Prelude.{Option, ⊤, ◌⊎◌, ◌≢◌, bytes_eq, codes}
use Rattle.std.specs.Option.{option_map, option_and_then}
use Rattle.std.specs.List.{list_all}
use Rattle.std.specs.Bool.{Decides}
use Rattle.std.proofs.lemmas.Slice.Eq.{bytes_eq-Decides}
use Rattle.prop_refusals.specs.declared.refusal.Refusal.{Refusal}
use Rattle.prop_refusals.specs.declared.refusal.Refusal.TheVariants.{WrongForm, NotAName, Memory}
use Rattle.prop_language.specs.Tokens.{Token, Word, Open, Close}
use Rattle.prop_language.specs.Names.{is_name}
use Rattle.prop_language.specs.Commands.{Value, Bare, Braces, Command}
use Rattle.prop_language.specs.inner.Forms.{join, values, in_braces, sides, choose}
use Rattle.prop_language.specs.inner.Parsing.{command_in_form}
use Rattle.prop_language.specs.inner.Parts.{behind_word, some_values, sides_in, few_sides_in, before_sides}
use Rattle.prop_language.proofs.Forming.{LacksTwo, misread, unnamed, all_named}

-- ---- one value and what stands behind it

-- the values, where there are any, begin with words in braces
abbrev BeginBraced : Option (List Value) → Type 0
BeginBraced None = ⊤
BeginBraced (Some (Braces ws ∷ vs)) = ⊤
BeginBraced (Some vs) = ⊥

braced_before : (ws : List (List ℕ)) (vs : Option (List Value)) → BeginBraced (join (Some (Braces ws)) vs)
braced_before ws None = tt
braced_before ws (Some vs) = tt

braced : (ws : List (List ℕ)) (ts : List Token) → BeginBraced (in_braces ws ts)
braced ws [] = tt
braced ws (Word w ∷ ts) = braced (ws ++ w ∷ []) ts
braced ws (Close ∷ ts) = braced_before ws (values ts)
braced ws (t ∷ ts) = tt

-- a value before others
abbrev pub Precedes : Value → (ts rest : List Token) → Type 0
Precedes v ts rest = values ts ≡ join (Some v) (values rest)

pub last_side : (ts rest : List Token) (v : Value) → Precedes v ts rest → rest ≡ [] → sides_in ts ≡ Some (v ∷ [])
last_side ts rest v p e = ap (option_and_then sides) (p ∙ ap (λ l. join (Some v) (values l)) e)

side_before : (v : Value) (others : Option (List Value))
    → option_and_then sides (join (Some v) (join (Some (Bare (codes "or"))) others)) ≡ join (Some v)
    (option_and_then sides others)
side_before v None = refl
side_before v (Some vs) = refl

pub next_side : (ts rest behind : List Token) (v : Value) → Precedes v ts rest → rest ≡ Word (codes "or") ∷ behind
    → sides_in ts ≡ join (Some v) (sides_in behind)
next_side ts rest behind v p e =
    ap (option_and_then sides) (p ∙ ap (λ l. join (Some v) (values l)) e) ∙ side_before v (values behind)

-- a value, and behind it a word other than `or`
side_at_word : (v : Value) (w : List ℕ) (ts : List Token) (b : Bool) (others : Option (List Value))
    → bytes_eq w (codes "or") ≡ b → cond b (Some ts) None ≡ None
    → option_and_then sides (join (Some v) (join (Some (Bare w)) others)) ≡ None
side_at_word v w ts true others e h = cc
side_at_word v w ts false None e h = refl
side_at_word v w ts false (Some vs) e h = rw e refl

-- a value, and behind it one in braces
side_at_braces : (v : Value) (others : Option (List Value)) → BeginBraced others
    → option_and_then sides (join (Some v) others) ≡ None
side_at_braces v None h = refl
side_at_braces v (Some []) h = absurd h
side_at_braces v (Some (Bare w ∷ vs)) h = absurd h
side_at_braces v (Some (Braces ws ∷ vs)) h = refl

side_at : (v : Value) (rest : List Token) → rest ≢ [] → behind_word (codes "or") rest ≡ None
    → option_and_then sides (join (Some v) (values rest)) ≡ None
side_at v [] n h = absurd (n refl)
side_at v (Word w ∷ ts) n h = side_at_word v w ts (bytes_eq w (codes "or")) (values ts) refl h
side_at v (Open ∷ ts) n h = side_at_braces v (in_braces [] ts) (braced [] ts)
side_at v (t ∷ ts) n h = refl

pub no_next_side : (ts rest : List Token) (v : Value) → Precedes v ts rest → rest ≢ []
    → behind_word (codes "or") rest ≡ None → sides_in ts ≡ None
no_next_side ts rest v p n h = ap (option_and_then sides) p ∙ side_at v rest n h

pub no_side : (ts : List Token) → some_values ts ≡ None → sides_in ts ≡ None
no_side [] h = refl
no_side (t ∷ ts) h = ap (option_and_then sides) h

pub behind_or : (rest : List Token) (word : List ℕ) (behind : List Token) → word ≡ codes "or"
    → Some behind ≡ behind_word word rest → rest ≡ Word (codes "or") ∷ behind
behind_or (Word w ∷ ts) word behind e h = at (bytes_eq w word) (bytes_eq-Decides w word) h
  where
    at : (b : Bool) → Decides b (w ≡ word) → Some behind ≡ cond b (Some ts) None
        → Word w ∷ ts ≡ Word (codes "or") ∷ behind
    at true d h =
        let same : ts ≡ behind = cc in
        ap (λ v. Word v ∷ ts) (d.0 refl ∙ e) ∙ ap (λ l. Word (codes "or") ∷ l) same
    at false d h = cc
behind_or ts word behind e h = cc

-- ---- the values so far and those to come

none_after : (vs : List Value) → before_sides vs None ≡ None
none_after [] = refl
none_after (v ∷ vs) = ap (join (Some v)) (none_after vs)

one_more : (vs : List Value) (v : Value) (others : Option (List Value))
    → before_sides (vs ++ v ∷ []) others ≡ before_sides vs (join (Some v) others)
one_more [] v others = refl
one_more (u ∷ vs) v others = ap (join (Some u)) (one_more vs v others)

all_before : (vs us : List Value) → before_sides vs (Some us) ≡ Some (vs ++ us)
all_before [] us = refl
all_before (v ∷ vs) us = ap (join (Some v)) (all_before vs us)

-- the values so far and those to come are all of the choice
abbrev pub Remain : (vs : List Value) (ts all : List Token) → Type 0
Remain vs ts all = before_sides vs (sides_in ts) ≡ sides_in all

pub none_remain : (vs : List Value) (ts all : List Token) → Remain vs ts all → sides_in ts ≡ None → sides_in all ≡ None
none_remain vs ts all r h = sym r ∙ ap (before_sides vs) h ∙ none_after vs

-- the refusal of a value
pub value_refused : (vs : List Value) (ts all : List Token) (refusal : Refusal) → Remain vs ts all
    → (refusal ≡ Memory) ⊎ ((refusal ≡ WrongForm) × (some_values ts ≡ None))
    → (refusal ≡ Memory) ⊎ ((refusal ≡ WrongForm) × (sides_in all ≡ None))
value_refused vs ts all refusal r (inl memory) = inl memory
value_refused vs ts all refusal r (inr h) = inr (h.0, none_remain vs ts all r (no_side ts h.1))

pub no_more_remain : (vs us : List Value) (ts all : List Token) (v : Value) → Remain vs ts all → us ≡ vs ++ v ∷ []
    → sides_in ts ≡ Some (v ∷ []) → sides_in all ≡ Some us
no_more_remain vs us ts all v r e h = sym r ∙ ap (before_sides vs) h ∙ all_before vs (v ∷ []) ∙ ap Some (sym e)

pub one_more_remains : (vs us : List Value) (ts behind all : List Token) (v : Value) → Remain vs ts all
    → us ≡ vs ++ v ∷ [] → sides_in ts ≡ join (Some v) (sides_in behind) → Remain us behind all
one_more_remains vs us ts behind all v r e h =
    ap (λ l. before_sides l (sides_in behind)) e ∙ one_more vs v (sides_in behind) ∙ ap (before_sides vs) (sym h) ∙ r

-- ---- choices

pub no_choice : (ts : List Token) → LacksTwo ts → choose ts ≡ None
no_choice [] h = refl
no_choice (Word a ∷ []) h = refl
no_choice (Word a ∷ Word b ∷ ts) h = cc
no_choice (Word a ∷ t ∷ ts) h = refl
no_choice (t ∷ ts) h = refl

pub nothing_chosen : (ts rest : List Token) (c x : List ℕ) (refusal : Refusal) → ts ≡ Word c ∷ Word x ∷ rest
    → (refusal ≡ Memory) ⊎ ((refusal ≡ WrongForm) × (few_sides_in rest ≡ None))
    → (refusal ≡ Memory) ⊎ (command_in_form (choose ts) ≡ Err refusal)
nothing_chosen ts rest c x refusal e (inl memory) = inl memory
nothing_chosen ts rest c x refusal e (inr h) =
    inr (misread (choose ts) refusal (h.0, ap choose e ∙ ap (option_map (Command.Choose c x)) h.1))

chosen : (ts rest : List Token) (c x : List ℕ) (vs : List Value) → ts ≡ Word c ∷ Word x ∷ rest
    → few_sides_in rest ≡ Some vs → choose ts ≡ Some (Command.Choose c x vs)
chosen ts rest c x vs e f = ap choose e ∙ ap (option_map (Command.Choose c x)) f

pub choice_unnamed : (ts rest : List Token) (c x : List ℕ) (vs : List Value) (refusal : Refusal)
    → ts ≡ Word c ∷ Word x ∷ rest → few_sides_in rest ≡ Some vs
    → (refusal ≡ NotAName) × (list_all is_name (c ∷ x ∷ []) ≡ false) → command_in_form (choose ts) ≡ Err refusal
choice_unnamed ts rest c x vs refusal e f h =
    ap command_in_form (chosen ts rest c x vs e f) ∙ unnamed (c ∷ x ∷ []) true (Some (Command.Choose c x vs)) refusal h

pub choice_read : (ts rest : List Token) (c x : List ℕ) (vs : List Value) → ts ≡ Word c ∷ Word x ∷ rest
    → few_sides_in rest ≡ Some vs → list_all is_name (c ∷ x ∷ []) ≡ true
    → command_in_form (choose ts) ≡ Ok (Some (Command.Choose c x vs))
choice_read ts rest c x vs e f h =
    ap command_in_form (chosen ts rest c x vs e f) ∙ all_named (c ∷ x ∷ []) (Some (Command.Choose c x vs)) h
