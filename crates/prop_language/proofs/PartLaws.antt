-- What the parts of a line spell is what its tokens spell.
use Rattle.std.proofs.Common.{◌≡◌, ◌≢◌, ℕ, List, [], ◌∷◌, ◌++◌, Bool, true, false, refl, sym, ◌∙◌, ap, subst, map}
use Rattle.std.proofs.Common.{arith, Some, Ok, Err, inl, inr, cond, append-nil}
use Rattle.std.specs.Prelude.{◌&&◌, ◌⊎◌, not, codes, is_some, flat_map, Option, Result}
use Rattle.std.specs.List.{list_all, AllZip, join_by}
use Rattle.std.proofs.lemmas.List.{map-append}
use Rattle.std.proofs.lemmas.List.Folds.{list_all-append}
use Rattle.prop_refusals.specs.declared.refusal.Refusal.{Refusal}
use Rattle.prop_refusals.specs.declared.refusal.Refusal.TheVariants.{UnknownCommand, WrongForm, NotAName, NotANumber}
use Rattle.prop_language.specs.Tokens.{Token, Word, Semicolon, Equals, Star}
use Rattle.prop_language.specs.Names.{is_name}
use Rattle.prop_language.specs.Commands.{Value, Bare, Braces, KindWord, Spans, Truths, Symbols, Named}
use Rattle.prop_language.specs.Commands.{By, Passed, Step, Command}
use Rattle.prop_language.specs.Spelling.{Part, plain, own, name, number, IsKind, Gives, SpellsStep, value_parts, Spells}
use Rattle.prop_language.specs.Reading.{begins_as_command, AskFor}
use Rattle.prop_language.specs.inner.Judged.{is_named, is_ranged, judged}
use Rattle.prop_language.specs.inner.Grammar.{kind_names, by_names, passed_names, step_names, names_in, is_by_in_range}
use Rattle.prop_language.specs.inner.Grammar.{is_passed_in_range, is_step_in_range, is_in_range, command_in_range}
use Rattle.prop_language.specs.inner.Grammar.{IsLocal, tokens_of_value}
use Rattle.prop_language.specs.inner.Grammar as whole

abbrev token_of : Part → Token
token_of part = part.token

-- as many of the parts are names and numbers in range as of the words
abbrev Fits : List Part → List (List ℕ) → Bool → Type 0
Fits ps names in_range = (list_all is_named ps ≡ list_all is_name names) × (list_all is_ranged ps ≡ in_range)

and_true : (b : Bool) → (b && true) ≡ b
and_true true = refl
and_true false = refl

-- ---- names, and tokens as they stand

names_tokens : (ws : List (List ℕ)) (rest : List Part)
    → map token_of (map name ws ++ rest) ≡ map Word ws ++ map token_of rest
names_tokens [] rest = refl
names_tokens (w ∷ ws) rest = ap (λ l. Word w ∷ l) (names_tokens ws rest)

names_named : (ws names : List (List ℕ)) (rest : List Part) → list_all is_named rest ≡ list_all is_name names
    → list_all is_named (map name ws ++ rest) ≡ list_all is_name (ws ++ names)
names_named [] names rest h = h
names_named (w ∷ ws) names rest h = ap (λ b. is_name w && b) (names_named ws names rest h)

names_ranged : (ws : List (List ℕ)) (rest : List Part)
    → list_all is_ranged (map name ws ++ rest) ≡ list_all is_ranged rest
names_ranged [] rest = refl
names_ranged (w ∷ ws) rest = names_ranged ws rest

plain_tokens : (ts : List Token) → map token_of (map plain ts) ≡ ts
plain_tokens [] = refl
plain_tokens (t ∷ ts) = ap (λ l. t ∷ l) (plain_tokens ts)

plain_named : (ts : List Token) → list_all is_named (map plain ts) ≡ true
plain_named [] = refl
plain_named (t ∷ ts) = plain_named ts

plain_ranged : (ts : List Token) → list_all is_ranged (map plain ts) ≡ true
plain_ranged [] = refl
plain_ranged (t ∷ ts) = plain_ranged ts

-- ---- values

value_plain : (v : Value) → value_parts v ≡ map plain (tokens_of_value v)
value_plain (Bare w) = refl
value_plain (Braces ws) = refl

further_plain : (vs : List Value) → flat_map (λ v. own "or" ∷ value_parts v) vs
    ≡ map plain (flat_map (λ v. Word (codes "or") ∷ tokens_of_value v) vs)
further_plain [] = refl
further_plain (v ∷ vs) =
    (λ i. own "or" ∷ value_plain v i ++ further_plain vs i)
    ∙ sym (map-append plain (Word (codes "or") ∷ tokens_of_value v)
    (flat_map (λ v. Word (codes "or") ∷ tokens_of_value v) vs))

sides_plain : (v : Value) (vs : List Value) → join_by value_parts (own "or" ∷ []) (v ∷ vs)
    ≡ map plain (join_by tokens_of_value (Word (codes "or") ∷ []) (v ∷ vs))
sides_plain v vs = (λ i. value_plain v i ++ further_plain vs i)
    ∙ sym (map-append plain (tokens_of_value v) (flat_map (λ v. Word (codes "or") ∷ tokens_of_value v) vs))

-- ---- kinds and parameters

kind_old : (part : Part) (kind : KindWord) → IsKind part kind
    → (w : List ℕ) × (token_of part ≡ Word w) × whole.StandsFor w kind
    × (is_named part ≡ list_all is_name (kind_names kind)) × (is_ranged part ≡ true)
kind_old part Spans e = (codes "span", ap token_of e, refl, ap is_named e, ap is_ranged e)
kind_old part Truths e = (codes "truth", ap token_of e, refl, ap is_named e, ap is_ranged e)
kind_old part Symbols e = (codes "symbol", ap token_of e, refl, ap is_named e, ap is_ranged e)
kind_old part (Named n) (e, s, t, y) =
    (n, ap token_of e, (refl, s, t, y), ap is_named e ∙ sym (and_true (is_name n)), ap is_ranged e)

kind_new : (w : List ℕ) (kind : KindWord) → whole.StandsFor w kind
    → (part : Part) × (token_of part ≡ Word w) × IsKind part kind
kind_new w Spans e = (own "span", ap Word (sym e), refl)
kind_new w Truths e = (own "truth", ap Word (sym e), refl)
kind_new w Symbols e = (own "symbol", ap Word (sym e), refl)
kind_new w (Named n) (e, s, t, y) = (
  name n,
  ap Word (sym e),
  (
    refl,
    subst (λ v. v ≢ codes "span") e s,
    subst (λ v. v ≢ codes "truth") e t,
    subst (λ v. v ≢ codes "symbol") e y,
  ),
)

given_old : (by : By) (ps : List Part) → Gives (Passed.Said by) ps
    → whole.Gives by (map token_of ps) × Fits ps (by_names by) (is_by_in_range by)
given_old By.Nothing ps e = (ap (map token_of) e, (ap (list_all is_named) e, ap (list_all is_ranged) e))
given_old (By.Number n) ps (w, e, l, m) = (
  (w, ap (map token_of) e, l, m),
  (ap (list_all is_named) e, ap (list_all is_ranged) e ∙ and_true (is_some n)),
)
given_old (By.Relation r) ps (e, l) =
    ((ap (map token_of) e, l), (ap (list_all is_named) e, ap (list_all is_ranged) e))

given_new : (by : By) (ts : List Token) → whole.Gives by ts
    → (ps : List Part) × (map token_of ps ≡ ts) × Gives (Passed.Said by) ps
given_new By.Nothing ts e = ([], sym e, refl)
given_new (By.Number n) ts (p, e, l, m) =
    (own "by" ∷ number p (is_some n) ∷ [], sym e, (p, refl, l, m))
given_new (By.Relation r) ts (e, l) = (own "by" ∷ name r ∷ [], sym e, (refl, l))

passed_old : (passed : Passed) (ps : List Part) → Gives passed ps
    → whole.Passes passed (map token_of ps) × Fits ps (passed_names passed) (is_passed_in_range passed)
passed_old (Passed.Said by) ps g = given_old by ps g
passed_old Passed.Own ps e = (ap (map token_of) e, (ap (list_all is_named) e, ap (list_all is_ranged) e))

passed_new : (passed : Passed) (ts : List Token) → whole.Passes passed ts
    → (ps : List Part) × (map token_of ps ≡ ts) × Gives passed ps
passed_new (Passed.Said by) ts g = given_new by ts g
passed_new Passed.Own ts e = (own "by" ∷ plain Star ∷ [], sym e, refl)

-- ---- steps

-- the tokens are those of no local
abbrev NoLocal : List Token → Type 0
NoLocal ts = (n p : List ℕ) → (ts ≢ map Word (codes "local" ∷ n ∷ p ∷ []))
    × (ts ≢ map Word (codes "local" ∷ n ∷ codes "like" ∷ p ∷ []))

local_old : (ts : List Token) → NoLocal ts → ¬ (IsLocal ts)
local_old ts h (inl (n, kind, e)) = (h n kind).0 e
local_old ts h (inr (n, p, e)) = (h n p).1 e

local_new : (ts : List Token) → ¬ (IsLocal ts) → NoLocal ts
local_new ts h n p = (λ e. h (inl (n, p, e)), λ e. h (inr (n, p, e)))

step_old : (ps : List Part) (s : Step) → SpellsStep ps s
    → whole.SpellsStep (map token_of ps) s × Fits ps (step_names s) (is_step_in_range s)
step_old ps (Step.Local n kind) (part, e, k) =
    let q = kind_old part kind k in (
      (q.0, ap (map token_of) e ∙ ap (λ t. Word (codes "local") ∷ Word n ∷ t ∷ []) q.1, q.2),
      (
        ap (list_all is_named) e ∙ ap (λ b. is_name n && b) (and_true (is_named part) ∙ q.3),
        ap (list_all is_ranged) e ∙ ap (λ b. b && true) q.4,
      ),
    )
step_old ps (Step.Like n p) e = (ap (map token_of) e, (ap (list_all is_named) e, ap (list_all is_ranged) e))
step_old ps (Step.Use m [] passed) ((rest, e, c, b, g), l) = absurd (c refl)
step_old ps (Step.Use m (x ∷ xs) passed) ((rest, e, c, b, g), l) =
    let q = passed_old passed rest g in (
      (
        map token_of rest,
        ap (map token_of) e ∙ names_tokens (m ∷ x ∷ xs) rest,
        b,
        q.0,
        local_old (map token_of ps) l,
      ),
      (
        ap (list_all is_named) e ∙ names_named (m ∷ x ∷ xs) (passed_names passed) rest q.1.0,
        ap (list_all is_ranged) e ∙ names_ranged (m ∷ x ∷ xs) rest ∙ q.1.1,
      ),
    )

step_new : (ts : List Token) (s : Step) → whole.SpellsStep ts s
    → (ps : List Part) × (map token_of ps ≡ ts) × SpellsStep ps s
step_new ts (Step.Local n kind) (w, e, k) =
    let q = kind_new w kind k in
    let t : map token_of (own "local" ∷ name n ∷ q.0 ∷ []) ≡ ts =
    ap (λ t. Word (codes "local") ∷ Word n ∷ t ∷ []) q.1 ∙ sym e in
    (own "local" ∷ name n ∷ q.0 ∷ [], t, (q.0, refl, q.2))
step_new ts (Step.Like n p) e =
    (own "local" ∷ name n ∷ own "like" ∷ name p ∷ [], sym e, refl)
step_new ts (Step.Use m [] passed) s = absurd s
step_new ts (Step.Use m (x ∷ xs) passed) (rest, e, h, g, l) =
    let q = passed_new passed rest g in
    let t : map token_of (map name (m ∷ x ∷ xs) ++ q.0) ≡ ts = names_tokens (m ∷ x ∷ xs) q.0
    ∙ ap (λ r. map Word (m ∷ x ∷ xs) ++ r) q.1 ∙ sym e in
    (map name (m ∷ x ∷ xs) ++ q.0, t, ((q.0, refl, λ none. cc, h, q.2), local_new _ (λ p. l (subst IsLocal t p))))

-- the parts of steps, with a semicolon between each two
abbrev joined : List (List Part) → List Part
joined parts = join_by (λ part. part) (plain Semicolon ∷ []) parts

steps_old : (p : List Part) (parts : List (List Part)) (s : Step) (ss : List Step)
    → AllZip SpellsStep (p ∷ parts) (s ∷ ss)
    → whole.SpellsSteps (map token_of (joined (p ∷ parts))) (s ∷ ss)
    × Fits (joined (p ∷ parts)) (flat_map step_names (s ∷ ss)) (list_all is_step_in_range (s ∷ ss))
steps_old p [] s [] (h, u) =
    let q = step_old p s h in (
      subst (λ l. whole.SpellsStep (map token_of l) s) (sym (append-nil p)) q.0,
      (
        ap (list_all is_named) (append-nil p) ∙ q.1.0 ∙ sym (ap (list_all is_name) (append-nil (step_names s))),
        ap (list_all is_ranged) (append-nil p) ∙ q.1.1 ∙ sym (and_true (is_step_in_range s)),
      ),
    )
steps_old p [] s (r ∷ ss) (h, u) = absurd u
steps_old p (q ∷ parts) s [] (h, u) = absurd u
steps_old p (q ∷ parts) s (r ∷ ss) (h, more) =
    let first = step_old p s h in
    let rest = steps_old q parts r ss more in (
      (
        map token_of p,
        map token_of (joined (q ∷ parts)),
        map-append token_of p (plain Semicolon ∷ joined (q ∷ parts)),
        first.0,
        rest.0,
      ),
      (
        list_all-append is_named p (plain Semicolon ∷ joined (q ∷ parts))
            ∙ (λ i. first.1.0 i && rest.1.0 i)
            ∙ sym (list_all-append is_name (step_names s) (flat_map step_names (r ∷ ss))),
        list_all-append is_ranged p (plain Semicolon ∷ joined (q ∷ parts))
            ∙ (λ i. first.1.1 i && rest.1.1 i),
      ),
    )

steps_new : (ts : List Token) (s : Step) (ss : List Step) → whole.SpellsSteps ts (s ∷ ss)
    → (p : List Part) × (parts : List (List Part)) × (map token_of (joined (p ∷ parts)) ≡ ts)
    × AllZip SpellsStep (p ∷ parts) (s ∷ ss)
steps_new ts s [] h =
    let q = step_new ts s h in (q.0, [], ap (map token_of) (append-nil q.0) ∙ q.1, (q.2, tt))
steps_new ts s (r ∷ ss) (first, others, e, h, more) =
    let q = step_new first s h in
    let m = steps_new others r ss more in (
      q.0,
      m.0 ∷ m.1,
      map-append token_of q.0 (plain Semicolon ∷ joined (m.0 ∷ m.1)) ∙ (λ i. q.1 i ++ Semicolon ∷ m.2 i) ∙ sym e,
      (q.2, m.3),
    )

-- ---- commands

plain_old : (ps qs : List Part) → ps ≡ qs
    → (map token_of ps ≡ map token_of qs) × (list_all is_named ps ≡ list_all is_named qs)
    × (list_all is_ranged ps ≡ list_all is_ranged qs)
plain_old ps qs e = (ap (map token_of) e, ap (list_all is_named) e, ap (list_all is_ranged) e)

spelled_old : (ps : List Part) (command : Command) → Spells ps command
    → whole.Spells (map token_of ps) command × Fits ps (names_in command) (is_in_range command)
spelled_old ps (Command.Domain k es) (s, n) = (
  (
    ap (map token_of) s
        ∙ ap (λ l. Word (codes "domain") ∷ map token_of l) (sym (append-nil (map name (k ∷ es))))
        ∙ ap (λ l. Word (codes "domain") ∷ l) (names_tokens (k ∷ es) [] ∙ append-nil (map Word (k ∷ es))),
    n,
  ),
  (
    ap (list_all is_named) s ∙ ap (list_all is_named) (sym (append-nil (map name (k ∷ es))))
        ∙ names_named (k ∷ es) [] [] refl ∙ ap (list_all is_name) (append-nil (k ∷ es)),
    ap (list_all is_ranged) s ∙ ap (list_all is_ranged) (sym (append-nil (map name (k ∷ es))))
        ∙ names_ranged (k ∷ es) [],
  ),
)
spelled_old ps (Command.Relation k d e []) (n, s) = absurd (n refl)
spelled_old ps (Command.Relation k d e (p ∷ pairs)) (n, s) =
    let ts = Equals ∷ join_by (λ (q : List ℕ × List ℕ). Word q.0 ∷ Word q.1 ∷ []) (Semicolon ∷ []) (p ∷ pairs) in (
      ap (map token_of) s
          ∙ ap (λ l. Word (codes "relation") ∷ Word k ∷ Word d ∷ Word e ∷ l) (plain_tokens ts),
      (
        ap (list_all is_named) s ∙ ap (λ b. is_name k && (is_name d && (is_name e && b))) (plain_named ts),
        ap (list_all is_ranged) s ∙ plain_ranged ts,
      ),
    )
spelled_old ps (Command.Cell k kind) (part, e, y) =
    let q = kind_old part kind y in (
      (q.0, ap (map token_of) e ∙ ap (λ t. Word (codes "cell") ∷ Word k ∷ t ∷ []) q.1, q.2),
      (
        ap (list_all is_named) e ∙ ap (λ b. is_name k && b) (and_true (is_named part) ∙ q.3),
        ap (list_all is_ranged) e ∙ ap (λ b. b && true) q.4,
      ),
    )
spelled_old ps (Command.Define k params []) (parts, z, n, m, e) = absurd (m refl)
spelled_old ps (Command.Define k params (s ∷ ss)) ([], z, n, m, e) = absurd z
spelled_old ps (Command.Define k params (s ∷ ss)) (p ∷ parts, z, n, m, e) =
    let q = steps_old p parts s ss z in
    let rest = plain Equals ∷ joined (p ∷ parts) in (
      (
        map token_of (joined (p ∷ parts)),
        ap (map token_of) e ∙ ap (λ l. Word (codes "define") ∷ l) (names_tokens (k ∷ params) rest),
        n,
        q.0,
      ),
      (
        ap (list_all is_named) e ∙ names_named (k ∷ params) (flat_map step_names (s ∷ ss)) rest q.1.0,
        ap (list_all is_ranged) e ∙ names_ranged (k ∷ params) rest ∙ q.1.1,
      ),
    )
spelled_old ps (Command.Attach k [] by) (used, e, (rest, f, c, b, g)) = absurd (c refl)
spelled_old ps (Command.Attach k (x ∷ xs) by) (used, e, (rest, f, c, b, g)) =
    let q = given_old by rest g in
    let is : ps ≡ own "attach" ∷ map name (k ∷ x ∷ xs) ++ rest = e ∙ ap (λ l. own "attach" ∷ l) f in (
      (
        map token_of rest,
        ap (map token_of) is ∙ ap (λ l. Word (codes "attach") ∷ l) (names_tokens (k ∷ x ∷ xs) rest),
        b,
        q.0,
      ),
      (
        ap (list_all is_named) is ∙ names_named (k ∷ x ∷ xs) (by_names by) rest q.1.0,
        ap (list_all is_ranged) is ∙ names_ranged (k ∷ x ∷ xs) rest ∙ q.1.1,
      ),
    )
spelled_old ps (Command.Fix cell value) e =
    let is : ps ≡ own "fix" ∷ name cell ∷ map plain (tokens_of_value value) =
    e ∙ ap (λ l. own "fix" ∷ name cell ∷ l) (value_plain value) in (
      ap (map token_of) is ∙ ap (λ l. Word (codes "fix") ∷ Word cell ∷ l) (plain_tokens (tokens_of_value value)),
      (
        ap (list_all is_named) is ∙ ap (λ b. is_name cell && b) (plain_named (tokens_of_value value)),
        ap (list_all is_ranged) is ∙ plain_ranged (tokens_of_value value),
      ),
    )
spelled_old ps (Command.Tell premise cell value) e =
    let is : ps ≡ own "tell" ∷ name premise ∷ name cell ∷ map plain (tokens_of_value value) =
    e ∙ ap (λ l. own "tell" ∷ name premise ∷ name cell ∷ l) (value_plain value) in (
      ap (map token_of) is
          ∙ ap (λ l. Word (codes "tell") ∷ Word premise ∷ Word cell ∷ l) (plain_tokens (tokens_of_value value)),
      (
        ap (list_all is_named) is
            ∙ ap (λ b. is_name premise && (is_name cell && b)) (plain_named (tokens_of_value value)),
        ap (list_all is_ranged) is ∙ plain_ranged (tokens_of_value value),
      ),
    )
spelled_old ps (Command.Choose k cell []) (l, m, e) = absurd (omega arith)
spelled_old ps (Command.Choose k cell (v ∷ vs)) (l, m, e) =
    let ts = join_by tokens_of_value (Word (codes "or") ∷ []) (v ∷ vs) in
    let is : ps ≡ own "choose" ∷ name k ∷ name cell ∷ map plain ts =
    e ∙ ap (λ l. own "choose" ∷ name k ∷ name cell ∷ l) (sides_plain v vs) in (
      (
        ap (map token_of) is ∙ ap (λ l. Word (codes "choose") ∷ Word k ∷ Word cell ∷ l) (plain_tokens ts),
        (l, m),
      ),
      (
        ap (list_all is_named) is ∙ ap (λ b. is_name k && (is_name cell && b)) (plain_named ts),
        ap (list_all is_ranged) is ∙ plain_ranged ts,
      ),
    )
spelled_old ps (Command.Kick p) e = let q = plain_old ps _ e in (q.0, (q.1, q.2))
spelled_old ps (Command.Bring p) e = let q = plain_old ps _ e in (q.0, (q.1, q.2))
spelled_old ps (Command.Forget p) e = let q = plain_old ps _ e in (q.0, (q.1, q.2))
spelled_old ps (Command.Limit steps) (w, e, m) =
    let q = plain_old ps _ e in ((w, q.0, m), (q.1, q.2 ∙ and_true (is_some steps)))
spelled_old ps Command.Settle e = let q = plain_old ps _ e in (q.0, (q.1, q.2))
spelled_old ps (Command.Ask x) e = let q = plain_old ps _ e in (q.0, (q.1, q.2))
spelled_old ps (Command.Why x) e = let q = plain_old ps _ e in (q.0, (q.1, q.2))
spelled_old ps (Command.Core x) e = let q = plain_old ps _ e in (q.0, (q.1, q.2))
spelled_old ps Command.Worldview e = let q = plain_old ps _ e in (q.0, (q.1, q.2))
spelled_old ps Command.Nogoods e = let q = plain_old ps _ e in (q.0, (q.1, q.2))

-- some parts with these tokens spell the command
abbrev IsSpelled : List Token → Command → Type 0
IsSpelled ts command = (ps : List Part) × (map token_of ps ≡ ts) × Spells ps command

spelled_new : (ts : List Token) (command : Command) → whole.Spells ts command → IsSpelled ts command
spelled_new ts (Command.Domain k es) (s, n) = (
  own "domain" ∷ map name (k ∷ es),
  ap (λ l. Word (codes "domain") ∷ map token_of l) (sym (append-nil (map name (k ∷ es))))
      ∙ ap (λ l. Word (codes "domain") ∷ l) (names_tokens (k ∷ es) [] ∙ append-nil (map Word (k ∷ es))) ∙ sym s,
  (refl, n),
)
spelled_new ts (Command.Relation k d e []) s = absurd s
spelled_new ts (Command.Relation k d e (p ∷ pairs)) s =
    let us = Equals ∷ join_by (λ (q : List ℕ × List ℕ). Word q.0 ∷ Word q.1 ∷ []) (Semicolon ∷ []) (p ∷ pairs) in (
      own "relation" ∷ name k ∷ name d ∷ name e ∷ map plain us,
      ap (λ l. Word (codes "relation") ∷ Word k ∷ Word d ∷ Word e ∷ l) (plain_tokens us) ∙ sym s,
      (λ none. cc, refl),
    )
spelled_new ts (Command.Cell k kind) (w, e, y) =
    let q = kind_new w kind y in (
      own "cell" ∷ name k ∷ q.0 ∷ [],
      ap (λ t. Word (codes "cell") ∷ Word k ∷ t ∷ []) q.1 ∙ sym e,
      (q.0, refl, q.2),
    )
spelled_new ts (Command.Define k params []) (rest, e, n, h) = absurd h
spelled_new ts (Command.Define k params (s ∷ ss)) (rest, e, n, h) =
    let q = steps_new rest s ss h in
    let us = plain Equals ∷ joined (q.0 ∷ q.1) in (
      own "define" ∷ map name (k ∷ params) ++ us,
      ap (λ l. Word (codes "define") ∷ l) (names_tokens (k ∷ params) us)
          ∙ ap (λ l. Word (codes "define") ∷ map Word (k ∷ params) ++ Equals ∷ l) q.2 ∙ sym e,
      (q.0 ∷ q.1, q.3, n, λ none. cc, refl),
    )
spelled_new ts (Command.Attach k [] by) s = absurd s
spelled_new ts (Command.Attach k (x ∷ xs) by) (rest, e, h, g) =
    let q = given_new by rest g in (
      own "attach" ∷ map name (k ∷ x ∷ xs) ++ q.0,
      ap (λ l. Word (codes "attach") ∷ l) (names_tokens (k ∷ x ∷ xs) q.0)
          ∙ ap (λ l. Word (codes "attach") ∷ map Word (k ∷ x ∷ xs) ++ l) q.1 ∙ sym e,
      (map name (k ∷ x ∷ xs) ++ q.0, refl, (q.0, refl, λ none. cc, h, q.2)),
    )
spelled_new ts (Command.Fix cell value) e = (
  own "fix" ∷ name cell ∷ value_parts value,
  ap (λ l. Word (codes "fix") ∷ Word cell ∷ map token_of l) (value_plain value)
      ∙ ap (λ l. Word (codes "fix") ∷ Word cell ∷ l) (plain_tokens (tokens_of_value value)) ∙ sym e,
  refl,
)
spelled_new ts (Command.Tell premise cell value) e = (
  own "tell" ∷ name premise ∷ name cell ∷ value_parts value,
  ap (λ l. Word (codes "tell") ∷ Word premise ∷ Word cell ∷ map token_of l) (value_plain value)
      ∙ ap (λ l. Word (codes "tell") ∷ Word premise ∷ Word cell ∷ l) (plain_tokens (tokens_of_value value)) ∙ sym e,
  refl,
)
spelled_new ts (Command.Choose k cell []) s = absurd s
spelled_new ts (Command.Choose k cell (v ∷ vs)) (e, n) =
    let us = join_by tokens_of_value (Word (codes "or") ∷ []) (v ∷ vs) in (
      own "choose" ∷ name k ∷ name cell ∷ join_by value_parts (own "or" ∷ []) (v ∷ vs),
      ap (λ l. Word (codes "choose") ∷ Word k ∷ Word cell ∷ map token_of l) (sides_plain v vs)
          ∙ ap (λ l. Word (codes "choose") ∷ Word k ∷ Word cell ∷ l) (plain_tokens us) ∙ sym e,
      (n.0, n.1, refl),
    )
spelled_new ts (Command.Kick p) e = (own "kick" ∷ name p ∷ [], sym e, refl)
spelled_new ts (Command.Bring p) e = (own "bring" ∷ name p ∷ [], sym e, refl)
spelled_new ts (Command.Forget p) e = (own "forget" ∷ name p ∷ [], sym e, refl)
spelled_new ts (Command.Limit steps) (w, e, m) =
    (own "limit" ∷ number w (is_some steps) ∷ [], sym e, (w, refl, m))
spelled_new ts Command.Settle e = (own "settle" ∷ [], sym e, refl)
spelled_new ts (Command.Ask x) e = (own "ask" ∷ name x ∷ [], sym e, refl)
spelled_new ts (Command.Why x) e = (own "why" ∷ name x ∷ [], sym e, refl)
spelled_new ts (Command.Core x) e = (own "core" ∷ name x ∷ [], sym e, refl)
spelled_new ts Command.Worldview e = (own "worldview" ∷ [], sym e, refl)
spelled_new ts Command.Nogoods e = (own "nogoods" ∷ [], sym e, refl)

-- ---- what tokens ask for

judged_same : (ps : List Part) (command : Command) → Fits ps (names_in command) (is_in_range command)
    → judged ps command ≡ command_in_range command
judged_same ps command f = λ i.
    cond (not (f.0 i)) (Err NotAName) (cond (not (f.1 i)) (Err NotANumber) (Ok (Some command)))

-- what tokens ask for, by the commands that they spell
abbrev pub AskAs : List Token → Result (Option Command) Refusal → Type 0
AskAs ts read =
    ((command : Command) × whole.Spells ts command × (read ≡ command_in_range command))
    ⊎ (((command : Command) → ¬ (whole.Spells ts command))
    × (read ≡ Err (cond (begins_as_command ts) WrongForm UnknownCommand)))

tokens_spell : (ts : List Token) (ps : List Part) (command : Command) → map token_of ps ≡ ts → Spells ps command
    → whole.Spells ts command
tokens_spell ts ps command t s = subst (λ l. whole.Spells l command) t (spelled_old ps command s).0

pub asked_by_parts : (ts : List Token) (read : Result (Option Command) Refusal) → AskAs ts read → AskFor ts read
asked_by_parts ts read (inl (command, s, e)) =
    let q = spelled_new ts command s in
    inl (q.0, command, q.1, q.2, e ∙ sym (judged_same q.0 command (spelled_old q.0 command q.2).1))
asked_by_parts ts read (inr (n, e)) = inr (λ ps command t s. n command (tokens_spell ts ps command t s), e)

pub asked_by_tokens : (ts : List Token) (read : Result (Option Command) Refusal) → AskFor ts read → AskAs ts read
asked_by_tokens ts read (inl (ps, command, t, s, e)) =
    inl (command, tokens_spell ts ps command t s, e ∙ judged_same ps command (spelled_old ps command s).1)
asked_by_tokens ts read (inr (n, e)) =
    inr (λ command s. let q = spelled_new ts command s in n q.0 command q.1 q.2, e)
