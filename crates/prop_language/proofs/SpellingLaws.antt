-- A form reads just the commands that the tokens spell.
use Rattle.std.proofs.Common.{◌≡◌, ◌≢◌, ℕ, List, [], ◌∷◌, ◌++◌, Bool, true, false, cond, refl, sym, ◌∙◌, ap, subst}
use Rattle.std.proofs.Common.{Some, None, map, inl, inr}
use Rattle.std.specs.Bool.{Decides}
use Rattle.std.specs.Prelude.{Option, bytes_eq, codes, find, flat_map, pos, ◌&&◌}
use Rattle.std.specs.Option.{option_map, option_and_then, option_or}
use Rattle.std.specs.List.{AllByRecursion, slice_split, onto_first}
use Rattle.std.proofs.lemmas.Slice.Eq.{bytes_eq-Decides}
use Rattle.std.proofs.lemmas.Bool.{false≢true}
use Rattle.std.proofs.lemmas.Option.{none-some}
use Rattle.prop_language.specs.Tokens.{Token, Word, Semicolon, Equals, Star}
use Rattle.prop_language.specs.Names.{looks_like_number, number_in}
use Rattle.prop_language.specs.Commands.{Value, KindWord, Spans, Truths, Symbols, Named, By, Passed, Step, Command}
use Rattle.prop_language.specs.inner.Forms.{bare, on_word, only_words, domain, pairs, relation, kind_word, cell}
use Rattle.prop_language.specs.inner.Forms.{parameter, by_form, with_cell, cells_by, attach, local_of_kind, local_like}
use Rattle.prop_language.specs.inner.Forms.{passed_form, use_step, step, each, is_semicolon, steps, define, join}
use Rattle.prop_language.specs.inner.Forms.{values, limit_of, only_value, fix, tell, forms}
use Rattle.prop_language.proofs.ValueLaws.{value_read, choice_read, one_spelled, choice_spelled}
use Rattle.prop_language.proofs.StepLaws.{Head, Headed, Headless, head, words_alone, before_equals, after_equals}
use Rattle.prop_language.proofs.StepLaws.{bodiless, bodied}
use Rattle.prop_language.specs.inner.Grammar.{Spells, SpellsStep, SpellsSteps, StandsFor, Gives, Passes, HaveNoBy}
use Rattle.prop_language.specs.inner.Grammar.{tokens_of_value, IsLocal}

-- what is read from a line's tokens, where there is a form for it
abbrev pub read_form : List Token → Option Command
read_form (Word w ∷ ts) = option_and_then (λ form. form.1 ts) (find (λ form. bytes_eq form.0 w) forms)
read_form ts = None

-- the pairs after a first one, each behind a semicolon
abbrev further_pairs : List (List ℕ × List ℕ) → List Token
further_pairs ps = flat_map (λ q. Semicolon ∷ Word q.0 ∷ Word q.1 ∷ []) ps

-- ---- what is spelled is read

other_word : (w v : List ℕ) → w ≢ v → bytes_eq w v ≡ false
other_word w v h = by (bytes_eq w v) (bytes_eq-Decides w v)
  where
    by : (b : Bool) → Decides b (w ≡ v) → b ≡ false
    by true d = absurd (h (d.0 refl))
    by false d = refl

-- a reader of what follows the cells, and what it reads from which tokens
abbrev IsRead : {P : Type 0} → (Option (List Token) → Option P) → (P → List Token → Type 0) → Type 0
IsRead {P = P} read GivesAll = (by : P) (ts : List Token) → GivesAll by ts → cells_by read ts ≡ Some ([], by)

given_read : IsRead by_form Gives
given_read By.Nothing ts e = rw e refl
given_read (By.Number n) ts (p, e, l, m) = rw (e, l, m) refl
given_read (By.Relation r) ts (e, l) = rw (e, l) refl

passed_read : IsRead passed_form Passes
passed_read (Passed.Said By.Nothing) ts e = rw e refl
passed_read (Passed.Said (By.Number n)) ts (p, e, l, m) = rw (e, l, m) refl
passed_read (Passed.Said (By.Relation r)) ts (e, l) = rw (e, l) refl
passed_read Passed.Own ts e = rw e refl

cells_read : {P : Type 0} (read : Option (List Token) → Option P) (GivesAll : P → List Token → Type 0)
    (xs : List (List ℕ)) (by : P) (ts : List Token) → IsRead read GivesAll → HaveNoBy xs → GivesAll by ts
    → cells_by read (map Word xs ++ ts) ≡ Some (xs, by)
cells_read read GivesAll [] by ts r h g = r by ts g
cells_read read GivesAll (x ∷ xs) by ts r h g =
    rw (other_word x (codes "by") h.0, cells_read read GivesAll xs by ts r h.1 g) refl

pairs_read : (p : List ℕ × List ℕ) (ps : List (List ℕ × List ℕ))
    → pairs (Word p.0 ∷ Word p.1 ∷ further_pairs ps) ≡ Some (p ∷ ps)
pairs_read p [] = refl
pairs_read p (q ∷ ps) = ap (join (Some p)) (pairs_read q ps)

kind_read : (w : List ℕ) (kind : KindWord) → StandsFor w kind → kind_word w ≡ kind
kind_read w Spans e = rw e refl
kind_read w Truths e = rw e refl
kind_read w Symbols e = rw e refl
kind_read w (Named name) (e, s, t, y) =
    rw (other_word w (codes "span") s, other_word w (codes "truth") t, other_word w (codes "symbol") y) (ap Named e)

-- ---- steps

-- what stands in a step
IsClear : Token → Type 0
IsClear t = is_semicolon t ≡ false

words_clear : (ws : List (List ℕ)) (ts : List Token) → AllByRecursion IsClear ts
    → AllByRecursion IsClear (map Word ws ++ ts)
unfolding IsClear
words_clear [] ts h = h
words_clear (w ∷ ws) ts h = (refl, words_clear ws ts h)

passed_clear : (passed : Passed) (ts : List Token) → Passes passed ts → AllByRecursion IsClear ts
unfolding IsClear
passed_clear (Passed.Said By.Nothing) ts e = rw e tt
passed_clear (Passed.Said (By.Number n)) ts (p, e, l, m) = rw e (refl, (refl, tt))
passed_clear (Passed.Said (By.Relation r)) ts (e, l) = rw e (refl, (refl, tt))
passed_clear Passed.Own ts e = rw e (refl, (refl, tt))

step_clear : (ts : List Token) (s : Step) → SpellsStep ts s → AllByRecursion IsClear ts
unfolding IsClear
step_clear ts (Step.Local n kind) (w, e, k) = rw e (refl, (refl, (refl, tt)))
step_clear ts (Step.Like n p) e = rw e (refl, (refl, (refl, (refl, tt))))
step_clear ts (Step.Use m [] passed) s = absurd s
step_clear ts (Step.Use m (x ∷ xs) passed) (rest, e, h, g, n) =
    rw e (refl, (refl, words_clear xs rest (passed_clear passed rest g)))

-- a part without semicolons
part_first : (first others : List Token) → AllByRecursion IsClear first
    → slice_split is_semicolon (first ++ Semicolon ∷ others) ≡ first ∷ slice_split is_semicolon others
unfolding IsClear
part_first [] others h = refl
part_first (t ∷ first) others h = rw h.0 (ap (onto_first t) (part_first first others h.1))

part_alone : (ts : List Token) → AllByRecursion IsClear ts → slice_split is_semicolon ts ≡ ts ∷ []
unfolding IsClear
part_alone [] h = refl
part_alone (t ∷ ts) h = rw h.0 (ap (onto_first t) (part_alone ts h.1))

-- what has the form of a local
kind_form : (ts : List Token) (s : Step) → local_of_kind ts ≡ Some s
    → (n kind : List ℕ) × (ts ≡ Word (codes "local") ∷ Word n ∷ Word kind ∷ []) × (s ≡ Step.Local n (kind_word kind))
kind_form (Word l ∷ Word n ∷ Word kind ∷ []) s h =
    at (bytes_eq l (codes "local")) (bytes_eq-Decides l (codes "local")) h
  where
    at : (b : Bool) → Decides b (l ≡ codes "local") → cond b (Some (Step.Local n (kind_word kind))) None ≡ Some s
        → (m k : List ℕ) × (Word l ∷ Word n ∷ Word kind ∷ [] ≡ Word (codes "local") ∷ Word m ∷ Word k ∷ [])
        × (s ≡ Step.Local m (kind_word k))
    at true d h = (n, kind, ap (λ w. Word w ∷ Word n ∷ Word kind ∷ []) (d.0 refl), cc)
    at false d h = cc
kind_form ts s h = cc

like_form : (ts : List Token) (s : Step) → local_like ts ≡ Some s
    → (n p : List ℕ) × (ts ≡ Word (codes "local") ∷ Word n ∷ Word (codes "like") ∷ Word p ∷ []) × (s ≡ Step.Like n p)
like_form (Word l ∷ Word n ∷ Word k ∷ Word p ∷ []) s h =
    at (bytes_eq l (codes "local")) (bytes_eq k (codes "like")) (bytes_eq-Decides l (codes "local"))
    (bytes_eq-Decides k (codes "like")) h
  where
    at : (b c : Bool) → Decides b (l ≡ codes "local") → Decides c (k ≡ codes "like")
        → cond (b && c) (Some (Step.Like n p)) None ≡ Some s
        → (m q : List ℕ) × (Word l ∷ Word n ∷ Word k ∷ Word p ∷ [] ≡ Word (codes "local") ∷ Word m ∷ Word
        (codes "like") ∷ Word q ∷ []) × (s ≡ Step.Like m q)
    at true true d f h = (
      n,
      p,
      ap (λ w. Word w ∷ Word n ∷ Word k ∷ Word p ∷ []) (d.0 refl)
          ∙ ap (λ w. Word (codes "local") ∷ Word n ∷ Word w ∷ Word p ∷ []) (f.0 refl),
      cc,
    )
    at true false d f h = cc
    at false c d f h = cc
like_form ts s h = cc

-- what has no form of a local is read as a use
use_read : (ts : List Token) → ¬ (IsLocal ts) → step ts ≡ use_step ts
use_read ts n = at (local_of_kind ts) (local_like ts) refl refl
  where
    at : (o q : Option Step) → local_of_kind ts ≡ o → local_like ts ≡ q
        → option_or o (option_or q (use_step ts)) ≡ use_step ts
    at None None e f = refl
    at (Some s) q e f = let k = kind_form ts s e in absurd (n (inl (k.0, k.1, k.2)))
    at None (Some s) e f = let k = like_form ts s f in absurd (n (inr (k.0, k.1, k.2)))

step_read : (ts : List Token) (s : Step) → SpellsStep ts s → step ts ≡ Some s
step_read ts (Step.Local n kind) (w, e, k) = rw e (ap (λ q. Some (Step.Local n q)) (kind_read w kind k))
step_read ts (Step.Like n p) e = rw e refl
step_read ts (Step.Use m [] passed) s = absurd s
step_read ts (Step.Use m (x ∷ xs) passed) (rest, e, h, g, n) =
    use_read ts n ∙ rw (e, cells_read passed_form Passes xs passed rest passed_read h g) refl

steps_read : (ts : List Token) (ss : List Step) → SpellsSteps ts ss → steps ts ≡ Some ss
steps_read ts [] s = absurd s
steps_read ts (s ∷ []) h = rw (part_alone ts (step_clear ts s h), step_read ts s h) refl
steps_read ts (s ∷ r ∷ ss) (first, others, e, h, more) =
    rw (e, part_first first others (step_clear first s h), step_read first s h)
    (ap (join (Some s)) (steps_read others (r ∷ ss) more))

define_read : (n p : List ℕ) (ps : List (List ℕ)) (rest : List Token) (ss : List Step) → SpellsSteps rest ss
    → define (Word n ∷ Word p ∷ map Word ps ++ Equals ∷ rest) ≡ Some (Command.Define n (p ∷ ps) ss)
define_read n p ps rest ss h =
    rw (before_equals ps rest, words_alone ps, after_equals ps rest, steps_read rest ss h) refl

pub spelled_is_read : (ts : List Token) (command : Command) → Spells ts command → read_form ts ≡ Some command
spelled_is_read ts (Command.Domain name []) (s, n) = absurd (n refl)
spelled_is_read ts (Command.Domain name (e ∷ es)) (s, n) =
    rw s (ap (option_map (λ l. Command.Domain name (e ∷ l))) (words_alone es))
spelled_is_read ts (Command.Relation name d e []) s = absurd s
spelled_is_read ts (Command.Relation name d e (p ∷ ps)) s =
    rw s (ap (option_map (Command.Relation name d e)) (pairs_read p ps))
spelled_is_read ts (Command.Cell name kind) (w, e, s) = rw e (ap (λ k. Some (Command.Cell name k)) (kind_read w kind s))
spelled_is_read ts (Command.Define name [] ss) (rest, e, n, h) = absurd (n refl)
spelled_is_read ts (Command.Define name (p ∷ ps) ss) (rest, e, n, h) = rw (e, define_read name p ps rest ss h) refl
spelled_is_read ts (Command.Attach name [] by) s = absurd s
spelled_is_read ts (Command.Attach name (x ∷ xs) by) (rest, e, h, g) =
    rw (e, cells_read by_form Gives xs by rest given_read h g) refl
spelled_is_read ts (Command.Fix x v) e = rw (e, value_read v) refl
spelled_is_read ts (Command.Tell p x v) e = rw (e, value_read v) refl
spelled_is_read ts (Command.Choose c x []) s = absurd s
spelled_is_read ts (Command.Choose c x (v ∷ vs)) (e, n) = rw (e, choice_read c x v vs n) refl
spelled_is_read ts (Command.Kick p) e = rw e refl
spelled_is_read ts (Command.Bring p) e = rw e refl
spelled_is_read ts (Command.Forget p) e = rw e refl
spelled_is_read ts (Command.Limit steps) (w, e, n) = rw (e, n) refl
spelled_is_read ts Command.Settle e = rw e refl
spelled_is_read ts (Command.Ask x) e = rw e refl
spelled_is_read ts (Command.Why x) e = rw e refl
spelled_is_read ts (Command.Core x) e = rw e refl
spelled_is_read ts Command.Worldview e = rw e refl
spelled_is_read ts Command.Nogoods e = rw e refl

-- ---- what is read is spelled

words_spelled : (ts : List Token) (es : List (List ℕ)) → only_words ts ≡ Some es → ts ≡ map Word es
words_spelled [] es h = let none : [] ≡ es = cc in ap (map Word) none
words_spelled (Word w ∷ ts) es h = more (only_words ts) (λ r e. words_spelled ts r e) h
  where
    more : (o : Option (List (List ℕ))) → ((r : List (List ℕ)) → o ≡ Some r → ts ≡ map Word r)
        → join (Some w) o ≡ Some es → Word w ∷ ts ≡ map Word es
    more None spelled h = cc
    more (Some r) spelled h =
        let same : w ∷ r ≡ es = cc in
        ap (λ l. Word w ∷ l) (spelled r refl) ∙ ap (map Word) same
words_spelled (t ∷ ts) es h = cc

domain_spelled : (ts : List Token) (command : Command) → domain ts ≡ Some command
    → Spells (Word (codes "domain") ∷ ts) command
domain_spelled (Word n ∷ Word e ∷ ts) command h = by (only_words ts) (λ es p. words_spelled ts es p) h
  where
    by : (o : Option (List (List ℕ))) → ((es : List (List ℕ)) → o ≡ Some es → ts ≡ map Word es)
        → option_map (λ es. Command.Domain n (e ∷ es)) o ≡ Some command
        → Spells (Word (codes "domain") ∷ Word n ∷ Word e ∷ ts) command
    by None spelled h = cc
    by (Some es) spelled h =
        let s : Spells (Word (codes "domain") ∷ Word n ∷ Word e ∷ ts) (Command.Domain n (e ∷ es)) =
        (ap (λ l. Word (codes "domain") ∷ Word n ∷ Word e ∷ l) (spelled es refl), λ none. cc) in
        let same : Command.Domain n (e ∷ es) ≡ command = cc in
        subst (Spells (Word (codes "domain") ∷ Word n ∷ Word e ∷ ts)) same s
domain_spelled ts command h = cc

-- the tokens are those of the pairs, of which there is one or more
abbrev ArePairs : List Token → List (List ℕ × List ℕ) → Type 0
ArePairs ts ps =
    (p : List ℕ × List ℕ) × (qs : List (List ℕ × List ℕ)) × (ps ≡ p ∷ qs)
    × (ts ≡ Word p.0 ∷ Word p.1 ∷ further_pairs qs)

pairs_spelled : (ts : List Token) (ps : List (List ℕ × List ℕ)) → pairs ts ≡ Some ps → ArePairs ts ps
pairs_spelled (Word a ∷ Word b ∷ []) ps h =
    let same : ps ≡ (a, b) ∷ [] = cc in
    ((a, b), [], same, refl)
pairs_spelled (Word a ∷ Word b ∷ Semicolon ∷ ts) ps h = more (pairs ts) (λ r e. pairs_spelled ts r e) h
  where
    more : (o : Option (List (List ℕ × List ℕ))) → ((r : List (List ℕ × List ℕ)) → o ≡ Some r → ArePairs ts r)
        → join (Some (a, b)) o ≡ Some ps → ArePairs (Word a ∷ Word b ∷ Semicolon ∷ ts) ps
    more None spelled h = cc
    more (Some r) spelled h =
        let f = spelled r refl in
        let same : ps ≡ (a, b) ∷ r = cc in (
          (a, b),
          r,
          same,
          ap (λ l. Word a ∷ Word b ∷ Semicolon ∷ l) f.3
              ∙ ap (λ l. Word a ∷ Word b ∷ further_pairs l) (sym f.2),
        )
pairs_spelled ts ps h = cc

relation_spelled : (ts : List Token) (command : Command) → relation ts ≡ Some command
    → Spells (Word (codes "relation") ∷ ts) command
relation_spelled (Word n ∷ Word d ∷ Word e ∷ Equals ∷ ts) command h = by (pairs ts) (λ ps p. pairs_spelled ts ps p) h
  where
    by : (o : Option (List (List ℕ × List ℕ))) → ((ps : List (List ℕ × List ℕ)) → o ≡ Some ps → ArePairs ts ps)
        → option_map (Command.Relation n d e) o ≡ Some command
        → Spells (Word (codes "relation") ∷ Word n ∷ Word d ∷ Word e ∷ Equals ∷ ts) command
    by None spelled h = cc
    by (Some ps) spelled h =
        let f = spelled ps refl in
        let s : Spells (Word (codes "relation") ∷ Word n ∷ Word d ∷ Word e ∷ Equals ∷ ts)
        (Command.Relation n d e (f.0 ∷ f.1)) =
        ap (λ l. Word (codes "relation") ∷ Word n ∷ Word d ∷ Word e ∷ Equals ∷ l) f.3 in
        let same : Command.Relation n d e (f.0 ∷ f.1) ≡ command = ap (Command.Relation n d e) (sym f.2) ∙ cc in
        subst (Spells (Word (codes "relation") ∷ Word n ∷ Word d ∷ Word e ∷ Equals ∷ ts)) same s
relation_spelled ts command h = cc

kind_spelled : (w : List ℕ) → StandsFor w (kind_word w)
kind_spelled w = by (bytes_eq w (codes "span")) (bytes_eq w (codes "truth")) (bytes_eq w (codes "symbol"))
    (bytes_eq-Decides w (codes "span")) (bytes_eq-Decides w (codes "truth")) (bytes_eq-Decides w (codes "symbol"))
  where
    by : (s t y : Bool) → Decides s (w ≡ codes "span") → Decides t (w ≡ codes "truth") → Decides y (w ≡ codes "symbol")
        → StandsFor w (cond s Spans (cond t Truths (cond y Symbols (Named w))))
    by true t y d e f = d.0 refl
    by false true y d e f = e.0 refl
    by false false true d e f = f.0 refl
    by false false false d e f = (refl, (λ p. false≢true (d.1 p)), (λ p. false≢true (e.1 p)), (λ p. false≢true (f.1 p)))

cell_spelled : (ts : List Token) (command : Command) → cell ts ≡ Some command
    → Spells (Word (codes "cell") ∷ ts) command
cell_spelled (Word n ∷ Word w ∷ []) command h =
    let s : Spells (Word (codes "cell") ∷ Word n ∷ Word w ∷ []) (Command.Cell n (kind_word w)) =
    (w, refl, kind_spelled w) in
    let same : Command.Cell n (kind_word w) ≡ command = cc in
    subst (Spells (Word (codes "cell") ∷ Word n ∷ Word w ∷ [])) same s
cell_spelled ts command h = cc

-- what follows the first cell
abbrev Follows : {P : Type 0} → (P → List Token → Type 0) → List Token → List (List ℕ) × P → Type 0
Follows GivesAll ts cells =
    (rest : List Token) × (ts ≡ map Word cells.0 ++ rest) × HaveNoBy cells.0 × GivesAll cells.1 rest

-- what is read where there is no `by`, and behind one, is given
abbrev IsGiven : {P : Type 0} → (Option (List Token) → Option P) → (P → List Token → Type 0) → Type 0
IsGiven {P = P} read GivesAll =
    ((by : P) → read None ≡ Some by → GivesAll by [])
    × ((ts : List Token) (by : P) → read (Some ts) ≡ Some by → GivesAll by (Word (codes "by") ∷ ts))

parameter_given : (p : List ℕ) (b : Bool) → looks_like_number p ≡ b
    → Gives (cond b (By.Number (number_in (pos 1) (pos 1_000_000_000) p)) (By.Relation p))
    (Word (codes "by") ∷ Word p ∷ [])
parameter_given p true l = (p, refl, l, refl)
parameter_given p false l = (refl, l)

none_given : (by : By) → by_form None ≡ Some by → Gives by []
none_given by h =
    let same : By.Nothing ≡ by = cc in
    subst (λ b. Gives b []) same refl

word_given : (ts : List Token) (by : By) → by_form (Some ts) ≡ Some by → Gives by (Word (codes "by") ∷ ts)
word_given (Word p ∷ []) by h =
    let same : parameter p ≡ by = cc in
    subst (λ b. Gives b (Word (codes "by") ∷ Word p ∷ [])) same (parameter_given p (looks_like_number p) refl)
word_given ts by h = cc

said_given : (made : Option By) (passed : Passed) (ts : List Token) → ((by : By) → made ≡ Some by → Gives by ts)
    → option_map Passed.Said made ≡ Some passed → Passes passed ts
said_given None passed ts g h = cc
said_given (Some by) passed ts g h =
    let same : Passed.Said by ≡ passed = cc in
    subst (λ p. Passes p ts) same (g by refl)

word_passed : (ts : List Token) (passed : Passed) → passed_form (Some ts) ≡ Some passed
    → Passes passed (Word (codes "by") ∷ ts)
word_passed (Star ∷ []) passed h =
    let same : Passed.Own ≡ passed = cc in
    subst (λ p. Passes p (Word (codes "by") ∷ Star ∷ [])) same refl
word_passed ts passed h = said_given (by_form (Some ts)) passed (Word (codes "by") ∷ ts) (λ by e. word_given ts by e) h

-- cells, read with what follows them
module _ {P : Type 0} (read : Option (List Token) → Option P) (GivesAll : P → List Token → Type 0)
    (g : IsGiven read GivesAll) where
  no_cells : (ts : List Token) (o : Option P) (cells : List (List ℕ) × P) → ((by : P) → o ≡ Some by → GivesAll by ts)
      → option_map {U = List (List ℕ) × P} (λ by. ([], by)) o ≡ Some cells → Follows GivesAll ts cells
  no_cells ts None cells given h = cc
  no_cells ts (Some by) cells given h =
      let f : Follows GivesAll ts ([], by) = (ts, refl, tt, given by refl) in
      let same : ([], by) ≡ cells = cc in
      subst (Follows GivesAll ts) same f

  by_spelled : (w : List ℕ) (ts : List Token) (cells : List (List ℕ) × P) → w ≡ codes "by"
      → option_map {U = List (List ℕ) × P} (λ by. ([], by)) (read (Some ts)) ≡ Some cells
      → Follows GivesAll (Word w ∷ ts) cells
  by_spelled w ts cells e h =
      no_cells (Word w ∷ ts) (read (Some ts)) cells
      (λ by f. subst (λ v. GivesAll by (Word v ∷ ts)) (sym e) (g.1 ts by f)) h

  more_cells : (w : List ℕ) (ts : List Token) (cells : List (List ℕ) × P) (o : Option (List (List ℕ) × P))
      → w ≢ codes "by" → ((r : List (List ℕ) × P) → o ≡ Some r → Follows GivesAll ts r)
      → option_map (with_cell w) o ≡ Some cells → Follows GivesAll (Word w ∷ ts) cells
  more_cells w ts cells None n more h = cc
  more_cells w ts cells (Some r) n more h =
      let f = more r refl in
      let later : Follows GivesAll (Word w ∷ ts) (w ∷ r.0, r.1) = (f.0, ap (λ l. Word w ∷ l) f.1, (n, f.2), f.3) in
      let same : (w ∷ r.0, r.1) ≡ cells = cc in
      subst (Follows GivesAll (Word w ∷ ts)) same later

  next_cell : (w : List ℕ) (ts : List Token) (cells : List (List ℕ) × P) (b : Bool) → Decides b (w ≡ codes "by")
      → ((r : List (List ℕ) × P) → cells_by read ts ≡ Some r → Follows GivesAll ts r)
      → cond b (option_map {U = List (List ℕ) × P} (λ by. ([], by)) (read (Some ts)))
      (option_map (with_cell w) (cells_by read ts)) ≡ Some cells → Follows GivesAll (Word w ∷ ts) cells
  next_cell w ts cells true d more h = by_spelled w ts cells (d.0 refl) h
  next_cell w ts cells false d more h = more_cells w ts cells (cells_by read ts) (λ e. false≢true (d.1 e)) more h

  cells_spelled : (ts : List Token) (cells : List (List ℕ) × P) → cells_by read ts ≡ Some cells
      → Follows GivesAll ts cells
  cells_spelled [] cells h = no_cells [] (read None) cells g.0 h
  cells_spelled (Word w ∷ ts) cells h =
      next_cell w ts cells (bytes_eq w (codes "by")) (bytes_eq-Decides w (codes "by")) (λ r e. cells_spelled ts r e) h
  cells_spelled (t ∷ ts) cells h = cc

attach_spelled : (ts : List Token) (command : Command) → attach ts ≡ Some command
    → Spells (Word (codes "attach") ∷ ts) command
attach_spelled (Word n ∷ Word x ∷ ts) command h =
    at (cells_by by_form ts) (λ r e. cells_spelled by_form Gives (none_given, word_given) ts r e) h
  where
    at : (o : Option (List (List ℕ) × By)) → ((r : List (List ℕ) × By) → o ≡ Some r → Follows Gives ts r)
        → option_map (λ r. Command.Attach n (x ∷ r.0) r.1) o ≡ Some command
        → Spells (Word (codes "attach") ∷ Word n ∷ Word x ∷ ts) command
    at None follows h = cc
    at (Some r) follows h =
        let f = follows r refl in
        let s : Spells (Word (codes "attach") ∷ Word n ∷ Word x ∷ ts) (Command.Attach n (x ∷ r.0) r.1) =
        (f.0, ap (λ l. Word (codes "attach") ∷ Word n ∷ Word x ∷ l) f.1, f.2, f.3) in
        let e : Command.Attach n (x ∷ r.0) r.1 ≡ command = cc in
        subst (Spells (Word (codes "attach") ∷ Word n ∷ Word x ∷ ts)) e s
attach_spelled ts command h = cc

none_passed : (passed : Passed) → passed_form None ≡ Some passed → Passes passed []
none_passed passed h = said_given (by_form None) passed [] none_given h

use_spelled : (ts : List Token) (s : Step) → ¬ (IsLocal ts) → use_step ts ≡ Some s → SpellsStep ts s
use_spelled (Word m ∷ Word x ∷ ts) s n h =
    at (cells_by passed_form ts) (λ r e. cells_spelled passed_form Passes (none_passed, word_passed) ts r e) h
  where
    at : (o : Option (List (List ℕ) × Passed)) → ((r : List (List ℕ) × Passed) → o ≡ Some r → Follows Passes ts r)
        → option_map (λ r. Step.Use m (x ∷ r.0) r.1) o ≡ Some s → SpellsStep (Word m ∷ Word x ∷ ts) s
    at None follows h = cc
    at (Some r) follows h =
        let f = follows r refl in
        let spelled : SpellsStep (Word m ∷ Word x ∷ ts) (Step.Use m (x ∷ r.0) r.1) =
        (f.0, ap (λ l. Word m ∷ Word x ∷ l) f.1, f.2, f.3, n) in
        let e : Step.Use m (x ∷ r.0) r.1 ≡ s = cc in
        subst (SpellsStep (Word m ∷ Word x ∷ ts)) e spelled
use_spelled ts s n h = cc

step_spelled : (ts : List Token) (s : Step) → step ts ≡ Some s → SpellsStep ts s
step_spelled ts s h = at (local_of_kind ts) (local_like ts) refl refl h
  where
    other : local_of_kind ts ≡ None → local_like ts ≡ None → ¬ (IsLocal ts)
    other e f (inl (n, kind, t)) =
        let read : local_of_kind ts ≡ Some (Step.Local n (kind_word kind)) = rw t refl in
        none-some _ (sym e ∙ read)
    other e f (inr (n, p, t)) =
        let read : local_like ts ≡ Some (Step.Like n p) = rw t refl in
        none-some _ (sym f ∙ read)

    at : (o q : Option Step) → local_of_kind ts ≡ o → local_like ts ≡ q
        → option_or o (option_or q (use_step ts)) ≡ Some s → SpellsStep ts s
    at (Some r) q e f h =
        let k = kind_form ts r e in
        let local : SpellsStep ts (Step.Local k.0 (kind_word k.1)) = (k.1, k.2, kind_spelled k.1) in
        let same : r ≡ s = cc in
        subst (SpellsStep ts) (sym k.3 ∙ same) local
    at None (Some r) e f h =
        let k = like_form ts r f in
        let same : r ≡ s = cc in
        subst (SpellsStep ts) (sym k.3 ∙ same) k.2
    at None None e f h = use_spelled ts s (other e f) h

-- one step, or a step and more behind a semicolon
data Part (ts : List Token) : Type 0 where
  Alone : AllByRecursion IsClear ts → Part ts
  Before : (first others : List Token) → ts ≡ first ++ Semicolon ∷ others → AllByRecursion IsClear first → Part ts

semicolon_is : (t : Token) → is_semicolon t ≡ true → t ≡ Semicolon
semicolon_is Semicolon h = refl
semicolon_is t h = absurd (false≢true h)

part : (ts : List Token) → Part ts
unfolding IsClear
part [] = Alone tt
part (t ∷ ts) = at (is_semicolon t) refl (part ts)
  where
    at : (b : Bool) → is_semicolon t ≡ b → Part ts → Part (t ∷ ts)
    at true e p = Before [] ts (ap (λ u. u ∷ ts) (semicolon_is t e)) tt
    at false e (Alone h) = Alone (e, h)
    at false e (Before first others q h) = Before (t ∷ first) others (ap (λ l. t ∷ l) q) (e, h)

steps_alone : (ts : List Token) → AllByRecursion IsClear ts → steps ts ≡ join (step ts) (Some [])
steps_alone ts h = ap (each step) (part_alone ts h)

steps_before : (ts first others : List Token) → ts ≡ first ++ Semicolon ∷ others → AllByRecursion IsClear first
    → steps ts ≡ join (step first) (steps others)
steps_before ts first others e h = ap steps e ∙ ap (each step) (part_first first others h)

-- what was joined
abbrev Joins : {X : Type 0} → Option X → Option (List X) → List X → Type 0
Joins {X = X} o os xs = (x : X) × (ys : List X) × (o ≡ Some x) × (os ≡ Some ys) × (xs ≡ x ∷ ys)

joined : {X : Type 0} (o : Option X) (os : Option (List X)) (xs : List X) → join o os ≡ Some xs → Joins o os xs
joined (Some x) (Some ys) xs h = (x, ys, refl, refl, cc)
joined (Some x) None xs h = cc
joined None os xs h = cc

some_step : (ts : List Token) → Part ts → ¬ (steps ts ≡ Some [])
some_step ts (Alone c) h = let j = joined (step ts) (Some []) [] (sym (steps_alone ts c) ∙ h) in cc j.4
some_step ts (Before first others e c) h =
    let j = joined (step first) (steps others) [] (sym (steps_before ts first others e c) ∙ h) in
    cc j.4

last_spelled : (s : Step) (ts : List Token) → Part ts → steps ts ≡ Some (s ∷ []) → SpellsStep ts s
last_spelled s ts (Alone c) h =
    let j = joined (step ts) (Some []) (s ∷ []) (sym (steps_alone ts c) ∙ h) in
    let same : j.0 ≡ s = cc j.4 in
    step_spelled ts s (j.2 ∙ ap Some same)
last_spelled s ts (Before first others e c) h =
    let j = joined (step first) (steps others) (s ∷ []) (sym (steps_before ts first others e c) ∙ h) in
    let same : j.1 ≡ [] = cc j.4 in
    absurd (some_step others (part others) (j.3 ∙ ap Some same))

steps_spelled : (ss : List Step) (ts : List Token) → steps ts ≡ Some ss → SpellsSteps ts ss
steps_spelled [] ts h = absurd (some_step ts (part ts) h)
steps_spelled (s ∷ []) ts h = last_spelled s ts (part ts) h
steps_spelled (s ∷ r ∷ ss) ts h = at (λ us e. steps_spelled (r ∷ ss) us e) (part ts)
  where
    at : ((us : List Token) → steps us ≡ Some (r ∷ ss) → SpellsSteps us (r ∷ ss)) → Part ts
        → SpellsSteps ts (s ∷ r ∷ ss)
    at more (Alone c) =
        let j = joined (step ts) (Some []) (s ∷ r ∷ ss) (sym (steps_alone ts c) ∙ h) in
        let none : [] ≡ j.1 = cc j.3 in
        let some : r ∷ ss ≡ j.1 = cc j.4 in
        cc (none, some)
    at more (Before first others e c) =
        let j = joined (step first) (steps others) (s ∷ r ∷ ss) (sym (steps_before ts first others e c) ∙ h) in
        let same : j.0 ≡ s = cc j.4 in
        let later : j.1 ≡ r ∷ ss = cc j.4 in
        (first, others, e, step_spelled first s (j.2 ∙ ap Some same), more others (j.3 ∙ ap Some later))

define_spelled : (ts : List Token) (command : Command) → define ts ≡ Some command
    → Spells (Word (codes "define") ∷ ts) command
define_spelled (Word n ∷ Word p ∷ ts) command h = at (head ts)
  where
    at : Head ts → Spells (Word (codes "define") ∷ Word n ∷ Word p ∷ ts) command
    at (Headless none d) =
        absurd (none-some command (sym (bodiless n p ts (Headless none d) d) ∙ h))
    at (Headed ps rest e b a d f) = made (steps rest) refl
        (sym (bodied n p ts rest (Headed ps rest e b a d f) d
        ∙ ap (λ l. option_map (Command.Define n (p ∷ l)) (steps rest)) f) ∙ h)
      where
        made : (o : Option (List Step)) → steps rest ≡ o → option_map (Command.Define n (p ∷ ps)) o ≡ Some command
            → Spells (Word (codes "define") ∷ Word n ∷ Word p ∷ ts) command
        made None q h = cc
        made (Some ss) q h =
            let s : Spells (Word (codes "define") ∷ Word n ∷ Word p ∷ ts) (Command.Define n (p ∷ ps) ss) =
            (rest, ap (λ l. Word (codes "define") ∷ Word n ∷ Word p ∷ l) e, (λ none. cc), steps_spelled ss rest q)
            in
            let same : Command.Define n (p ∷ ps) ss ≡ command = cc in
            subst (Spells (Word (codes "define") ∷ Word n ∷ Word p ∷ ts)) same s
define_spelled ts command h = cc

-- a command that ends in a value, behind these tokens
ends_in_value : (made : Value → Command) (front ts : List Token) (command : Command) (o : Option Value)
    → ((v : Value) → Spells (front ++ tokens_of_value v) (made v)) → only_value ts ≡ o
    → option_map made o ≡ Some command → Spells (front ++ ts) command
ends_in_value made front ts command None spelled e h = cc
ends_in_value made front ts command (Some v) spelled e h =
    let s : Spells (front ++ ts) (made v) =
    subst (λ l. Spells (front ++ l) (made v)) (sym (one_spelled ts v (values ts) refl e)) (spelled v) in
    let same : made v ≡ command = cc in
    subst (Spells (front ++ ts)) same s

fix_spelled : (ts : List Token) (command : Command) → fix ts ≡ Some command → Spells (Word (codes "fix") ∷ ts) command
fix_spelled (Word x ∷ ts) command h =
    ends_in_value (Command.Fix x) (Word (codes "fix") ∷ Word x ∷ []) ts command (only_value ts) (λ v. refl) refl h
fix_spelled ts command h = cc

tell_spelled : (ts : List Token) (command : Command) → tell ts ≡ Some command
    → Spells (Word (codes "tell") ∷ ts) command
tell_spelled (Word p ∷ Word x ∷ ts) command h =
    ends_in_value (Command.Tell p x) (Word (codes "tell") ∷ Word p ∷ Word x ∷ []) ts command (only_value ts) (λ v. refl)
    refl h
tell_spelled ts command h = cc

-- a command that is its word alone
bare_spelled : (word : List ℕ) (spelled : Command) → Spells (Word word ∷ []) spelled
    → (ts : List Token) (command : Command) → bare spelled ts ≡ Some command → Spells (Word word ∷ ts) command
bare_spelled word spelled s [] command h =
    let e : spelled ≡ command = cc in
    subst (Spells (Word word ∷ [])) e s
bare_spelled word spelled s (t ∷ ts) command h = cc

-- a command of its word and another
on_word_spelled : (word : List ℕ) (made : List ℕ → Command) → ((w : List ℕ) → Spells (Word word ∷ Word w ∷ []) (made w))
    → (ts : List Token) (command : Command) → on_word made ts ≡ Some command → Spells (Word word ∷ ts) command
on_word_spelled word made s (Word w ∷ []) command h =
    let e : made w ≡ command = cc in
    subst (Spells (Word word ∷ Word w ∷ [])) e (s w)
on_word_spelled word made s ts command h = cc

-- what the form reads is spelled, behind its word
abbrev ReadsSpelled : List ℕ × (List Token → Option Command) → Type 0
ReadsSpelled form = (ts : List Token) (command : Command) → form.1 ts ≡ Some command → Spells (Word form.0 ∷ ts) command

forms_spelled : AllByRecursion ReadsSpelled forms
forms_spelled = (
  domain_spelled,
  (
    relation_spelled,
    (
      cell_spelled,
      (
        define_spelled,
        (
          attach_spelled,
          (
            fix_spelled,
            (
              tell_spelled,
              (
                choice_spelled,
                (
                  on_word_spelled (codes "kick") Command.Kick (λ w. refl),
                  (
                    on_word_spelled (codes "bring") Command.Bring (λ w. refl),
                    (
                      on_word_spelled (codes "forget") Command.Forget (λ w. refl),
                      (
                        on_word_spelled (codes "limit") limit_of (λ w. (w, refl, refl)),
                        (
                          bare_spelled (codes "settle") Command.Settle refl,
                          (
                            on_word_spelled (codes "ask") Command.Ask (λ w. refl),
                            (
                              on_word_spelled (codes "why") Command.Why (λ w. refl),
                              (
                                on_word_spelled (codes "core") Command.Core (λ w. refl),
                                (
                                  bare_spelled (codes "worldview") Command.Worldview refl,
                                  (bare_spelled (codes "nogoods") Command.Nogoods refl, tt),
                                ),
                              ),
                            ),
                          ),
                        ),
                      ),
                    ),
                  ),
                ),
              ),
            ),
          ),
        ),
      ),
    ),
  ),
)

found_spelled : (known : List (List ℕ × (List Token → Option Command))) (w : List ℕ) (ts : List Token)
    (command : Command) → AllByRecursion ReadsSpelled known
    → option_and_then (λ form. form.1 ts) (find (λ form. bytes_eq form.0 w) known) ≡ Some command
    → Spells (Word w ∷ ts) command
found_spelled [] w ts command all h = cc
found_spelled (form ∷ known) w ts command all h =
    by (bytes_eq form.0 w) (bytes_eq-Decides form.0 w) (λ e. found_spelled known w ts command all.1 e) h
  where
    by : (b : Bool) → Decides b (form.0 ≡ w)
        → (option_and_then (λ f. f.1 ts) (find (λ f. bytes_eq f.0 w) known) ≡ Some command
        → Spells (Word w ∷ ts) command) → option_and_then (λ f. f.1 ts)
        (cond b (Some form) (find (λ f. bytes_eq f.0 w) known)) ≡ Some command → Spells (Word w ∷ ts) command
    by true d later h = subst (λ v. Spells (Word v ∷ ts) command) (d.0 refl) (all.0 ts command h)
    by false d later h = later h

pub read_is_spelled : (ts : List Token) (command : Command) → read_form ts ≡ Some command → Spells ts command
read_is_spelled (Word w ∷ ts) command h = found_spelled forms w ts command forms_spelled h
read_is_spelled ts command h = cc
