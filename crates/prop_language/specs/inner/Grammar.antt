-- How each command is spelled, of tokens alone, and which of their words have to be names.
use Rattle.std.specs.Prelude.{◌≡◌, ◌≢◌, ◌⊎◌, ℕ, ◌≤◌, List, [], ◌∷◌, ◌++◌, Bool, true, false, cond}
use Rattle.std.specs.Prelude.{not, codes, pos, unsigned_abs, map, flat_map, length, is_some, Option}
use Rattle.std.specs.Prelude.{Some, Result, Ok, Err}
use Rattle.std.specs.List.{AllByRecursion, list_all}
use Rattle.std.specs.Option.{option_map}
use Rattle.prop_refusals.specs.declared.refusal.Refusal.{Refusal}
use Rattle.prop_refusals.specs.declared.refusal.Refusal.TheVariants.{NotAName, NotANumber}
use Rattle.prop_language.specs.Tokens.{Token, Word, Open, Close, Semicolon, Equals, Star}
use Rattle.prop_language.specs.Names.{is_name, looks_like_number, number_in}
use Rattle.prop_language.specs.Commands.{Value, Bare, Braces, KindWord, Spans, Truths, Symbols}
use Rattle.prop_language.specs.Commands.{Named, By, Passed, Step, Command}

-- the tokens have one of the forms of a local
abbrev pub IsLocal : List Token → Type 0
IsLocal ts =
    ((n kind : List ℕ) × (ts ≡ map Word (codes "local" ∷ n ∷ kind ∷ [])))
    ⊎ ((n p : List ℕ) × (ts ≡ map Word (codes "local" ∷ n ∷ codes "like" ∷ p ∷ [])))

abbrev pub tokens_of_value : Value → List Token
tokens_of_value (Bare w) = Word w ∷ []
tokens_of_value (Braces ws) = Open ∷ map Word ws ++ Close ∷ []

-- The word stands for the kind. Three kinds have words of their own, and another word is a domain's
-- name.
abbrev pub StandsFor : List ℕ → KindWord → Type 0
StandsFor w Spans = w ≡ codes "span"
StandsFor w Truths = w ≡ codes "truth"
StandsFor w Symbols = w ≡ codes "symbol"
StandsFor w (Named name) = (w ≡ name) × (w ≢ codes "span") × (w ≢ codes "truth")
    × (w ≢ codes "symbol")

-- none of the words is `by`
abbrev pub HaveNoBy : List (List ℕ) → Type 0
HaveNoBy words = AllByRecursion (λ w. w ≢ codes "by") words

-- The tokens give the parameter. A word that begins as a number is one, and another is a relation's
-- name.
abbrev pub Gives : By → List Token → Type 0
Gives By.Nothing ts = ts ≡ []
Gives (By.Number n) ts =
    (p : List ℕ) × (ts ≡ Word (codes "by") ∷ Word p ∷ []) × (looks_like_number p ≡ true)
    × (number_in (pos 1) (pos 1_000_000_000) p ≡ n)
Gives (By.Relation r) ts = (ts ≡ Word (codes "by") ∷ Word r ∷ []) × (looks_like_number r ≡ false)

-- the same of a step, which can also give a star
abbrev pub Passes : Passed → List Token → Type 0
Passes (Passed.Said by) ts = Gives by ts
Passes Passed.Own ts = ts ≡ Word (codes "by") ∷ Star ∷ []

-- The tokens spell the step. A use has one cell or more, of which only the first can be called
-- `by`, and not the form of a local.
abbrev pub SpellsStep : List Token → Step → Type 0
SpellsStep ts (Step.Local n kind) =
    (word : List ℕ) × (ts ≡ Word (codes "local") ∷ Word n ∷ Word word ∷ []) × StandsFor word kind
SpellsStep ts (Step.Like n p) =
    ts ≡ Word (codes "local") ∷ Word n ∷ Word (codes "like") ∷ Word p ∷ []
SpellsStep ts (Step.Use m [] passed) = ⊥
SpellsStep ts (Step.Use m (x ∷ xs) passed) =
    (rest : List Token) × (ts ≡ Word m ∷ Word x ∷ map Word xs ++ rest) × HaveNoBy xs
    × Passes passed rest × ¬ (IsLocal ts)

-- the tokens spell the steps, of which there is one or more, with a semicolon between each two
abbrev pub SpellsSteps : List Token → List Step → Type 0
SpellsSteps ts [] = ⊥
SpellsSteps ts (s ∷ []) = SpellsStep ts s
SpellsSteps ts (s ∷ r ∷ steps) =
    (first others : List Token) × (ts ≡ first ++ Semicolon ∷ others) × SpellsStep first s
    × SpellsSteps others (r ∷ steps)

-- the number of a choice's values
abbrev pub AreTwoToEight : List Value → Type 0
AreTwoToEight vs = (2 ≤ length vs) × (length vs ≤ 8)

-- The tokens spell the command. Of a domain's elements, a relation's pairs, a definition's
-- parameters and steps and an attachment's cells there is one or more, and of the cells only the
-- first can be called `by`. A choice has two to eight values.
abbrev pub Spells : List Token → Command → Type 0
Spells ts (Command.Domain name elements) =
    (ts ≡ Word (codes "domain") ∷ Word name ∷ map Word elements) × (elements ≢ [])
Spells ts (Command.Relation name d e []) = ⊥
Spells ts (Command.Relation name d e (p ∷ ps)) =
    ts ≡ Word (codes "relation") ∷ Word name ∷ Word d ∷ Word e ∷ Equals ∷ Word p.0 ∷ Word
    p.1 ∷ flat_map (λ q. Semicolon ∷ Word q.0 ∷ Word q.1 ∷ []) ps
Spells ts (Command.Cell name kind) =
    (word : List ℕ) × (ts ≡ Word (codes "cell") ∷ Word name ∷ Word word ∷ []) × StandsFor word kind
Spells ts (Command.Define name params steps) =
    (rest : List Token) × (ts ≡ Word (codes "define") ∷ Word name ∷ map Word
    params ++ Equals ∷ rest) × (params ≢ []) × SpellsSteps rest steps
Spells ts (Command.Attach name [] by) = ⊥
Spells ts (Command.Attach name (x ∷ xs) by) =
    (rest : List Token) × (ts ≡ Word (codes "attach") ∷ Word name ∷ Word x ∷ map Word xs ++ rest)
    × HaveNoBy xs × Gives by rest
Spells ts (Command.Fix cell value) = ts ≡ Word (codes "fix") ∷ Word cell ∷ tokens_of_value value
Spells ts (Command.Tell premise cell value) =
    ts ≡ Word (codes "tell") ∷ Word premise ∷ Word cell ∷ tokens_of_value value
Spells ts (Command.Choose name cell []) = ⊥
Spells ts (Command.Choose name cell (v ∷ vs)) =
    (ts ≡ Word (codes "choose") ∷ Word name ∷ Word cell ∷ tokens_of_value v ++ flat_map
    (λ w. Word (codes "or") ∷ tokens_of_value w) vs) × AreTwoToEight (v ∷ vs)
Spells ts (Command.Kick premise) = ts ≡ Word (codes "kick") ∷ Word premise ∷ []
Spells ts (Command.Bring premise) = ts ≡ Word (codes "bring") ∷ Word premise ∷ []
Spells ts (Command.Forget premise) = ts ≡ Word (codes "forget") ∷ Word premise ∷ []
Spells ts (Command.Limit steps) =
    (w : List ℕ) × (ts ≡ Word (codes "limit") ∷ Word w ∷ [])
    × (option_map unsigned_abs (number_in (pos 0) (pos 1_000_000_000_000_000) w) ≡ steps)
Spells ts Command.Settle = ts ≡ Word (codes "settle") ∷ []
Spells ts (Command.Ask cell) = ts ≡ Word (codes "ask") ∷ Word cell ∷ []
Spells ts (Command.Why cell) = ts ≡ Word (codes "why") ∷ Word cell ∷ []
Spells ts (Command.Core cell) = ts ≡ Word (codes "core") ∷ Word cell ∷ []
Spells ts Command.Worldview = ts ≡ Word (codes "worldview") ∷ []
Spells ts Command.Nogoods = ts ≡ Word (codes "nogoods") ∷ []

-- ---- names and numbers

-- a kind's own words are no names
abbrev pub kind_names : KindWord → List (List ℕ)
kind_names (Named name) = name ∷ []
kind_names kind = []

abbrev pub by_names : By → List (List ℕ)
by_names (By.Relation name) = name ∷ []
by_names by = []

abbrev pub passed_names : Passed → List (List ℕ)
passed_names (Passed.Said by) = by_names by
passed_names Passed.Own = []

abbrev pub step_names : Step → List (List ℕ)
step_names (Step.Local n kind) = n ∷ kind_names kind
step_names (Step.Like n p) = n ∷ p ∷ []
step_names (Step.Use m cells passed) = m ∷ cells ++ passed_names passed

-- the words that stand in a name's place; those in values are left to the cell, and those in pairs
-- to the domains
abbrev pub names_in : Command → List (List ℕ)
names_in (Command.Domain name elements) = name ∷ elements
names_in (Command.Relation name d e pairs) = name ∷ d ∷ e ∷ []
names_in (Command.Cell name kind) = name ∷ kind_names kind
names_in (Command.Define name params steps) = name ∷ params ++ flat_map step_names steps
names_in (Command.Attach name cells by) = name ∷ cells ++ by_names by
names_in (Command.Fix cell value) = cell ∷ []
names_in (Command.Tell premise cell value) = premise ∷ cell ∷ []
names_in (Command.Choose name cell values) = name ∷ cell ∷ []
names_in (Command.Kick premise) = premise ∷ []
names_in (Command.Bring premise) = premise ∷ []
names_in (Command.Forget premise) = premise ∷ []
names_in (Command.Limit steps) = []
names_in Command.Settle = []
names_in (Command.Ask cell) = cell ∷ []
names_in (Command.Why cell) = cell ∷ []
names_in (Command.Core cell) = cell ∷ []
names_in Command.Worldview = []
names_in Command.Nogoods = []

abbrev pub is_by_in_range : By → Bool
is_by_in_range (By.Number n) = is_some n
is_by_in_range by = true

abbrev pub is_passed_in_range : Passed → Bool
is_passed_in_range (Passed.Said by) = is_by_in_range by
is_passed_in_range Passed.Own = true

abbrev pub is_step_in_range : Step → Bool
is_step_in_range (Step.Use m cells passed) = is_passed_in_range passed
is_step_in_range step = true

-- each number of the command was one of its range
abbrev pub is_in_range : Command → Bool
is_in_range (Command.Attach name cells by) = is_by_in_range by
is_in_range (Command.Define name params steps) = list_all is_step_in_range steps
is_in_range (Command.Limit steps) = is_some steps
is_in_range command = true

-- the command, where its names are names and its numbers in range
abbrev pub command_in_range : Command → Result (Option Command) Refusal
command_in_range command =
    cond (not (list_all is_name (names_in command))) (Err NotAName)
    (cond (not (is_in_range command)) (Err NotANumber) (Ok (Some command)))
