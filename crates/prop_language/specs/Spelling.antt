-- How each command is spelled: the parts of a line that asks for it.
use Prim.Native.String.{String}
use Rattle.std.specs.Prelude.{◌≡◌, ◌≢◌, ℕ, ◌≤◌, List, [], ◌∷◌, ◌++◌, drop, Bool, true, false, codes}
use Rattle.std.specs.Prelude.{pos, unsigned_abs, map, length, is_some}
use Rattle.std.specs.List.{AllByRecursion, AllZip, join_by}
use Rattle.std.specs.Option.{option_map}
use Rattle.prop_language.specs.Tokens.{Token, Word, Open, Close, Semicolon, Equals, Star}
use Rattle.prop_language.specs.Names.{is_name, looks_like_number, number_in}
use Rattle.prop_language.specs.Commands.{Value, Bare, Braces, KindWord, Spans, Truths, Symbols}
use Rattle.prop_language.specs.Commands.{Named, By, Passed, Said, Own, Step, Local, Like, Use}
use Rattle.prop_language.specs.Commands.{Command}

-- the first words of the commands
abbrev pub command_words : List (List ℕ)
command_words = map codes ("domain" ∷ "relation" ∷ "cell" ∷ "define" ∷ "attach" ∷ "fix" ∷ "tell"
    ∷ "choose" ∷ "kick" ∷ "bring" ∷ "forget" ∷ "limit" ∷ "settle" ∷ "ask" ∷ "why" ∷ "core"
    ∷ "worldview" ∷ "nogoods" ∷ [])

-- a token of a line, whether it is a name where it has to be one, and whether it is a number in
-- range where it has to be one
pub record Part : Type 0 where
  pub token : Token
  pub is_named : Bool
  pub is_ranged : Bool

-- a token as it stands
abbrev pub plain : Token → Part
plain t = record { token = t; is_named = true; is_ranged = true }

-- a word of the command's own
abbrev pub own : String → Part
own word = plain (Word (codes word))

-- a word that has to be a name
abbrev pub name : List ℕ → Part
name w = record (plain (Word w)) { is_named = is_name w }

-- a word that has to be a number in range, and whether it is
abbrev pub number : List ℕ → Bool → Part
number w ranged = record (plain (Word w)) { is_ranged = ranged }

-- The part stands for the kind. Three kinds have words of their own, and another word is a domain's
-- name.
abbrev pub IsKind : Part → KindWord → Type 0
IsKind k Spans = k ≡ own "span"
IsKind k Truths = k ≡ own "truth"
IsKind k Symbols = k ≡ own "symbol"
IsKind k (Named n) = (k ≡ name n) × (n ≢ codes "span") × (n ≢ codes "truth") × (n ≢ codes "symbol")

-- The parts stand for what is given. A word behind `by` that begins as a number is one, and another
-- is a relation's name. A step can also give a star.
abbrev pub Gives : Passed → List Part → Type 0
Gives (Said By.Nothing) ps = ps ≡ []
Gives (Said (By.Number n)) ps = (w : List ℕ) × (ps ≡ own "by" ∷ number w (is_some n) ∷ [])
    × (looks_like_number w ≡ true) × (number_in (pos 1) (pos 1_000_000_000) w ≡ n)
Gives (Said (By.Relation r)) ps = (ps ≡ own "by" ∷ name r ∷ []) × (looks_like_number r ≡ false)
Gives Own ps = ps ≡ own "by" ∷ plain Star ∷ []

-- The parts spell a use: its name, one cell or more, of which only the first can be called `by`,
-- and what is given.
abbrev pub SpellsUse : List Part → List ℕ → List (List ℕ) → Passed → Type 0
SpellsUse ps n cells given = (rest : List Part) × (ps ≡ map name (n ∷ cells) ++ rest) × (cells ≢ [])
    × AllByRecursion (λ w. w ≢ codes "by") (drop 1 cells) × Gives given rest

-- The parts spell the step. A use has not the form of a local.
abbrev pub SpellsStep : List Part → Step → Type 0
SpellsStep ps (Local n kind) = (k : Part) × (ps ≡ own "local" ∷ name n ∷ k ∷ []) × IsKind k kind
SpellsStep ps (Like n p) = ps ≡ own "local" ∷ name n ∷ own "like" ∷ name p ∷ []
SpellsStep ps (Use m cells passed) = SpellsUse ps m cells passed × ((n p : List ℕ)
    → (map (λ q. q.token) ps ≢ map Word (codes "local" ∷ n ∷ p ∷ []))
    × (map (λ q. q.token) ps ≢ map Word (codes "local" ∷ n ∷ codes "like" ∷ p ∷ [])))

-- the parts of a value; whether its words are right is left to the cell
abbrev pub value_parts : Value → List Part
value_parts (Bare w) = plain (Word w) ∷ []
value_parts (Braces ws) = map plain (Open ∷ map Word ws ++ Close ∷ [])

-- The parts spell the command. Of a domain's elements, a relation's pairs and a definition's
-- parameters and steps there is one or more, and of a choice's values there are two to eight.
abbrev pub Spells : List Part → Command → Type 0
Spells ps (Command.Domain n es) = (ps ≡ own "domain" ∷ map name (n ∷ es)) × (es ≢ [])
Spells ps (Command.Relation n d e pairs) =
    (pairs ≢ []) × (ps ≡ own "relation" ∷ name n ∷ name d ∷ name e ∷ map plain
    (Equals ∷ join_by (λ p. Word p.0 ∷ Word p.1 ∷ []) (Semicolon ∷ []) pairs))
Spells ps (Command.Cell n kind) = (k : Part) × (ps ≡ own "cell" ∷ name n ∷ k ∷ []) × IsKind k kind
Spells ps (Command.Define n params steps) =
    (parts : List (List Part)) × AllZip SpellsStep parts steps × (params ≢ []) × (steps ≢ [])
    × (ps ≡ own "define" ∷ map name (n ∷ params)
    ++ plain Equals ∷ join_by (λ part. part) (plain Semicolon ∷ []) parts)
Spells ps (Command.Attach n cells by) =
    (used : List Part) × (ps ≡ own "attach" ∷ used) × SpellsUse used n cells (Said by)
Spells ps (Command.Fix cell value) = ps ≡ own "fix" ∷ name cell ∷ value_parts value
Spells ps (Command.Tell p cell value) = ps ≡ own "tell" ∷ name p ∷ name cell ∷ value_parts value
Spells ps (Command.Choose n cell values) = (2 ≤ length values) × (length values ≤ 8)
    × (ps ≡ own "choose" ∷ name n ∷ name cell ∷ join_by value_parts (own "or" ∷ []) values)
Spells ps (Command.Kick premise) = ps ≡ own "kick" ∷ name premise ∷ []
Spells ps (Command.Bring premise) = ps ≡ own "bring" ∷ name premise ∷ []
Spells ps (Command.Forget premise) = ps ≡ own "forget" ∷ name premise ∷ []
Spells ps (Command.Limit steps) = (w : List ℕ) × (ps ≡ own "limit" ∷ number w (is_some steps) ∷ [])
    × (option_map unsigned_abs (number_in (pos 0) (pos 1_000_000_000_000_000) w) ≡ steps)
Spells ps (Command.Ask cell) = ps ≡ own "ask" ∷ name cell ∷ []
Spells ps (Command.Why cell) = ps ≡ own "why" ∷ name cell ∷ []
Spells ps (Command.Core cell) = ps ≡ own "core" ∷ name cell ∷ []
Spells ps Command.Settle = ps ≡ own "settle" ∷ []
Spells ps Command.Worldview = ps ≡ own "worldview" ∷ []
Spells ps Command.Nogoods = ps ≡ own "nogoods" ∷ []
