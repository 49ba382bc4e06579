-- The form of each command: what is read from the tokens after its word.
use Rattle.std.specs.Prelude.{ℕ, List, [], ◌∷◌, ◌++◌, Bool, true, false, cond, ◌&&◌, codes}
use Rattle.std.specs.Prelude.{bytes_eq, Option, Some, None, pos, unsigned_abs, length, nat_le}
use Rattle.std.specs.Option.{option_map, option_and_then, option_or}
use Rattle.std.specs.List.{slice_split, before_first, after_first}
use Rattle.prop_language.specs.Tokens.{Token, Word, Open, Close, Semicolon, Equals, Star}
use Rattle.prop_language.specs.Names.{looks_like_number, number_in}
use Rattle.prop_language.specs.Commands.{Value, Bare, Braces, KindWord, Spans, Truths, Symbols}
use Rattle.prop_language.specs.Commands.{Named, By, Passed, Step, Command}

-- an item before items, where there are both
abbrev pub join : {X : Type 0} → Option X → Option (List X) → Option (List X)
join (Some x) (Some xs) = Some (x ∷ xs)
join (Some x) None = None
join None xs = None

-- no tokens
abbrev pub bare : Command → List Token → Option Command
bare command [] = Some command
bare command (t ∷ ts) = None

-- one word
abbrev pub on_word : (List ℕ → Command) → List Token → Option Command
on_word command (Word w ∷ []) = Some (command w)
on_word command ts = None

-- words and no marks
abbrev pub only_words : List Token → Option (List (List ℕ))
only_words [] = Some []
only_words (Word w ∷ ts) = join (Some w) (only_words ts)
only_words (t ∷ ts) = None

-- D e ..: a name, and one element or more
abbrev pub domain : List Token → Option Command
domain (Word name ∷ Word e ∷ ts) = option_map (λ es. Command.Domain name (e ∷ es)) (only_words ts)
domain ts = None

-- one pair of words or more, with a semicolon between each two pairs
abbrev pub pairs : List Token → Option (List (List ℕ × List ℕ))
pairs (Word a ∷ Word b ∷ []) = Some ((a, b) ∷ [])
pairs (Word a ∷ Word b ∷ Semicolon ∷ ts) = join (Some (a, b)) (pairs ts)
pairs ts = None

-- R D E = a b ; c d ..: a name, the names of two domains, and pairs
abbrev pub relation : List Token → Option Command
relation (Word name ∷ Word d ∷ Word e ∷ Equals ∷ ts) =
    option_map (Command.Relation name d e) (pairs ts)
relation ts = None

-- one of three words of its own, and else a domain's name
abbrev pub kind_word : List ℕ → KindWord
kind_word w =
    cond (bytes_eq w (codes "span")) Spans
    (cond (bytes_eq w (codes "truth")) Truths
    (cond (bytes_eq w (codes "symbol")) Symbols (Named w)))

-- X KIND
abbrev pub cell : List Token → Option Command
cell (Word name ∷ Word kind ∷ []) = Some (Command.Cell name (kind_word kind))
cell ts = None

-- a number where the word begins as one, and else a relation
abbrev pub parameter : List ℕ → By
parameter w = cond (looks_like_number w) (By.Number (number_in (pos 1) (pos 1_000_000_000) w))
    (By.Relation w)

-- what follows `by`, if there is a `by`: one word
abbrev pub by_form : Option (List Token) → Option By
by_form None = Some By.Nothing
by_form (Some (Word p ∷ [])) = Some (parameter p)
by_form (Some ts) = None

abbrev pub with_cell : {P : Type 0} → List ℕ → List (List ℕ) × P → List (List ℕ) × P
with_cell x (xs, by) = (x ∷ xs, by)

-- cells, and what is read behind the first `by`
abbrev pub cells_by : {P : Type 0} → (Option (List Token) → Option P) → List Token
    → Option (List (List ℕ) × P)
cells_by read [] = option_map (λ by. ([], by)) (read None)
cells_by read (Word w ∷ ts) =
    cond (bytes_eq w (codes "by")) (option_map (λ by. ([], by)) (read (Some ts)))
    (option_map (with_cell w) (cells_by read ts))
cells_by read (t ∷ ts) = None

-- N X.. [by P]: a name, one cell or more, and maybe a parameter
abbrev pub attach : List Token → Option Command
attach (Word n ∷ Word x ∷ ts) =
    option_map (λ rest. Command.Attach n (x ∷ rest.0) rest.1) (cells_by by_form ts)
attach ts = None

-- local n KIND
abbrev pub local_of_kind : List Token → Option Step
local_of_kind (Word l ∷ Word n ∷ Word kind ∷ []) =
    cond (bytes_eq l (codes "local")) (Some (Step.Local n (kind_word kind))) None
local_of_kind ts = None

-- local n like p
abbrev pub local_like : List Token → Option Step
local_like (Word l ∷ Word n ∷ Word like ∷ Word p ∷ []) =
    cond (bytes_eq l (codes "local") && bytes_eq like (codes "like")) (Some (Step.Like n p)) None
local_like ts = None

-- what follows a step's `by`: as in a command, or a star
abbrev pub passed_form : Option (List Token) → Option Passed
passed_form (Some (Star ∷ [])) = Some Passed.Own
passed_form ts = option_map Passed.Said (by_form ts)

-- M X.. [by P]: a name, one cell or more, and maybe a parameter
abbrev pub use_step : List Token → Option Step
use_step (Word m ∷ Word x ∷ ts) =
    option_map (λ rest. Step.Use m (x ∷ rest.0) rest.1) (cells_by passed_form ts)
use_step ts = None

-- a local where it has one of the two forms, and else a use, even of the name `local`
abbrev pub step : List Token → Option Step
step ts = option_or (local_of_kind ts) (option_or (local_like ts) (use_step ts))

-- what is read from each, where something is read from all
abbrev pub each : {X Y : Type 0} → (X → Option Y) → List X → Option (List Y)
each read [] = Some []
each read (x ∷ xs) = join (read x) (each read xs)

abbrev pub is_semicolon : Token → Bool
is_semicolon Semicolon = true
is_semicolon token = false

abbrev pub is_equals : Token → Bool
is_equals Equals = true
is_equals token = false

-- one step or more, with a semicolon between each two steps
abbrev pub steps : List Token → Option (List Step)
steps ts = each step (slice_split is_semicolon ts)

-- N p.. = step ; step ..: a name, one parameter or more, and steps
abbrev pub define : List Token → Option Command
define (Word n ∷ Word p ∷ ts) =
    option_and_then (λ ps. option_map (Command.Define n (p ∷ ps))
    (steps (after_first is_equals ts))) (only_words (before_first is_equals ts))
define ts = None

abbrev mutual
  -- the values that words and braces make
  pub values : List Token → Option (List Value)
  values [] = Some []
  values (Word w ∷ ts) = join (Some (Bare w)) (values ts)
  values (Open ∷ ts) = in_braces [] ts
  values (t ∷ ts) = None

  -- the same, where these words stand behind an open brace
  pub in_braces : List (List ℕ) → List Token → Option (List Value)
  in_braces ws [] = None
  in_braces ws (Word w ∷ ts) = in_braces (ws ++ w ∷ []) ts
  in_braces ws (Close ∷ ts) = join (Some (Braces ws)) (values ts)
  in_braces ws (t ∷ ts) = None

-- a number from 0 on
abbrev pub limit_of : List ℕ → Command
limit_of w = Command.Limit (option_map unsigned_abs
    (number_in (pos 0) (pos 1_000_000_000_000_000) w))

abbrev pub one_value : List Value → Option Value
one_value (v ∷ []) = Some v
one_value vs = None

-- V: one value and no more
abbrev pub only_value : List Token → Option Value
only_value ts = option_and_then one_value (values ts)

-- X V
abbrev pub fix : List Token → Option Command
fix (Word x ∷ ts) = option_map (Command.Fix x) (only_value ts)
fix ts = None

-- P X V
abbrev pub tell : List Token → Option Command
tell (Word p ∷ Word x ∷ ts) = option_map (Command.Tell p x) (only_value ts)
tell ts = None

-- V or W ..: values, with the word `or` between each two, told from a value by where it stands
abbrev pub sides : List Value → Option (List Value)
sides (v ∷ []) = Some (v ∷ [])
sides (v ∷ Bare w ∷ vs) = cond (bytes_eq w (codes "or")) (join (Some v) (sides vs)) None
sides vs = None

-- two to eight
abbrev pub two_to_eight : List Value → Option (List Value)
two_to_eight vs = cond (nat_le 2 (length vs) && nat_le (length vs) 8) (Some vs) None

-- C X V or W ..
abbrev pub choose : List Token → Option Command
choose (Word c ∷ Word x ∷ ts) =
    option_map (Command.Choose c x)
    (option_and_then two_to_eight (option_and_then sides (values ts)))
choose ts = None

-- the form of each command, behind its word
abbrev pub forms : List (List ℕ × (List Token → Option Command))
forms =
    (codes "domain", domain)
    ∷ (codes "relation", relation)
    ∷ (codes "cell", cell)
    ∷ (codes "define", define)
    ∷ (codes "attach", attach)
    ∷ (codes "fix", fix)
    ∷ (codes "tell", tell)
    ∷ (codes "choose", choose)
    ∷ (codes "kick", on_word Command.Kick)
    ∷ (codes "bring", on_word Command.Bring)
    ∷ (codes "forget", on_word Command.Forget)
    ∷ (codes "limit", on_word limit_of)
    ∷ (codes "settle", bare Command.Settle)
    ∷ (codes "ask", on_word Command.Ask)
    ∷ (codes "why", on_word Command.Why)
    ∷ (codes "core", on_word Command.Core)
    ∷ (codes "worldview", bare Command.Worldview)
    ∷ (codes "nogoods", bare Command.Nogoods)
    ∷ []
