-- What the parts of the reader answer.
use Rattle.std.specs.Prelude.{◌≡◌, ℕ, List, [], ◌∷◌, Bool, true, false, cond, not, nat_le, bytes_eq}
use Rattle.std.specs.Prelude.{codes, ◌||◌, Option, Some, None, is_some, map, flat_map, ⊤, Contains}
use Rattle.std.specs.Prelude.{Result, Ok, Err}
use Rattle.std.specs.Option.{option_map, option_and_then}
use Rattle.std.specs.List.{list_all}
use Rattle.std.specs.Borrow.{Bor}
use Rattle.prop_refusals.specs.declared.refusal.Refusal.{Refusal}
use Rattle.prop_refusals.specs.declared.refusal.Refusal.TheVariants.{UnknownCommand, WrongForm}
use Rattle.prop_refusals.specs.declared.refusal.Refusal.TheVariants.{NotAName, NotANumber}
use Rattle.prop_language.specs.Tokens.{Token, Word, Open, Close, Semicolon, Equals, Star, is_blank}
use Rattle.prop_language.specs.Tokens.{mark_of}
use Rattle.prop_language.specs.Names.{is_name}
use Rattle.prop_language.specs.inner.Digits.{digits_number}
use Rattle.prop_language.specs.Commands.{Value, By, Passed, Step, Command}
use Rattle.prop_language.specs.inner.Forms.{join, bare, each, step, on_word, limit_of, domain}
use Rattle.prop_language.specs.inner.Forms.{relation, cell, define, attach, fix, tell, choose}
use Rattle.prop_language.specs.inner.Forms.{parameter, values, sides, two_to_eight}
use Rattle.prop_language.specs.inner.Grammar.{by_names, is_by_in_range, passed_names}
use Rattle.prop_language.specs.inner.Grammar.{is_passed_in_range, step_names, is_step_in_range}
use Rattle.prop_language.specs.inner.Parsing.{command_in_form}
use Rattle.prop_language.specs.Said.{Reads, step_of}
use Rattle.prop_language.specs.declared.command.Step as kept
use Rattle.prop_language.specs.declared.command.Command as made
use Rattle.prop_language.specs.declared.tokens.Token as read
use Rattle.prop_language.specs.declared.tokens.Token.TheVariants as reads
use Rattle.prop_language.specs.declared.steps.Given.{Given}
use Rattle.prop_language.specs.declared.steps.Given.TheVariants as givens
use Rattle.prop_language.specs.declared.reading.CommandWord.{CommandWord}
use Rattle.prop_language.specs.declared.reading.CommandWord.TheVariants.{Domain, Relation, Cell}
use Rattle.prop_language.specs.declared.reading.CommandWord.TheVariants.{Define, Attach, Fix, Tell}
use Rattle.prop_language.specs.declared.reading.CommandWord.TheVariants.{Choose, Kick, Bring}
use Rattle.prop_language.specs.declared.reading.CommandWord.TheVariants.{Forget, Limit, Settle, Ask}
use Rattle.prop_language.specs.declared.reading.CommandWord.TheVariants.{Why, Core, Worldview}
use Rattle.prop_language.specs.declared.reading.CommandWord.TheVariants.{Nogoods}

-- a token without where its word lies in memory
abbrev pub token_of : read.Token → Token
token_of (reads.Word word) = Word word.now
token_of reads.Open = Open
token_of reads.Close = Close
token_of reads.Semicolon = Semicolon
token_of reads.Equals = Equals
token_of reads.Star = Star

-- neither a mark nor a space or tab
abbrev pub IsInWord : ℕ → Type 0
IsInWord b = (is_blank b ≡ false) × (mark_of b ≡ None)

-- the bytes are none, or begin with one that doesn't pass
abbrev pub StartsPast : (ℕ → Bool) → List ℕ → Type 0
StartsPast p [] = ⊤
StartsPast p (b ∷ bytes) = p b ≡ false

-- the bytes are none, or begin with what ends a word
abbrev pub EndsWord : List ℕ → Type 0
EndsWord [] = ⊤
EndsWord (b ∷ bytes) = (is_blank b || is_some (mark_of b)) ≡ true

abbrev pub up_to : ℕ → ℕ → Option ℕ
up_to most n = cond (nat_le n most) (Some n) None

-- the number of these digits, where it is at most this
abbrev pub number_up_to : ℕ → List ℕ → Option ℕ
number_up_to most digits = option_and_then (up_to most) (digits_number digits)

-- the first word, and the tokens after it
abbrev pub front : List Token → Option (List ℕ × List Token)
front (Word w ∷ ts) = Some (w, ts)
front ts = None

-- the one word that there is
abbrev pub one_word : List Token → Option (List ℕ)
one_word (Word w ∷ []) = Some w
one_word ts = None

-- the tokens are words alone
abbrev pub are_words : List Token → Bool
are_words [] = true
are_words (Word w ∷ ts) = are_words ts
are_words (t ∷ ts) = false

-- the words up to the first mark
abbrev pub front_words : List Token → List (List ℕ)
front_words (Word w ∷ ts) = w ∷ front_words ts
front_words ts = []

-- these pairs before others, where there are others
abbrev pub before_pairs : List (List ℕ × List ℕ) → Option (List (List ℕ × List ℕ))
    → Option (List (List ℕ × List ℕ))
before_pairs [] others = others
before_pairs (p ∷ ps) others = join (Some p) (before_pairs ps others)

-- what stands behind the first `by`, if there is a `by`, where words stand before it
abbrev pub behind_by : List Token → Option (Option (List Token))
behind_by [] = Some None
behind_by (Word w ∷ ts) = cond (bytes_eq w (codes "by")) (Some (Some ts)) (behind_by ts)
behind_by (t ∷ ts) = None

-- what is read behind the first `by`
abbrev pub given : {P : Type 0} → (Option (List Token) → Option P) → List Token → Option P
given read ts = option_and_then read (behind_by ts)

-- the words before the first `by`
abbrev pub before_by : List Token → List (List ℕ)
before_by (Word w ∷ ts) = cond (bytes_eq w (codes "by")) [] (w ∷ before_by ts)
before_by ts = []

abbrev pub parameter_said : Option (Bor (List ℕ)) → By
parameter_said None = By.Nothing
parameter_said (Some word) = parameter word.now

-- what was read, where its names are names and its numbers in range
abbrev pub judged : {X : Type 0} → List (List ℕ) → Bool → X → Result X Refusal
judged names in_range read =
    cond (not (list_all is_name names)) (Err NotAName)
    (cond (not in_range) (Err NotANumber) (Ok read))

abbrev pub by_in_range : By → Result By Refusal
by_in_range by = judged (by_names by) (is_by_in_range by) by

abbrev pub passed_said : Given → Passed
passed_said (givens.Said word) = Passed.Said (parameter_said word)
passed_said givens.Own = Passed.Own

abbrev pub passed_in_range : Passed → Result Passed Refusal
passed_in_range passed = judged (passed_names passed) (is_passed_in_range passed) passed

abbrev pub step_in_range : Step → Result Step Refusal
step_in_range step = judged (step_names step) (is_step_in_range step) step

abbrev pub steps_in_range : List Step → Result (List Step) Refusal
steps_in_range steps = judged (flat_map step_names steps) (list_all is_step_in_range steps) steps

-- the reader answers what was read so
abbrev pub ReadsAs : Result made.Command Refusal → Result (Option Command) Refusal → Type 0
ReadsAs result read = Reads result (λ other. read ≡ other)

-- the step by itself
abbrev pub step_in_form : Option Step → Result Step Refusal
step_in_form None = Err WrongForm
step_in_form (Some step) = step_in_range step

-- the steps, or why they are refused
abbrev pub steps_said : List kept.Step → Option Refusal → Result (List Step) Refusal
steps_said steps None = Ok (map step_of steps)
steps_said steps (Some refusal) = Err refusal

-- what was read of some parts is what their steps say
abbrev pub Says : (parts : List (List Token)) → List kept.Step → Option Refusal → Type 0
Says parts read refused = option_map steps_in_range (each step parts) ≡ Some
    (steps_said read refused)

-- the tokens after this word
abbrev pub behind_word : List ℕ → List Token → Option (List Token)
behind_word wanted (Word w ∷ ts) = cond (bytes_eq w wanted) (Some ts) None
behind_word wanted ts = None

-- the tokens after the first equals sign, where words stand before it
abbrev pub body : List Token → Option (List Token)
body (Word w ∷ ts) = body ts
body (Equals ∷ ts) = Some ts
body ts = None

-- the values, where there are any
abbrev pub some_values : List Token → Option (List Value)
some_values [] = None
some_values (t ∷ ts) = values (t ∷ ts)

-- the values between which each `or` stands
abbrev pub sides_in : List Token → Option (List Value)
sides_in ts = option_and_then sides (values ts)

-- the same, of which there are two to eight
abbrev pub few_sides_in : List Token → Option (List Value)
few_sides_in ts = option_and_then two_to_eight (sides_in ts)

-- these values before others, where there are others
abbrev pub before_sides : List Value → Option (List Value) → Option (List Value)
before_sides [] others = others
before_sides (v ∷ vs) others = join (Some v) (before_sides vs others)

-- the form of the command that has this word
abbrev pub form_of : CommandWord → List Token → Option Command
form_of Domain = domain
form_of Relation = relation
form_of Cell = cell
form_of Define = define
form_of Attach = attach
form_of Fix = fix
form_of Tell = tell
form_of Choose = choose
form_of Kick = on_word Command.Kick
form_of Bring = on_word Command.Bring
form_of Forget = on_word Command.Forget
form_of Limit = on_word limit_of
form_of Settle = bare Command.Settle
form_of Ask = on_word Command.Ask
form_of Why = on_word Command.Why
form_of Core = on_word Command.Core
form_of Worldview = bare Command.Worldview
form_of Nogoods = bare Command.Nogoods

abbrev pub form_entry : Bor (List ℕ) × CommandWord → List ℕ × (List Token → Option Command)
form_entry (word, command) = (word.now, form_of command)

-- what the form of a command reads, where there is one
abbrev pub read_by : Option CommandWord → List Token → Result (Option Command) Refusal
read_by None ts = Err UnknownCommand
read_by (Some word) ts = command_in_form (form_of word ts)

abbrev pub BeginsOpen : List Token → Type 0
BeginsOpen (Open ∷ ts) = ⊤
BeginsOpen ts = ⊥

-- the command keeps a list of the words in these tokens
abbrev pub KeepsWordsOf : CommandWord → List Token → Type 0
KeepsWordsOf Domain ts = ⊤
KeepsWordsOf Relation ts = ⊤
KeepsWordsOf Define ts = ⊤
KeepsWordsOf Attach ts = ⊤
KeepsWordsOf Fix ts = Contains ts Open
KeepsWordsOf Tell ts = Contains ts Open
KeepsWordsOf Choose ts = ⊤
KeepsWordsOf command ts = ⊥

abbrev pub word_of : CommandWord → List ℕ
word_of Domain = codes "domain"
word_of Relation = codes "relation"
word_of Cell = codes "cell"
word_of Define = codes "define"
word_of Attach = codes "attach"
word_of Fix = codes "fix"
word_of Tell = codes "tell"
word_of Choose = codes "choose"
word_of Kick = codes "kick"
word_of Bring = codes "bring"
word_of Forget = codes "forget"
word_of Limit = codes "limit"
word_of Settle = codes "settle"
word_of Ask = codes "ask"
word_of Why = codes "why"
word_of Core = codes "core"
word_of Worldview = codes "worldview"
word_of Nogoods = codes "nogoods"

-- the command has its own word
abbrev pub is_worded : Bor (List ℕ) × CommandWord → Bool
is_worded (word, command) = bytes_eq word.now (word_of command)
