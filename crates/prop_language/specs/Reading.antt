-- What a line asks for, or the first reason in the line alone why it is refused.
use Rattle.std.specs.Prelude.{◌≡◌, ◌⊎◌, ℕ, ◌<◌, ◌≤◌, List, [], ◌∷◌, Bool, true, false, cond}
use Rattle.std.specs.Prelude.{not, ◌==◌, length, Option, Some, None, Result, Ok, Err, map, IsUtf8}
use Rattle.std.specs.List.{list_all}
use Rattle.std.specs.Str.Lines.{strip_carriage_return}
use Rattle.prop_refusals.specs.declared.refusal.Refusal.{Refusal}
use Rattle.prop_refusals.specs.declared.refusal.Refusal.TheVariants.{LineTooLong, NotUtf8}
use Rattle.prop_refusals.specs.declared.refusal.Refusal.TheVariants.{UnknownCommand, WrongForm}
use Rattle.prop_refusals.specs.declared.refusal.Refusal.TheVariants.{NotAName, NotANumber}
use Rattle.prop_language.specs.Tokens.{Token, Word, tokens, is_blank}
use Rattle.prop_language.specs.Names.{is_among}
use Rattle.prop_language.specs.Commands.{Command}
use Rattle.prop_language.specs.Spelling.{Part, Spells, command_words}

-- spaces and tabs alone, or a number sign as the first other character
abbrev pub is_silent : List ℕ → Bool
is_silent [] = true
is_silent (b ∷ bytes) = cond (is_blank b) (is_silent bytes) (b == 35)

-- the first token is the word of a command
abbrev pub begins_as_command : List Token → Bool
begins_as_command (Word w ∷ ts) = is_among command_words w
begins_as_command ts = false

-- what tokens ask for: the command that they spell, where its names are names and its numbers in
-- range; those that spell none are refused
abbrev pub AskFor : List Token → Result (Option Command) Refusal → Type 0
AskFor ts read =
    ((ps : List Part) × (command : Command) × (map (λ p. p.token) ps ≡ ts) × Spells ps command
    × (read ≡ cond (not (list_all (λ p. p.is_named) ps)) (Err NotAName)
    (cond (not (list_all (λ p. p.is_ranged) ps)) (Err NotANumber) (Ok (Some command)))))
    ⊎ (((ps : List Part) (command : Command) → map (λ p. p.token) ps ≡ ts → ¬ (Spells ps command))
    × (read ≡ Err (cond (begins_as_command ts) WrongForm UnknownCommand)))

-- what a line asks for, None where it gets no reply; its text is without a return at the end
abbrev pub IsReading : List ℕ → Result (Option Command) Refusal → Type 0
IsReading line read = let text = strip_carriage_return line in
    ((4096 < length line) × (read ≡ Err LineTooLong))
    ⊎ ((length line ≤ 4096) × ((¬ (IsUtf8 text) × (read ≡ Err NotUtf8))
    ⊎ (IsUtf8 text × (is_silent text ≡ true) × (read ≡ Ok None))
    ⊎ (IsUtf8 text × (is_silent text ≡ false) × AskFor (tokens text) read)))

-- it holds of what the line asks for
abbrev pub AsRead : List ℕ → (Result (Option Command) Refusal → Type 0) → Type 0
AsRead line Holds = (read : Result (Option Command) Refusal) × IsReading line read × Holds read

-- each line asks for one thing and no other
abbrev pub HaveOneReading : Type 0
HaveOneReading =
    (line : List ℕ) → AsRead line
    (λ read. (other : Result (Option Command) Refusal) → IsReading line other → other ≡ read)
