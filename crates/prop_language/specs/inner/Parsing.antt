-- A line's reading, as it is found: by the form of its first word.
use Rattle.std.specs.Prelude.{ℕ, List, ◌∷◌, cond, not, nat_lt, length, bytes_eq, Option, Some, None}
use Rattle.std.specs.Prelude.{Result, Ok, Err, find}
use Rattle.std.specs.Str.{is_utf8}
use Rattle.prop_refusals.specs.declared.refusal.Refusal.{Refusal}
use Rattle.prop_refusals.specs.declared.refusal.Refusal.TheVariants.{LineTooLong, NotUtf8}
use Rattle.prop_refusals.specs.declared.refusal.Refusal.TheVariants.{UnknownCommand, WrongForm}
use Rattle.prop_language.specs.Tokens.{Token, Word, tokens}
use Rattle.prop_language.specs.Commands.{Command}
use Rattle.prop_language.specs.Reading.{is_silent}
use Rattle.prop_language.specs.inner.Lines.{without_return}
use Rattle.prop_language.specs.inner.Grammar.{command_in_range}
use Rattle.prop_language.specs.inner.Forms.{forms}

abbrev pub command_in_form : Option Command → Result (Option Command) Refusal
command_in_form None = Err WrongForm
command_in_form (Some command) = command_in_range command

abbrev pub by_form_of : Option (List ℕ × (List Token → Option Command)) → List Token
    → Result (Option Command) Refusal
by_form_of None ts = Err UnknownCommand
by_form_of (Some form) ts = command_in_form (form.1 ts)

-- a line's tokens: the word of a command, and what follows its form
abbrev pub command_of : List Token → Result (Option Command) Refusal
command_of (Word w ∷ ts) = by_form_of (find (λ form. bytes_eq form.0 w) forms) ts
command_of ts = Err UnknownCommand

-- what a line without its carriage return asks for, None where it gets no reply
abbrev pub reading_of : List ℕ → Result (Option Command) Refusal
reading_of bytes = cond (not (is_utf8 bytes)) (Err NotUtf8)
    (cond (is_silent bytes) (Ok None) (command_of (tokens bytes)))

-- what a line asks for
abbrev pub reading : List ℕ → Result (Option Command) Refusal
reading line = cond (nat_lt 4096 (length line)) (Err LineTooLong) (reading_of (without_return line))
