-- A line, as the reader goes through it.
use Rattle.std.specs.Prelude.{◌≡◌, ◌⊎◌, ℕ, List, true, false, Option, None, Result, Ok, Err, IsUtf8}
use Rattle.std.specs.Str.Lines.{strip_carriage_return}
use Rattle.prop_refusals.specs.declared.refusal.Refusal.{Refusal}
use Rattle.prop_refusals.specs.declared.refusal.Refusal.TheVariants.{NotUtf8}
use Rattle.prop_language.specs.Tokens.{tokens}
use Rattle.prop_language.specs.Commands.{Command}
use Rattle.prop_language.specs.Reading.{is_silent, AskFor}

-- the bytes but for one carriage return at their end
abbrev pub without_return : List ℕ → List ℕ
without_return line = strip_carriage_return line

-- what a line without its carriage return asks for, None where it gets no reply
abbrev pub IsReadingOf : List ℕ → Result (Option Command) Refusal → Type 0
IsReadingOf bytes read =
    (¬ (IsUtf8 bytes) × (read ≡ Err NotUtf8))
    ⊎ (IsUtf8 bytes × (is_silent bytes ≡ true) × (read ≡ Ok None))
    ⊎ (IsUtf8 bytes × (is_silent bytes ≡ false) × AskFor (tokens bytes) read)
