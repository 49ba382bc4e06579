-- A line has one reading, and the reader finds it.
use Rattle.std.proofs.Common.{◌≡◌, inl, inr, ℕ, List, [], ◌∷◌, length, Bool, true, false, cond, refl, sym, ◌∙◌, ap}
use Rattle.std.proofs.Common.{subst, Some, None, Ok, Err, map, arith}
use Rattle.std.specs.Prelude.{Option, Result, bytes_eq, find, is_some, not, ◌||◌}
use Rattle.std.specs.Str.{is_utf8}
use Rattle.std.proofs.lemmas.Option.{none-some}
use Rattle.std.proofs.lemmas.Bool.{false≢true, lt-ltb, le-ltb, cases_lt}
use Rattle.std.proofs.lemmas.Str.{IsUtf8-from_is_utf8, is_utf8-from_IsUtf8}
use Rattle.prop_refusals.specs.declared.refusal.Refusal.{Refusal}
use Rattle.prop_refusals.specs.declared.refusal.Refusal.TheVariants.{UnknownCommand, WrongForm, NotAName, NotANumber}
use Rattle.prop_language.specs.Tokens.{Token, Word, tokens}
use Rattle.prop_language.specs.Names.{is_among}
use Rattle.prop_language.specs.Commands.{Value, Command}
use Rattle.prop_language.specs.Spelling.{command_words}
use Rattle.prop_language.specs.inner.Grammar.{Spells, AreTwoToEight, command_in_range}
use Rattle.prop_language.specs.Reading.{is_silent, begins_as_command, AskFor}
use Rattle.prop_language.specs.inner.Lines.{without_return}
use Rattle.prop_language.specs.Reading.{IsReading, HaveOneReading}
use Rattle.prop_language.specs.inner.Lines.{IsReadingOf}
use Rattle.prop_language.specs.Said.{Reads}
use Rattle.prop_language.specs.declared.command.Command as made
use Rattle.prop_language.specs.inner.Forms.{forms}
use Rattle.prop_language.specs.inner.Parsing.{reading, reading_of, command_of}
use Rattle.prop_language.specs.inner.Parts.{ReadsAs}
use Rattle.prop_language.proofs.PartLaws.{AskAs, asked_by_parts, asked_by_tokens}
use Rattle.prop_language.proofs.SpellingLaws.{read_form, spelled_is_read, read_is_spelled}

-- ---- tokens

found_among : (known : List (List ℕ × (List Token → Option Command))) (w : List ℕ)
    → is_some (find (λ form. bytes_eq form.0 w) known) ≡ is_among (map (λ form. form.0) known) w
found_among [] w = refl
found_among (form ∷ known) w = by (bytes_eq form.0 w) (found_among known w)
  where
    by : (b : Bool) → is_some (find (λ form. bytes_eq form.0 w) known) ≡ is_among (map (λ form. form.0) known) w
        → is_some (cond b (Some form) (find (λ form. bytes_eq form.0 w) known))
        ≡ (b || is_among (map (λ form. form.0) known) w)
    by true h = refl
    by false h = h

-- what is read of tokens, and what is said where they spell nothing
data Read (ts : List Token) : Type 0 where
  Formless : read_form ts ≡ None → command_of ts ≡ Err (cond (begins_as_command ts) WrongForm UnknownCommand) → Read ts
  Formed : (command : Command) → read_form ts ≡ Some command → command_of ts ≡ command_in_range command → Read ts

by_form : (w : List ℕ) (ts : List Token) (read : Option Command) (form : List ℕ × (List Token → Option Command))
    → is_among command_words w ≡ true → find (λ form. bytes_eq form.0 w) forms ≡ Some form → form.1 ts ≡ read
    → Read (Word w ∷ ts)
by_form w ts None form among f e = Formless (rw (f, e) refl) (rw (f, e, among) refl)
by_form w ts (Some command) form among f e = Formed command (rw (f, e) refl) (rw (f, e) refl)

by_word : (w : List ℕ) (ts : List Token) (found : Option (List ℕ × (List Token → Option Command)))
    → find (λ form. bytes_eq form.0 w) forms ≡ found → Read (Word w ∷ ts)
by_word w ts None f =
    let among : is_among command_words w ≡ false = sym (found_among forms w) ∙ ap is_some f in
    Formless (rw f refl) (rw (f, among) refl)
by_word w ts (Some form) f = by_form w ts _ form (sym (found_among forms w) ∙ ap is_some f) f refl

read : (ts : List Token) → Read ts
read (Word w ∷ ts) = by_word w ts _ refl
read ts = Formless refl refl

asked_by : (ts : List Token) → Read ts → AskAs ts (command_of ts)
asked_by ts (Formless n e) = inr (λ command s. none-some command (sym n ∙ spelled_is_read ts command s), e)
asked_by ts (Formed command f e) = inl (command, read_is_spelled ts command f, e)

-- tokens spell one command
one_command : (ts : List Token) (command other : Command) → Spells ts command → Spells ts other → other ≡ command
one_command ts command other s o =
    let f : read_form ts ≡ Some command = spelled_is_read ts command s in
    let g : read_form ts ≡ Some other = spelled_is_read ts other o in
    cc

one_as : (ts : List Token) (read other : Result (Option Command) Refusal) → AskAs ts read → AskAs ts other
    → other ≡ read
one_as ts read other (inl (c, s, e)) (inl (d, o, f)) = f ∙ ap command_in_range (one_command ts c d s o) ∙ sym e
one_as ts read other (inl (c, s, e)) (inr (n, f)) = absurd (n c s)
one_as ts read other (inr (n, e)) (inl (d, o, f)) = absurd (n d o)
one_as ts read other (inr (n, e)) (inr (m, f)) = f ∙ sym e

one_asked : (ts : List Token) (read other : Result (Option Command) Refusal) → AskFor ts read → AskFor ts other
    → other ≡ read
one_asked ts read other a b = one_as ts read other (asked_by_tokens ts read a) (asked_by_tokens ts other b)

-- ---- lines

by_silence : (bytes : List ℕ) (silent : Bool) → is_utf8 bytes ≡ true → is_silent bytes ≡ silent
    → IsReadingOf bytes (reading_of bytes)
by_silence bytes true u s = inr (inl (IsUtf8-from_is_utf8 bytes u, s, rw (u, s) refl))
by_silence bytes false u s =
    let ts = tokens bytes in
    inr (inr (IsUtf8-from_is_utf8 bytes u, s, rw (u, s) (asked_by_parts ts (command_of ts) (asked_by ts (read ts)))))

by_text : (bytes : List ℕ) (text : Bool) → is_utf8 bytes ≡ text → IsReadingOf bytes (reading_of bytes)
by_text bytes true u = by_silence bytes _ u refl
by_text bytes false u = inl (λ t. false≢true (sym u ∙ is_utf8-from_IsUtf8 bytes t), rw u refl)

one_of : (bytes : List ℕ) (read other : Result (Option Command) Refusal) → IsReadingOf bytes read
    → IsReadingOf bytes other → other ≡ read
one_of bytes read other (inl (n, e)) (inl (m, f)) = f ∙ sym e
one_of bytes read other (inl (n, e)) (inr (inl (t, s, f))) = absurd (n t)
one_of bytes read other (inl (n, e)) (inr (inr (t, s, a))) = absurd (n t)
one_of bytes read other (inr (inl (t, s, e))) (inl (m, f)) = absurd (m t)
one_of bytes read other (inr (inl (t, s, e))) (inr (inl (u, q, f))) = f ∙ sym e
one_of bytes read other (inr (inl (t, s, e))) (inr (inr (u, q, a))) = absurd (false≢true (sym q ∙ s))
one_of bytes read other (inr (inr (t, s, a))) (inl (m, f)) = absurd (m t)
one_of bytes read other (inr (inr (t, s, a))) (inr (inl (u, q, f))) = absurd (false≢true (sym s ∙ q))
one_of bytes read other (inr (inr (t, s, a))) (inr (inr (u, q, b))) = one_asked (tokens bytes) read other a b

-- the reader finds a reading
pub is_reading : (line : List ℕ) → IsReading line (reading line)
is_reading line = elim (cases_lt 4096 (length line)) [
  | inl long ↦ inl (long, rw (lt-ltb 4096 (length line) long) refl)
  | inr short ↦ inr (omega arith, rw (le-ltb 4096 (length line) short) (by_text (without_return line) _ refl))
]

pub one_reading : (line : List ℕ) (read other : Result (Option Command) Refusal) → IsReading line read
    → IsReading line other → other ≡ read
one_reading line read other (inl (l, e)) (inl (k, f)) = f ∙ sym e
one_reading line read other (inl (l, e)) (inr (k, f)) = absurd (omega arith)
one_reading line read other (inr (l, e)) (inl (k, f)) = absurd (omega arith)
one_reading line read other (inr (l, e)) (inr (k, f)) = one_of (without_return line) read other e f

-- a reading is what the reader finds
pub reading_is : (line : List ℕ) (read : Result (Option Command) Refusal) → IsReading line read → reading line ≡ read
reading_is line read r = one_reading line read (reading line) r (is_reading line)

pub have_one_reading : HaveOneReading
have_one_reading line = (reading line, is_reading line, λ other r. sym (reading_is line other r))

pub reads_line : (line : List ℕ) (result : Result made.Command Refusal) → ReadsAs result (reading line)
    → Reads result (IsReading line)
reads_line line (Ok command) r = subst (IsReading line) r (is_reading line)
reads_line line (Err refusal) (inl m) = inl m
reads_line line (Err refusal) (inr r) = inr (subst (IsReading line) r (is_reading line))

-- ---- what is read is spelled

ranged : (command other : Command) (names range : Bool)
    → Ok (Some other) ≡ cond (not names) (Err NotAName) (cond (not range) (Err NotANumber) (Ok (Some command)))
    → command ≡ other
ranged command other false range e = cc
ranged command other true false e = cc
ranged command other true true e = cc

asked_is_spelled : (ts : List Token) (command : Command) → AskAs ts (Ok (Some command)) → Spells ts command
asked_is_spelled ts command (inl (c, s, e)) = subst (Spells ts) (ranged c command _ _ e) s
asked_is_spelled ts command (inr (n, e)) = cc

pub spelled : (line : List ℕ) (command : Command) → IsReading line (Ok (Some command))
    → Spells (tokens (without_return line)) command
spelled line command (inl (l, e)) = cc
spelled line command (inr (l, inl (n, e))) = cc
spelled line command (inr (l, inr (inl (u, s, e)))) = cc
spelled line command (inr (l, inr (inr (u, s, a)))) = asked_is_spelled (tokens (without_return line)) command
    (asked_by_tokens (tokens (without_return line)) (Ok (Some command)) a)

-- a choice that is spelled has two to eight values
counted : (ts : List Token) (name cell : List ℕ) (values : List Value) → Spells ts (Command.Choose name cell values)
    → AreTwoToEight values
counted ts name cell [] s = absurd s
counted ts name cell (v ∷ values) s = s.1

pub choose_counts : (line name cell : List ℕ) (values : List Value)
    → IsReading line (Ok (Some (Command.Choose name cell values))) → AreTwoToEight values
choose_counts line name cell values r =
    counted (tokens (without_return line)) name cell values (spelled line (Command.Choose name cell values) r)
