use Rattle.std.proofs.Common.{◌≡◌, ℕ, List, Bool, true, false, inr, refl}
use Rattle.std.specs.Prelude.{IsUtf8}
use Rattle.std.specs.Str.{is_utf8}
use Rattle.std.proofs.lemmas.Str.{IsUtf8-from_is_utf8, is_utf8-from_IsUtf8}
use Rattle.prop_language.proofs.reading.read_text.Goals as goal

not_text : (text : List ℕ) (b : Bool) → is_utf8 text ≡ b → (IsUtf8 text → ⊥) → is_utf8 text ≡ false
not_text text true e h = absurd (h (IsUtf8-from_is_utf8 text e))
not_text text false e h = e

pub returns-in-Err-clause-read : goal.returns-in-Err-clause-read
returns-in-Err-clause-read c = inr (rw (not_text _ _ refl c.in-Err.ensures.cases.0) refl)

pub returns-in-Ok-clause-read : goal.returns-in-Ok-clause-read
returns-in-Ok-clause-read c = rw (is_utf8-from_IsUtf8 _ c.in-Ok.ensures.cases.1, ← c.if-is_silent.ensures) refl

pub returns-in-Ok-2-clause-read : goal.returns-in-Ok-2-clause-read
returns-in-Ok-2-clause-read c = rw (is_utf8-from_IsUtf8 _ c.in-Ok-2.ensures.cases.1, ← c.if-is_silent.ensures)
    c.read_command.ensures.read
