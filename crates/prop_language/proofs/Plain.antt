-- Identifiers of ASCII characters.
use Rattle.std.proofs.Common.{◌≡◌, ℕ, List, Bool, true, false, refl, sym, ◌∙◌, ap}
use Rattle.std.specs.Prelude.{◌&&◌, not, chars, IsUtf8}
use Rattle.std.specs.Str.{is_utf8, IsAscii}
use Rattle.std.proofs.lemmas.Str.{IsUtf8-from_ascii, IsUtf8-from_is_utf8, is_utf8-from_IsUtf8, chars-IsAscii}
use Rattle.prop_language.specs.Names.{is_name, is_identifier, is_among, reserved_words}

not_text : (word : List ℕ) (b : Bool) → is_utf8 word ≡ b → (IsUtf8 word → ⊥)
    → (b && (is_identifier (chars word) && not (is_among reserved_words word))) ≡ false
not_text word true e h = absurd (h (IsUtf8-from_is_utf8 word e))
not_text word false e h = refl

pub no_text : (word : List ℕ) → (IsUtf8 word → ⊥) → is_name word ≡ false
unfolding is_name
no_text word h = not_text word _ refl h

-- a word that is a text is a name where it is an identifier and not reserved
pub by_test : (word text : List ℕ) (identifier : Bool) → text ≡ word → IsUtf8 word
    → identifier ≡ is_identifier (chars text)
    → is_name word ≡ (identifier && not (is_among reserved_words word))
unfolding is_name
by_test word text identifier e u i = rw (is_utf8-from_IsUtf8 word u, ← e, ← i, e) refl

pub plain_name : (word : List ℕ) → IsAscii word → is_identifier word ≡ true
    → is_name word ≡ not (is_among reserved_words word)
plain_name word ascii identifier =
    by_test word word true refl (IsUtf8-from_ascii word ascii)
    (sym (ap is_identifier (chars-IsAscii word ascii) ∙ identifier))
