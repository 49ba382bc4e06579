-- What is looked up of a word is looked up of a text, and of no other word.
use Rattle.std.proofs.Common.{◌≡◌, ◌∙◌, ℕ, Bool, true, false, cond, List, Option, None, refl, ap}
use Rattle.std.specs.Str.{IsUtf8, is_utf8}
use Rattle.std.proofs.lemmas.Str.{IsUtf8-from_is_utf8, is_utf8-from_IsUtf8}

no_text : (w : List ℕ) → ¬ (IsUtf8 w) → is_utf8 w ≡ false
no_text w n = by (is_utf8 w) refl
  where
    by : (b : Bool) → is_utf8 w ≡ b → is_utf8 w ≡ false
    by true e = absurd (n (IsUtf8-from_is_utf8 w e))
    by false e = e

pub in_text : {X : Type 0} (w v : List ℕ) (o : Option X) (f : List ℕ → Option X) → v ≡ w → IsUtf8 w → o ≡ f v
    → o ≡ cond (is_utf8 w) (f w) None
in_text w v o f same text e = rw (is_utf8-from_IsUtf8 w text) (e ∙ ap f same)

pub in_no_text : {X : Type 0} (w : List ℕ) (f : List ℕ → Option X) → ¬ (IsUtf8 w)
    → None ≡ cond (is_utf8 w) (f w) None
in_no_text w f n = rw (no_text w n) refl
