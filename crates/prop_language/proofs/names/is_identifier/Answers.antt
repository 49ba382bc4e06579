use Rattle.std.proofs.Common.{◌≡◌, ℕ, List, ◌++◌, Bool, true, false, ◌⊎◌, inl, inr, sym, ◌∙◌, ap, refl}
use Rattle.std.specs.Prelude.{◌||◌, ◌==◌, chars, IsUtf8}
use Rattle.std.specs.List.{list_all}
use lib.Utf8.{encode}
use Rattle.std.proofs.lemmas.Str.{chars_past_char}
use Rattle.unicode_ident.specs.Ident.{is_xid_start, is_xid_continue}
use Rattle.prop_language.specs.Names.{is_identifier}
use Rattle.prop_language.proofs.names.is_identifier.Goals as goal

starts : (s : Bool) (first : ℕ) → (s ≡ true) ⊎ ((s ≡ false) × (first ≡ 95)) → (s || (first == 95)) ≡ true
starts s first (inl e) = rw e refl
starts s first (inr (e, f)) = rw (e, f) refl

named : (text rest : List ℕ) (first : ℕ) (s r : Bool) → IsUtf8 text → text ≡ encode first ++ rest
    → s ≡ is_xid_start first → (s ≡ true) ⊎ ((s ≡ false) × (first ≡ 95)) → r ≡ list_all is_xid_continue (chars rest)
    → r ≡ is_identifier (chars text)
named text rest first s r u e x h k =
    rw (chars_past_char text rest first u e, ← x, starts s first h) k

pub returns-then-first-eq95 : goal.returns-then-first-eq95
returns-then-first-eq95 c =
    named _ _ _ _ _ c.utf8.text (sym c.chars-characters.ensures.rest ∙ c.in-Some.ensures.steps.0)
    c.is_xid_start.ensures.value c.if-first-eq95.either
    (c.continues.ensures ∙ ap (λ l. list_all is_xid_continue (chars l)) c.as_str.ensures)
