-- Lines, a byte at a time.
use Rattle.std.proofs.Common.{◌≡◌, ℕ, List, [], ◌∷◌, ◌++◌, false, eqb, refl, sym, ap, ◌∙◌, inl, inr, arith}
use Rattle.std.proofs.lemmas.Bool.Decides.{eqb_tells}
use Rattle.std.proofs.lemmas.List.{take_at, length_push}
use Rattle.prop_engine.specs.Lines.{lines_of, ended_lines}
use Rattle.prop_engine.specs.inner.Lines.{IsWithoutFeed, before_last, EndsWithFeed}

pub not_feed : (b : ℕ) → (b ≡ 10 → ⊥) → eqb b 10 ≡ false
not_feed b h = elim (eqb_tells b 10) [ inl p ↦ absurd (h p.1) | inr p ↦ p.0 ]

-- a line feed ends the line before it
pub at_feed : (part more : List ℕ) → IsWithoutFeed part → lines_of (part ++ 10 ∷ more) ≡ part ∷ lines_of more
at_feed [] more h = refl
at_feed (b ∷ part) more h = rw (not_feed b h.0, at_feed part more h.1) refl

pub ended_at_feed : (part more : List ℕ) → IsWithoutFeed part
    → ended_lines (part ++ 10 ∷ more) ≡ part ∷ ended_lines more
ended_at_feed [] more h = refl
ended_at_feed (b ∷ part) more h = rw (not_feed b h.0, ended_at_feed part more h.1) refl

-- bytes with no line feed, where there are any, are a last line
pub last_line : (b : ℕ) (part : List ℕ) → IsWithoutFeed (b ∷ part) → lines_of (b ∷ part) ≡ (b ∷ part) ∷ []
last_line b [] h = rw (not_feed b h.0) refl
last_line b (c ∷ part) h = rw (not_feed b h.0, last_line c part h.1) refl

pub none_ended : (part : List ℕ) → IsWithoutFeed part → ended_lines part ≡ []
none_ended [] h = refl
none_ended (b ∷ part) h = rw (not_feed b h.0, none_ended part h.1) refl

pub without_more : (part bytes : List ℕ) → IsWithoutFeed part → IsWithoutFeed bytes → IsWithoutFeed (part ++ bytes)
without_more [] bytes h k = k
without_more (c ∷ part) bytes h k = (h.0, without_more part bytes h.1 k)

-- what stands before the line feed of a line
pub before_feed : (text : List ℕ) → before_last (text ++ 10 ∷ []) ≡ text
unfolding before_last
before_feed text = take_at text (10 ∷ []) _ (omega (arith, length_push text 10))

-- a line is its text with a line feed behind it
pub text_of : (line text : List ℕ) → line ≡ text ++ 10 ∷ [] → before_last line ≡ text
text_of line text e = ap before_last e ∙ before_feed text

pub ends_with_feed : (line text : List ℕ) → line ≡ text ++ 10 ∷ [] → EndsWithFeed line
ends_with_feed line text e = e ∙ ap (λ l. l ++ 10 ∷ []) (sym (text_of line text e))
