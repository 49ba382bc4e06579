-- Pieces, a byte at a time.
use Rattle.std.proofs.Common.{◌≡◌, ℕ, ◌+◌, ◌<◌, List, [], ◌∷◌, ◌++◌, take, drop, length, get_or}
use Rattle.std.proofs.Common.{Bool, true, false, cond}
use Rattle.std.proofs.Common.{refl, sym, ◌∙◌, ap, suc, add-one, drop-cons, eqb, inl, inr}
use Rattle.std.specs.Prelude.{◌||◌, ◌==◌, Some, None}
use Rattle.std.specs.Option.{option_map}
use Rattle.std.specs.List.{AllByRecursion}
use Rattle.std.proofs.lemmas.List.{take-append-drop}
use Rattle.std.proofs.lemmas.Bool.{false≢true}
use Rattle.std.proofs.lemmas.Bool.Decides.{eqb_tells}
use Rattle.prop_terms.specs.Tokens.{pieces, front_word, with_word, is_blank, is_mark, before_quote, unquoted}
use Rattle.prop_terms.specs.inner.Parts.{IsInWord, EndsWord}

-- ---- one byte

-- a blank
after_blank : (blank : Bool) (x : List (List ℕ)) (w : List ℕ × List (List ℕ)) → blank ≡ true
    → with_word (cond blank ([], x) w) ≡ x
after_blank true x w e = refl
after_blank false x w e = absurd (false≢true e)

-- a byte of a word
at_word : (blank mark : Bool) (x y : List (List ℕ)) (w : List ℕ × List (List ℕ)) → blank ≡ false → mark ≡ false
    → cond blank ([], x) (cond mark ([], y) w) ≡ w
at_word true mark x y w e f = absurd (false≢true (sym e))
at_word false true x y w e f = absurd (false≢true (sym f))
at_word false false x y w e f = refl

-- what ends a word
at_end : (blank mark : Bool) (x y : List (List ℕ)) (w : List ℕ × List (List ℕ)) → (blank || mark) ≡ true
    → cond blank ([], x) (cond mark ([], y) w) ≡ ([], with_word (cond blank ([], x) (cond mark ([], y) w)))
at_end true mark x y w e = refl
at_end false true x y w e = refl
at_end false false x y w e = absurd (false≢true e)

pub after_blank_is : (b : ℕ) (bytes : List ℕ) → is_blank b ≡ true → pieces (b ∷ bytes) ≡ pieces bytes
after_blank_is b [] e = after_blank (is_blank b) [] _ e
after_blank_is b (c ∷ bytes) e = after_blank (is_blank b) (pieces (c ∷ bytes)) _ e

pub blank_more : (bytes : List ℕ) (i : ℕ) → i < length bytes → is_blank (get_or bytes i 0) ≡ true
    → pieces (drop i bytes) ≡ pieces bytes → pieces (drop (i + 1) bytes) ≡ pieces bytes
blank_more bytes i lt b e =
    ap (λ k. pieces (drop k bytes)) (add-one i) ∙ sym (after_blank_is (get_or bytes i 0) (drop (suc i) bytes) b)
    ∙ ap pieces (sym (drop-cons bytes i 0 lt)) ∙ e

-- ---- words

no_word : (rest : List ℕ) → EndsWord rest → front_word rest ≡ ([], pieces rest)
no_word [] e = refl
no_word (b ∷ []) e = at_end (is_blank b) (is_mark b) [] ((b ∷ []) ∷ []) (b ∷ [], []) e
no_word (b ∷ c ∷ bytes) e = at_end (is_blank b) (is_mark b) _ _ _ e

in_word : (b : ℕ) (bytes : List ℕ) → IsInWord b
    → front_word (b ∷ bytes) ≡ (b ∷ (front_word bytes).0, (front_word bytes).1)
in_word b [] h = at_word (is_blank b) (is_mark b) [] ((b ∷ []) ∷ []) (b ∷ [], []) h.0 h.1
in_word b (c ∷ bytes) h = at_word (is_blank b) (is_mark b) _ _ _ h.0 h.1

run_of : (word rest : List ℕ) → AllByRecursion IsInWord word → EndsWord rest
    → front_word (word ++ rest) ≡ (word, pieces rest)
run_of [] rest h e = no_word rest e
run_of (b ∷ word) rest h e = in_word b (word ++ rest) h.0 ∙ ap (λ f. (b ∷ f.0, f.1)) (run_of word rest h.1 e)

pub word_piece : (n first : ℕ) (rest : List ℕ) → is_blank first ≡ false → is_mark first ≡ false
    → AllByRecursion IsInWord (take n rest) → EndsWord (drop n rest)
    → pieces (first ∷ rest) ≡ (first ∷ take n rest) ∷ pieces (drop n rest)
word_piece n first rest p q h e =
    ap (λ l. pieces (first ∷ l)) (sym (take-append-drop n rest))
    ∙ ap with_word (run_of (first ∷ take n rest) (drop n rest) ((p, q), h) e)

-- ---- the next piece

pub next_is : (bytes clear rest piece behind : List ℕ) (n first : ℕ) → clear ≡ first ∷ rest
    → pieces clear ≡ pieces bytes → pieces (first ∷ rest) ≡ (first ∷ take n rest) ∷ pieces (drop n rest)
    → piece ≡ take (n + 1) clear → behind ≡ drop (n + 1) clear → pieces bytes ≡ piece ∷ pieces behind
next_is bytes clear rest piece behind n first c same p w r =
    let front : piece ≡ first ∷ take n rest = w ∙ ap (take (n + 1)) c ∙ ap (λ k. take k (first ∷ rest)) (add-one n) in
    let back : behind ≡ drop n rest = r ∙ ap (drop (n + 1)) c ∙ ap (λ k. drop k (first ∷ rest)) (add-one n) in
    sym same ∙ ap pieces c ∙ p ∙ ap (λ l. l ∷ pieces (drop n rest)) (sym front) ∙ ap (λ l. piece ∷ pieces l) (sym back)

-- ---- quotes

map_cond : (b : Bool) (f : List ℕ → List ℕ) (w : List ℕ)
    → option_map f (cond b (Some w) None) ≡ cond b (Some (f w)) None
map_cond true f w = refl
map_cond false f w = refl

before_quote_is : (word : List ℕ) (x : ℕ) → before_quote (word ++ x ∷ []) ≡ cond (x == 39) (Some word) None
before_quote_is [] x = refl
before_quote_is (b ∷ []) x = map_cond (x == 39) (λ w. b ∷ w) []
before_quote_is (b ∷ c ∷ word) x =
    ap (option_map (λ w. b ∷ w)) (before_quote_is (c ∷ word) x) ∙ map_cond (x == 39) (λ w. b ∷ w) (c ∷ word)

unquoted_is : (piece rest word : List ℕ) (first last : ℕ) → piece ≡ first ∷ rest → rest ≡ word ++ last ∷ []
    → unquoted piece ≡ cond (first == 39) (cond (last == 39) (Some word) None) None
unquoted_is piece rest word first last e f =
    ap unquoted e ∙ ap (λ l. cond (first == 39) (before_quote l) None) f
    ∙ ap (λ o. cond (first == 39) o None) (before_quote_is word last)

-- what stands between quotes
pub in_quotes : (piece rest word : List ℕ) (first last : ℕ) → piece ≡ first ∷ rest → rest ≡ word ++ last ∷ []
    → first ≡ 39 → last ≡ 39 → Some word ≡ unquoted piece
in_quotes piece rest word first last e f p q =
    sym (unquoted_is piece rest word first last e f
    ∙ ap (λ b. cond (b == 39) (cond (last == 39) (Some word) None) None) p
    ∙ ap (λ b. cond (b == 39) (Some word) None) q)

differs : (a b : ℕ) → (a ≡ b → ⊥) → eqb a b ≡ false
differs a b h = elim (eqb_tells a b) [ inl p ↦ absurd (h p.1) | inr p ↦ p.0 ]

pub in_no_quotes : (piece rest word : List ℕ) (first last : ℕ) → piece ≡ first ∷ rest → rest ≡ word ++ last ∷ []
    → first ≡ 39 → (last ≡ 39 → ⊥) → None ≡ unquoted piece
in_no_quotes piece rest word first last e f p q =
    sym (unquoted_is piece rest word first last e f
    ∙ ap (λ b. cond (b == 39) (cond (last == 39) (Some word) None) None) p
    ∙ ap (λ b. cond b (Some word) None) (differs last 39 q))
