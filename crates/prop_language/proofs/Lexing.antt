-- Tokens, a byte at a time.
use Rattle.std.proofs.Common.{◌≡◌, ℕ, List, [], ◌∷◌, ◌++◌, take, drop, Bool, true, false, cond, refl, sym, ◌∙◌, ap}
use Rattle.std.proofs.Common.{subst, zero, suc}
use Rattle.std.specs.Prelude.{◌||◌, Option, Some, None, is_some}
use Rattle.std.specs.List.{AllByRecursion}
use Rattle.std.specs.Option.{option_map_or}
use Rattle.std.proofs.lemmas.List.{take-append-drop}
use Rattle.std.proofs.lemmas.Bool.{false≢true}
use Rattle.prop_language.specs.Tokens.{Token, Word, tokens, front_word, with_word, is_blank, mark_of}
use Rattle.prop_language.specs.inner.Parts.{IsInWord, StartsPast, EndsWord}

-- a byte that is no blank, before a word and the tokens after it
abbrev put : Option Token → ℕ → List ℕ × List Token → List ℕ × List Token
put mark b front = option_map_or (λ mark. ([], mark ∷ with_word front)) mark (b ∷ front.0, front.1)

-- a word ends before what ends it
ended_by : (blank : Bool) (mark : Option Token) (b : ℕ) (ts : List Token) (front : List ℕ × List Token)
    → (blank || is_some mark) ≡ true → cond blank ([], ts)
    (put mark b front) ≡ ([], with_word (cond blank ([], ts) (put mark b front)))
ended_by true mark b ts front e = refl
ended_by false (Some mark) b ts front e = refl
ended_by false None b ts front e = absurd (false≢true e)

no_word : (rest : List ℕ) → EndsWord rest → front_word rest ≡ ([], tokens rest)
no_word [] e = refl
no_word (b ∷ rest) e = ended_by (is_blank b) (mark_of b) b (with_word (front_word rest)) (front_word rest) e

run_of : (word rest : List ℕ) → AllByRecursion IsInWord word → EndsWord rest
    → front_word (word ++ rest) ≡ (word, tokens rest)
run_of [] rest h e = no_word rest e
run_of (b ∷ word) rest h e = rw (h.0.0, h.0.1, run_of word rest h.1 e) refl

word_token : (n first : ℕ) (rest : List ℕ) → is_blank first ≡ false → mark_of first ≡ None
    → AllByRecursion IsInWord (take n (first ∷ rest)) → EndsWord (drop n (first ∷ rest))
    → tokens (first ∷ rest) ≡ Word (take n (first ∷ rest)) ∷ tokens (drop n (first ∷ rest))
word_token zero first rest p q h e =
    absurd (false≢true (sym (ap (λ b. b || is_some (mark_of first)) p ∙ ap is_some q) ∙ e))
word_token (suc n) first rest p q h e =
    ap (λ l. tokens (first ∷ l)) (sym (take-append-drop n rest))
    ∙ ap with_word (run_of (first ∷ take n rest) (drop n rest) h e)

-- the token that a word's bytes make, and those after it
pub next_word : (bytes clear word rest : List ℕ) (n first : ℕ) (after : List ℕ) → clear ≡ first ∷ after
    → tokens clear ≡ tokens bytes → StartsPast is_blank clear → mark_of first ≡ None
    → AllByRecursion IsInWord (take n clear) → EndsWord (drop n clear) → word ≡ take n clear → rest ≡ drop n clear
    → tokens bytes ≡ Word word ∷ tokens rest
next_word bytes clear word rest n first after c same s m h e w r =
    let P : List ℕ → Type 0 = λ l. StartsPast is_blank l → AllByRecursion IsInWord (take n l) → EndsWord (drop n l)
    → tokens l ≡ Word (take n l) ∷ tokens (drop n l) in
    let at : P clear = subst P (sym c) (λ s h e. word_token n first after s m h e) in
    sym same ∙ at s h e ∙ ap (λ l. Word l ∷ tokens (drop n clear)) (sym w) ∙ ap (λ l. Word word ∷ tokens l) (sym r)
