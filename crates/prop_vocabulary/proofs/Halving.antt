-- Two dots in a row, a byte at a time.
use Rattle.std.proofs.Common.{◌≡◌, ℕ, ◌<◌, ◌≤◌, ◌+◌, ◌-◌, List, [], ◌∷◌, ◌++◌, length, take, drop, get_or, false, eqb}
use Rattle.std.proofs.Common.{refl, sym, ◌∙◌, ap, subst, arith, inl, inr, zero, suc, Option, None}
use Rattle.std.specs.Prelude.{◌&&◌}
use Rattle.std.proofs.lemmas.List.{take-append-drop, length-drop}
use Rattle.std.proofs.lemmas.Bool.Decides.{eqb_tells}
use Rattle.prop_vocabulary.specs.Values.{halves}

-- these bytes before what stands before two dots
abbrev pub behind_front : List ℕ → List ℕ × Option (List ℕ) → List ℕ × Option (List ℕ)
behind_front front (left, right) = (front ++ left, right)

not_both : (a b : ℕ) → (a ≡ 46 → b ≡ 46 → ⊥) → (eqb a 46 && eqb b 46) ≡ false
not_both a b h = elim (eqb_tells a 46) [
  | inr p ↦ rw p.0 refl
  | inl p ↦ elim (eqb_tells b 46) [ inr q ↦ rw (p.0, q.0) refl | inl q ↦ absurd (h p.1 q.1) ]
]

one_more : (word : List ℕ) (k : ℕ) → suc k < length word → (get_or word k 0 ≡ 46 → get_or word (suc k) 0 ≡ 46 → ⊥)
    → behind_front (take (suc k) word) (halves (drop (suc k) word)) ≡ behind_front (take k word) (halves (drop k word))
one_more [] k l h = absurd (omega arith)
one_more (a ∷ []) k l h = absurd (omega arith)
one_more (a ∷ b ∷ word) zero l h = rw (not_both a b h) refl
one_more (a ∷ b ∷ word) (suc k) l h = ap (behind_front (a ∷ [])) (one_more (b ∷ word) k (omega arith) h)

-- two places that aren't both dots
pub past_place : (word : List ℕ) (i : ℕ) → 1 ≤ i → i < length word
    → (get_or word (i - 1) 0 ≡ 46 → get_or word i 0 ≡ 46 → ⊥)
    → behind_front (take (i - 1) word) (halves (drop (i - 1) word)) ≡ halves word
    → behind_front (take (i + 1 - 1) word) (halves (drop (i + 1 - 1) word)) ≡ halves word
past_place word zero p l h e = absurd (omega arith)
past_place word (suc k) p l h e =
    let P : ℕ → Type 0 = λ m. behind_front (take m word) (halves (drop m word)) ≡ halves word in
    let before : suc k - 1 ≡ k = omega arith in
    let after : suc k + 1 - 1 ≡ suc k = omega arith in
    subst P (sym after) (one_more word k l (λ d. h (ap (λ m. get_or word m 0) before ∙ d)) ∙ subst P before e)

no_dots : (word : List ℕ) → length word ≤ 1 → halves word ≡ (word, None)
no_dots [] l = refl
no_dots (a ∷ []) l = refl
no_dots (a ∷ b ∷ word) l = absurd (omega arith)

-- no two dots up to the end
pub past_all : (word : List ℕ) (i : ℕ) → length word ≤ i
    → behind_front (take (i - 1) word) (halves (drop (i - 1) word)) ≡ halves word → halves word ≡ (word, None)
past_all word i l e =
    sym e ∙ ap (behind_front (take (i - 1) word))
    (no_dots (drop (i - 1) word) (omega (arith, length-drop (i - 1) word)))
    ∙ ap (λ w. (w, None)) (take-append-drop (i - 1) word)
