-- The hypothetical premises that a choice list takes, and what is believed with it.
use Rattle.std.proofs.Common.{◌≡◌, ℕ, ◌+◌, ◌-◌, ◌≤◌, Bool, true, false, ◌||◌, ◌==◌, List, [], ◌∷◌, ◌++◌, refl, ap, ◌∙◌}
use Rattle.std.proofs.Common.{inl, inr, ◌⊎◌, arith, IsTrue}
use Rattle.std.proofs.lemmas.Bool.Decides.{nat_tests, eqb_tells}
use Rattle.prop_premises.specs.declared.choice.Choice.{Choice}
use Rattle.prop_premises.specs.ChoiceLists.{hypothetical, IsSide, is_hypothetical, IsChoiceList}
use Rattle.prop_premises.specs.inner.ChoiceLists.{is_side_of}
use Rattle.prop_premises.specs.ChoiceLists.{hypotheticals_of}

or_cases : (b c : Bool) → (b || c) ≡ true → (b ≡ true) ⊎ (c ≡ true)
or_cases true c h = inl refl
or_cases false c h = inr h

or_first : (b c : Bool) → b ≡ true → (b || c) ≡ true
or_first true c e = refl
or_first false c e = cc

or_last : (b c : Bool) → c ≡ true → (b || c) ≡ true
or_last true c e = refl
or_last false c e = e

same : (n p : ℕ) → (n == p) ≡ true → n ≡ p
same n p h = elim (eqb_tells n p) [ inl e ↦ e.1 | inr e ↦ cc (e.0, h) ]

own_side : (c : Choice) (s p : ℕ) → IsSide c s → (hypothetical c s == p) ≡ true → is_side_of c p ≡ true
own_side c s p side h =
    let at : c.first + (s - 1) ≡ p = same (c.first + (s - 1)) p h in
    let low : 1 ≤ s = side.0 in
    let high : s ≤ c.sides = side.1 in
    grind (arith, nat_tests)

-- what the list takes is hypothetical
pub hypotheticals_are : (choices : List Choice) (list : List ℕ) (p : ℕ) → IsChoiceList choices list
    → IsTrue (hypotheticals_of choices list p) → IsTrue (is_hypothetical choices p)
hypotheticals_are [] list p l h = cc
hypotheticals_are (c ∷ cs) [] p l h = absurd l
hypotheticals_are (c ∷ cs) (s ∷ ss) p l h = elim (or_cases (hypothetical c s == p) (hypotheticals_of cs ss p) h) [
  | inl e ↦ or_first (is_side_of c p) (is_hypothetical cs p) (own_side c s p l.0 e)
  | inr e ↦ or_last (is_side_of c p) (is_hypothetical cs p) (hypotheticals_are cs ss p l.1 e)
]

or_off : (b c : Bool) → (c ≡ true → ⊥) → (b || c) ≡ b
or_off true c h = refl
or_off false true h = absurd (h refl)
or_off false false h = refl

or_assoc : (a b c : Bool) → (a || (b || c)) ≡ ((a || b) || c)
or_assoc true b c = refl
or_assoc false b c = refl

or_none : (b : Bool) → (b || false) ≡ b
or_none true = refl
or_none false = refl

-- one more choice, and the side that is taken of it
pub hypotheticals_of-push : (choices : List Choice) (list : List ℕ) (c : Choice) (s p : ℕ) → IsChoiceList choices list
    → hypotheticals_of (choices ++ c ∷ []) (list ++ s ∷ [])
    p ≡ (hypotheticals_of choices list p || (hypothetical c s == p))
hypotheticals_of-push [] [] c s p l = or_none (hypothetical c s == p)
hypotheticals_of-push [] (y ∷ ys) c s p l = absurd l
hypotheticals_of-push (x ∷ xs) [] c s p l = absurd l
hypotheticals_of-push (x ∷ xs) (y ∷ ys) c s p l =
    ap (λ b. (hypothetical x y == p) || b) (hypotheticals_of-push xs ys c s p l.1)
    ∙ or_assoc (hypothetical x y == p) (hypotheticals_of xs ys p) (hypothetical c s == p)
