use Rattle.std.proofs.Common.{◌≡◌, ℕ, ◌-◌, List, [], ◌∷◌, ◌++◌, length, take, get_or, eqb, false, refl, sym, ◌∙◌, ap}
use Rattle.std.proofs.Common.{inl, inr, arith}
use Rattle.std.proofs.lemmas.List.{length-append}
use Rattle.std.proofs.lemmas.Bool.Decides.{eqb_tells}
use Rattle.prop_language.specs.inner.Lines.{without_return}
use Rattle.prop_language.proofs.reading.without_return.Goals as goal

differs : (a b : ℕ) → (a ≡ b → ⊥) → eqb a b ≡ false
differs a b h = elim (eqb_tells a b) [ inl p ↦ absurd (h p.1) | inr p ↦ p.0 ]

place : (front : List ℕ) (x : ℕ) → length (front ++ x ∷ []) - 1 ≡ length front
place front x = omega (arith, length-append front (x ∷ []))

there : (front : List ℕ) (x : ℕ) → get_or (front ++ x ∷ []) (length front) 0 ≡ x
there [] x = refl
there (b ∷ front) x = there front x

before : (front : List ℕ) (x : ℕ) → take (length front) (front ++ x ∷ []) ≡ front
before [] x = refl
before (b ∷ front) x = ap (λ l. b ∷ l) (before front x)

returned : (front : List ℕ) → without_return (front ++ 13 ∷ []) ≡ front
returned front = rw (place front 13, there front 13) (before front 13)

kept : (front : List ℕ) (x : ℕ) → eqb x 13 ≡ false → without_return (front ++ x ∷ []) ≡ front ++ x ∷ []
kept front x h = rw (place front x, there front x, h) refl

pub returns-then-last-eq13 : goal.returns-then-last-eq13
returns-then-last-eq13 c =
    let e = c.in-Some.ensures.cases.0 in
    sym (ap without_return (e ∙ ap (λ b. c.in-Some.front.now ++ b ∷ []) c.if-last-eq13.true)
    ∙ returned c.in-Some.front.now)

pub returns-else-last-eq13 : goal.returns-else-last-eq13
returns-else-last-eq13 c =
    let e = c.in-Some.ensures.cases.0 in
    e ∙ sym (ap without_return e ∙ kept c.in-Some.front.now c.in-Some.last.now
    (differs c.in-Some.last.now 13 c.if-last-eq13.false))
