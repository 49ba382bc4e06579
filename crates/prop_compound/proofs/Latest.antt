-- Lists read from the latest on.
use Rattle.std.proofs.Common.{◌≡◌, ◌∙◌, ℕ, ◌<◌, ◌==◌, List, [], ◌∷◌, cond, length, get_or, sym, ap, arith, inl, inr}
use Rattle.std.specs.Prelude.{reverse}
use Rattle.std.proofs.lemmas.Bool.{cases_eq, eq-eqb, ne_eqb}
use Rattle.std.proofs.lemmas.List.{reverse-append, reverse-reverse, length-reverse, get_or_append_left, get_or_push}

-- the n-th, counted from the end of the list
abbrev pub latest_at : {X : Type 0} → List X → ℕ → X → X
latest_at [] n x = x
latest_at (y ∷ ys) n x = cond (n == length ys) y (latest_at ys n x)

pub latest_in_order : {X : Type 0} (ys : List X) (n : ℕ) (x : X) → n < length ys
    → latest_at ys n x ≡ get_or (reverse ys) n x
latest_in_order [] n x l = absurd (omega (arith, l))
latest_in_order (y ∷ ys) n x l =
    let e = reverse-append (y ∷ []) ys in
    let ends = length-reverse ys in
    elim (cases_eq n (length ys)) [
      | inl same ↦ ap (λ b. cond b y (latest_at ys n x)) (eq-eqb n (length ys) same)
          ∙ sym (ap (λ zs. get_or zs n x) e ∙ get_or_push (reverse ys) y x n (ends ∙ sym same))
      | inr other ↦
          (let m : n < length ys = omega (arith, l, other) in
          ap (λ b. cond b y (latest_at ys n x)) (ne_eqb n (length ys) other) ∙ latest_in_order ys n x m
          ∙ sym (ap (λ zs. get_or zs n x) e
          ∙ get_or_append_left (reverse ys) (y ∷ []) x n (omega (arith, m, ends))))
    ]

-- the n-th of the reversed list is the n-th
pub latest_of : {X : Type 0} (xs : List X) (n : ℕ) (x : X) → n < length xs → latest_at (reverse xs) n x ≡ get_or xs n x
latest_of xs n x l =
    latest_in_order (reverse xs) n x (omega (arith, l, length-reverse xs))
    ∙ ap (λ zs. get_or zs n x) (reverse-reverse xs)
