use Rattle.std.proofs.Common.{◌≡◌, ◌∙◌, ◌<◌, ◌≤◌, ◌∷◌, [], List, ap, arith, get_or, length, sym}
use Rattle.prop_facts.specs.declared.fact.Literal.{Literal}
use Rattle.prop_solve.proofs.bound.is_only.Goals as goal

one_item : (xs : List Literal) (x d : Literal) → 1 ≤ length xs → length xs < 2 → x ≡ get_or xs 0 d → xs ≡ x ∷ []
one_item [] x d some few is = absurd (omega (arith, some))
one_item (y ∷ []) x d some few is = ap (λ (z : Literal). z ∷ []) (sym is)
one_item (y ∷ z ∷ xs) x d some few is = absurd (omega (arith, few))

pub returns-in-len1 : goal.returns-in-len1
returns-in-len1 c = λ t.
    sym c.literals.ensures
    ∙ one_item c.literals.result.now c.only-item.result c.only-item.result c.in-len1.len_at_least c.in-len1.len_below
    c.only-item.is ∙ ap (λ (z : Literal). z ∷ []) (c.is_same.ensures t)
