use Rattle.std.proofs.Common.{◌≡◌, ◌∙◌, ◌≤◌, ◌<◌, List, [], ◌∷◌, length, get_or, sym, ap, arith}
use Rattle.prop_tms.proofs.values.is_alone.Goals as goal

one_alone : {X : Type 0} (xs : List X) (x : X) → 1 ≤ length xs → length xs < 2 → x ≡ get_or xs 0 x → xs ≡ x ∷ []
one_alone [] x l h e = absurd (omega (arith, l))
one_alone (y ∷ []) x l h e = ap (λ z. z ∷ []) (sym e)
one_alone (y ∷ z ∷ ys) x l h e = absurd (omega (arith, h))

pub returns-in-len1-as_slice : goal.returns-in-len1-as_slice
returns-in-len1-as_slice g c = λ on. (
  c.only-item.result,
  c.own-item.result,
  one_alone c.args.values.now c.only-item.result c.in-len1.len_at_least c.in-len1.len_below c.only-item.is,
  sym c.as_slice.ensures
      ∙ one_alone c.as_slice.result.now c.own-item.result c.in-len1-as_slice.len_at_least c.in-len1-as_slice.len_below
      c.own-item.is,
  sym c.is_same.ensures ∙ on,
)
