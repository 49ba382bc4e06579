use Rattle.std.proofs.Common.{◌∷◌, ◌∙◌, [], sym, ap, List}
use Rattle.std.proofs.lemmas.Result.{IfOk-weaker}
use Rattle.prop_facts.specs.declared.fact.Literal.{Literal}
use Rattle.prop_solve.proofs.EarlierLemmas.{apart_some, only_items}
use Rattle.prop_solve.proofs.earlier.unexcused.Goals as goal

pub returns-in-len1 : goal.returns-in-len1
returns-in-len1 c =
    let one = only_items c.args.excuses.now c.only-item.result c.in-len1.len_at_least c.in-len1.len_below
    c.only-item.is in
    IfOk-weaker c.denied.result _ _
    (λ o h. apart_some o c.deref.result.now _ (one ∙ ap (λ (l : List Literal). l ∷ []) (sym c.deref.ensures.value)) h)
    c.denied.ensures
