use Rattle.std.proofs.Common.{◌∷◌, [], inr}
use Rattle.std.proofs.lemmas.Result.{err_from_is_err_and}
use Rattle.prop_language.proofs.Forming.{misread, pairs_refused, relation_unnamed, relation_read, first_unnamed}
use Rattle.prop_language.proofs.Forming.{others_unnamed, both_named}
use Rattle.prop_language.proofs.forms.relation.Goals as goal

pub returns-in_err-relation : goal.returns-in_err-relation
returns-in_err-relation c =
    let p = err_from_is_err_and c.from_residual.result c.from_residual.ensures.1 in
    rw (p.1, p.2) (inr (misread _ _ c.in_err-relation.ensures.err))

pub returns-in_err-pairs : goal.returns-in_err-pairs
returns-in_err-pairs c =
    let p = err_from_is_err_and c.from_residual-in_err-pairs.result c.from_residual-in_err-pairs.ensures.1 in
    rw (p.1, p.2) (pairs_refused _ _ _ _ _ _ c.in_ok-relation.ensures.ok c.in_err-pairs.ensures.err)

pub returns-in_err-relation-2 : goal.returns-in_err-relation-2
returns-in_err-relation-2 c =
    let p = err_from_is_err_and c.from_residual-in_err-relation-2.result c.from_residual-in_err-relation-2.ensures.1 in
    let domains = c.in_ok-relation.domains in
    let h = c.in_err-relation-2.ensures.err in
    rw (p.1, p.2) (inr (relation_unnamed _ _ _ _ _ _ _ c.in_ok-relation.ensures.ok c.in_ok-pairs.ensures.ok
    (h.0, first_unnamed _ (domains.0.now ∷ domains.1.now ∷ []) h.1)))

pub returns-in_err-from : goal.returns-in_err-from
returns-in_err-from c =
    let p = err_from_is_err_and c.from_residual-in_err-from.result c.from_residual-in_err-from.ensures.1 in
    let domains = c.in_ok-relation.domains in
    let h = c.in_err-from.ensures.err in
    rw (p.1, p.2) (inr (relation_unnamed _ _ _ _ _ _ _ c.in_ok-relation.ensures.ok c.in_ok-pairs.ensures.ok
    (h.0, others_unnamed _ (domains.0.now ∷ domains.1.now ∷ []) c.in_ok-relation-2.ensures.ok.1 h.1)))

pub returns : goal.returns
returns c =
    let domains = c.in_ok-relation.domains in
    let n = c.in_ok-relation-2.ensures.ok in
    let others = c.in_ok-from.ensures.ok in
    rw (n.0, others.0, others.1) (relation_read _ _ _ _ _ _ c.in_ok-relation.ensures.ok c.in_ok-pairs.ensures.ok
    (both_named _ (domains.0.now ∷ domains.1.now ∷ []) n.1 others.2))
