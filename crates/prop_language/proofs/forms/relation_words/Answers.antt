use Rattle.std.proofs.Common.{◌∙◌, ap}
use Rattle.std.proofs.lemmas.Result.{err_from_is_err_and}
use Rattle.prop_language.specs.inner.Forms.{relation}
use Rattle.prop_language.proofs.Forming.{no_relation, no_domains}
use Rattle.prop_language.proofs.forms.relation_words.Goals as goal

pub returns-in_err-relation-clause-err : goal.returns-in_err-relation-clause-err
returns-in_err-relation-clause-err c =
    let p = err_from_is_err_and c.from_residual.result c.from_residual.ensures.1 in
    rw (p.1, p.2) (c.in_err-relation.ensures.err.0, no_relation _ c.in_err-relation.ensures.err.1)

pub returns-in_err-domains-clause-err : goal.returns-in_err-domains-clause-err
returns-in_err-domains-clause-err c =
    let p = err_from_is_err_and c.from_residual-in_err-domains.result c.from_residual-in_err-domains.ensures.1 in
    rw (p.1, p.2) (
      c.in_err-domains.ensures.err.0,
      ap relation c.in_ok-relation.ensures.ok
          ∙ no_domains _ _ c.in_err-domains.ensures.err.1,
    )
