use Rattle.std.proofs.Common.{inr}
use Rattle.std.proofs.lemmas.Result.{err_from_is_err_and}
use Rattle.prop_language.specs.Tokens.{tokens}
use Rattle.prop_language.proofs.Forming.{misread, elements_refused, domain_read}
use Rattle.prop_language.proofs.forms.domain.Goals as goal

pub returns-in_err-domain : goal.returns-in_err-domain
returns-in_err-domain c =
    let p = err_from_is_err_and c.from_residual.result c.from_residual.ensures.1 in
    rw (p.1, p.2) (inr (misread _ _ c.in_err-domain.ensures.err))

pub returns-in_err-domain-2 : goal.returns-in_err-domain-2
returns-in_err-domain-2 c =
    let p = err_from_is_err_and c.from_residual-in_err-domain-2.result c.from_residual-in_err-domain-2.ensures.1 in
    rw (p.1, p.2) (elements_refused (tokens c.args.rest.now) (tokens c.in_ok-domain.elements.now)
    c.in_ok-domain.domain.now _ c.in_ok-domain.ensures.ok c.in_err-domain-2.ensures.err)

pub returns : goal.returns
returns c =
    let n = c.in_ok-domain-2.ensures.ok in
    rw (n.0, n.1) (domain_read (tokens c.args.rest.now) (tokens c.in_ok-domain.elements.now) c.in_ok-domain.domain.now
    c.in_ok-domain.ensures.ok n.2)
