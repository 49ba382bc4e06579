use Rattle.std.proofs.Common.{◌≡◌, false, refl, sym, ◌∙◌, ap, rules}
use Rattle.prop_language.specs.Tokens.{tokens}
use Rattle.prop_language.specs.inner.Parts.{are_words}
use Rattle.prop_language.proofs.Forming.{no_domain, domain_formed}
use Rattle.prop_language.proofs.forms.domain_words.Goals as goal

pub returns-in_default-token : goal.returns-in_default-token
returns-in_default-token c =
    let marked : are_words (tokens c.loop-token.left.now) ≡ false = search rules in
    record {
      ok = tt;
      err = (
        refl,
        no_domain _ _ _ _ _ (c.in_ok-domain.ensures.ok, c.in_ok-_first.ensures.ok)
            (sym c.loop-token.invariant ∙ marked),
      );
    }

pub returns-clause-ok : goal.returns-clause-ok
returns-clause-ok c =
    domain_formed _ _ _ _ _ (c.in_ok-domain.ensures.ok, c.in_ok-_first.ensures.ok)
    (sym c.loop-token.invariant ∙ ap are_words c.in_default.ensures.found)
