use Rattle.std.proofs.Common.{sym, ◌∙◌, inr}
use Rattle.prop_terms.specs.Terms.{term_of}
use Rattle.prop_terms.specs.Tokens.{tokens}
use Rattle.prop_terms.proofs.Sound.{sound}
use Rattle.prop_terms.proofs.Wholes.{not_formed, refused}
use Rattle.prop_terms.proofs.reading.read.Goals as goal

pub returns-in-Err-clause-err : goal.returns-in-Err-clause-err
returns-in-Err-clause-err c = refused c.in-Err.fault.refusal c.args.sort c.args.text.now _ c.in-Err.ensures

pub returns-then-is_formed-clause-ok : goal.returns-then-is_formed-clause-ok
returns-then-is_formed-clause-ok c = (
  sound (tokens c.args.text.now) (term_of c.in-Ok.term) c.in-Ok.ensures,
  sym c.is_formed.ensures ∙ c.if-is_formed.true,
)

pub returns-clause-err : goal.returns-clause-err
returns-clause-err c =
    inr (inr (
      c.refused_at-else-is_formed.ensures,
      not_formed c.args.sort c.args.text.now (term_of c.in-Ok.term) c.in-Ok.ensures
          (sym c.is_formed.ensures ∙ c.if-is_formed.false),
    ))
