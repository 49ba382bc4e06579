use Rattle.std.proofs.Common.{sym, ◌∙◌, ap}
use Rattle.std.specs.Prelude.{not}
use Rattle.prop_terms.proofs.Taking.{one_pushed}
use Rattle.prop_terms.proofs.frames.push.Goals as goal

pub returns-clause-ok : goal.returns-clause-ok
returns-clause-ok c =
    one_pushed _ _ _ _ (sym (c.is_err.ensures.negation ∙ ap not c.if-is_err.false)) c.push.ensures.items
