use Rattle.std.proofs.Common.{sym, ◌∙◌}
use Rattle.prop_terms.proofs.Taking.{open_more}
use Rattle.prop_terms.proofs.frames.is_open.Goals as goal

pub returns : goal.returns
returns c =
    c.is_bracket.ensures
    ∙ sym (open_more c.args.shape c.args.frames.now c.in-Some._before.now c.in-Some.frame.now c.in-Some.ensures.cases.0)
