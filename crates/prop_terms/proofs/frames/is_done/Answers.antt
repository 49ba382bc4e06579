use Rattle.prop_terms.proofs.Taking.{not_done}
use Rattle.prop_terms.proofs.frames.is_done.Goals as goal

pub returns-in-Some : goal.returns-in-Some
returns-in-Some c =
    not_done c.args.frames.now c.in-Some._before.now c.in-Some._frame.now c.in-Some.ensures.cases.0
