use Rattle.std.proofs.Common.{sym, ◌∙◌}
use Rattle.prop_terms.proofs.Taking.{demand_more}
use Rattle.prop_terms.proofs.frames.demand.Goals as goal

pub returns-in-Some : goal.returns-in-Some
returns-in-Some c =
    c.asks.ensures
    ∙ sym (demand_more c.args.frames.now c.in-Some._before.now c.in-Some.frame.now c.in-Some.ensures.cases.0)
