use Rattle.std.proofs.Common.{◌∙◌, Ok, ap}
use Rattle.prop_amb.proofs.AdvancingLaws.{passed_left}
use Rattle.prop_amb.proofs.SkippingLaws.{no_some, believes_on}
use Rattle.prop_amb.proofs.search.Search.skip.Goals as goal

pub deepen-requires-clause-left : goal.deepen-requires-clause-left
deepen-requires-clause-left c =
    rw (c.refuted_next.ensures.same, c.in_ok-pass_by.ensures.ok) (passed_left c.args.self.now c.args.reason
    c.requires.may)

pub returns-then-is_none-clause-ok : goal.returns-then-is_none-clause-ok
returns-then-is_none-clause-ok c =
    believes_on c.args.self.now c.pass_by.new.self c.deepen.new.self c.args.reason c.in_ok-pass_by.ensures.ok
    (c.refuted_next.ensures.none (c.in_ok-refuted_next.was ∙ ap Ok (no_some _ c.if-is_none.ensures)))
    (rw c.refuted_next.ensures.same at c.in_ok-before.ensures.ok)
