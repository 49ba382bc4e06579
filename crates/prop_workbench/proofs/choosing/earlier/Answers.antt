use Rattle.prop_workbench.proofs.ChoiceLemmas.{earlier_before, earlier_now}
use Rattle.prop_workbench.proofs.choosing.earlier.Goals as goal

pub returns-then-number : goal.returns-then-number
returns-then-number c =
    earlier_before c.args.before c.in-Some.before c.args.now c.number.result c.number-in-Some.result c.in-Some.is
    c.number.ensures c.number-in-Some.ensures c.if-number.true

pub returns-else-number : goal.returns-else-number
returns-else-number c =
    earlier_now c.args.before c.in-Some.before c.args.now c.number.result c.number-in-Some.result c.in-Some.is
    c.number.ensures c.number-in-Some.ensures c.if-number.false
