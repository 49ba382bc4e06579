use Rattle.prop_solve.proofs.EarlierLemmas.{teaches_along}
use Rattle.prop_solve.proofs.solver.Solver.teach_all.Goals as goal

pub loop-number-preserved : goal.loop-number-preserved
loop-number-preserved c =
    teaches_along c.args.self.now c.args.lessons.now c.loop-number.lessons c.teach_one.new.lessons
    c.loop-number.invariant c.in_ok-teach_one.ensures
