use Rattle.std.proofs.Common.{take}
use Rattle.prop_compound.proofs.Scoping.{late_words}
use Rattle.prop_compound.proofs.scope.names_unseen.Goals as goal

pub returns-in-Use : goal.returns-in-Use
returns-in-Use c =
    let h = rw c.deref.ensures.value at c.has_unseen.ensures in
    rw c.in-Use.is (late_words (take c.args.seen c.args.scope.now) c.in-Use.cells.items c.has_unseen.result h)
