use Rattle.std.proofs.Common.{sym, ap, ◌∙◌}
use Rattle.prop_compound.proofs.Scoping.{late_at, late_is}
use Rattle.prop_compound.proofs.scope.is_unseen.Goals as goal

pub returns-in-Some : goal.returns-in-Some
returns-in-Some c =
    ap (late_at c.args.seen) c.in-Some.ensures.number ∙ sym (late_is c.args.scope.now c.args.seen c.args.name.now)

pub returns-in-None : goal.returns-in-None
returns-in-None c =
    ap (late_at c.args.seen) c.in-None.ensures.number ∙ sym (late_is c.args.scope.now c.args.seen c.args.name.now)
