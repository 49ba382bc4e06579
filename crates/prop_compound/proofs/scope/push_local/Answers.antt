use Rattle.prop_compound.proofs.Scoping.{pushed_apart, pushed_why, local_named}
use Rattle.prop_compound.proofs.scope.push_local.Goals as goal

pub returns-in-Local-clause-apart : goal.returns-in-Local-clause-apart
returns-in-Local-clause-apart c =
    pushed_apart c.push_new.result c.args.scope.now c.push_new.new.scope c.in-Local.name.now c.requires
    c.push_new.ensures.ok c.push_new.ensures.new

pub returns-in-Local-clause-why : goal.returns-in-Local-clause-why
returns-in-Local-clause-why c =
    rw (local_named c.args.step.now c.in-Local.name c.in-Local.is)
    (pushed_why c.push_new.result c.args.scope.now c.in-Local.name.now c.push_new.ensures.why)
