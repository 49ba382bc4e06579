use Rattle.prop_contents.proofs.BearingLemmas.{unites_there}
use Rattle.prop_contents.proofs.bearing.bear.Goals as goal

pub returns-then-bears-clause-ok : goal.returns-then-bears-clause-ok
returns-then-bears-clause-ok c =
    unites_there c.args.sets.now.items c.args.place c.args.support.now
    (rw c.deref.ensures.value at (c.bears.ensures c.if-bears.true))
