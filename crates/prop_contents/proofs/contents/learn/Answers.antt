use Rattle.std.proofs.Common.{sym}
use Rattle.prop_numbers.specs.Sets.{set_of}
use Rattle.prop_contents.proofs.KnowingLaws.{known_put}
use Rattle.prop_contents.proofs.contents.learn.Goals as goal

pub returns-clause-known : goal.returns-clause-known
returns-clause-known c = rw c.put.ensures
    (known_put (set_of c.args.worldview.now) c.args.contents.now c.args.known.now c.args.cell c.belief_of-info.result
    (sym c.belief_of-info.ensures) c.requires.known)
