use Rattle.std.proofs.Common.{sym}
use Rattle.prop_numbers.specs.Sets.{set_of}
use Rattle.prop_contents.proofs.KnowingLaws.{passed_put}
use Rattle.prop_contents.proofs.contents.is_shifted.Goals as goal

pub returns-clause-known : goal.returns-clause-known
returns-clause-known c = rw c.put.ensures
    (passed_put (set_of c.args.shift.now.before.now) (set_of c.args.shift.now.after.now) c.args.contents.now
    c.args.known.now c.args.cell c.belief_of-is.result (sym c.belief_of-is.ensures) c.requires.known)
