use Rattle.std.proofs.Common.{arith}
use Rattle.prop_numbers.specs.Sets.{set_of}
use Rattle.prop_numbers.proofs.WithinLemmas.{within_from}
use Rattle.prop_nogoods.proofs.ending.Ending.with_room.Goals as goal

pub returns-clause-room : goal.returns-clause-room
returns-clause-room c = record {
  room = omega (arith, c.in_ok-nogoods.ensures.len, c.in_ok-nogoods.ensures.capacity, c.in_ok-nogoods.nogoods.ok);
  has = rw c.in_ok-common.ensures (within_from (set_of c.args.nogood.now) c.args.nogood.now (λ p t. t));
  no_larger = omega (arith, c.size.ensures);
}
