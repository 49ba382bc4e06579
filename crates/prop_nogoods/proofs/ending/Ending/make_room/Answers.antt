use Rattle.std.proofs.Common.{arith}
use Rattle.prop_nogoods.proofs.CommonLemmas.{have_shared, in_second, no_larger_more}
use Rattle.prop_nogoods.proofs.ending.Ending.make_room.Goals as goal

pub invariant_of-self-then-not-is_part_of : goal.invariant_of-self-then-not-is_part_of
invariant_of-self-then-not-is_part_of c =
    let n = c.self.inside in
    rw c.in_ok-reserve.ensures.items (
      c.self.invariant.0,
      c.self.invariant.1,
      have_shared n.common c.args.nogood.now c.in_ok-self-inside.field-0 c.in_ok-self-inside.ensures n.nogoods.items
          c.self.invariant.2,
      no_larger_more n.largest c.max-self-inside.result n.nogoods.items (omega (arith, c.max-self-inside.ensures))
          c.self.invariant.3,
    )

pub returns-in_ok-self-inside-clause-room : goal.returns-in_ok-self-inside-clause-room
returns-in_ok-self-inside-clause-room c = record {
  room = omega (arith, c.in_ok-reserve.ensures.ok, c.in_ok-reserve.ensures.len, c.reserve.new.self.ok);
  has = in_second c.self.inside.common c.args.nogood.now c.in_ok-self-inside.field-0 c.in_ok-self-inside.ensures;
  no_larger = omega (arith, c.max-self-inside.ensures, c.size.ensures);
}
