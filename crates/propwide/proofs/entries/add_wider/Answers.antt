use Rattle.std.proofs.Common.{arith, map}
use Rattle.propwide.specs.Kits.{shown}
use Rattle.propwide.proofs.Making.{from_rows, more, of_row, wide_shown}
use Rattle.propwide.proofs.entries.add_wider.Goals as goal

pub loop-name-preserved : goal.loop-name-preserved
loop-name-preserved c = record {
  listed = more shown of_row _ _ _ _ _ _ (map shown c.args.made.now.items) c.in_ok-push.ensures.items
      c.loop-name-test.true (wide_shown _ _ _ c.out.ensures c.need.ensures) c.loop-name.invariant.listed;
}

pub returns : goal.returns
returns c =
    let past = c.loop-name-test.false in
    from_rows c.loop-name.made.items (map shown c.args.made.now.items) c.loop-name.name-index _ _
    c.loop-name.invariant.listed (omega (arith, past)) c.procedures_are_stated.ensures.stated
