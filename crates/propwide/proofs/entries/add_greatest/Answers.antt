use Rattle.std.proofs.Common.{arith, map}
use Rattle.propwide.specs.Kits.{shown}
use Rattle.propwide.proofs.Making.{from_row_rows, more, of_row_row, row_shown}
use Rattle.propwide.proofs.entries.add_greatest.Goals as goal

pub loop-row-preserved : goal.loop-row-preserved
loop-row-preserved c = record {
  listed = more shown of_row_row _ _ _ _ _ _ (map shown c.args.made.now.items) c.in_ok-push.ensures.items
      c.loop-row-test.true (row_shown _ _ _ c.ins.ensures c.out.ensures) c.loop-row.invariant.listed;
}

pub returns : goal.returns
returns c =
    let past = c.loop-row-test.false in
    from_row_rows c.loop-row.made.items (map shown c.args.made.now.items) c.loop-row.row-index _ _
    c.loop-row.invariant.listed (omega (arith, past)) c.others_are_stated.ensures.greatest
