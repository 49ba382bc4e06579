use Rattle.std.proofs.Common.{arith, map, refl}
use Rattle.propwide.specs.Kits.{shown}
use Rattle.propwide.proofs.Making.{from_many_rows, more, of_many_row}
use Rattle.propwide.proofs.entries.add_tasks.Goals as goal

pub loop-row-preserved : goal.loop-row-preserved
loop-row-preserved c = record {
  listed = more shown of_many_row _ _ _ _ _ _ (map shown c.args.made.now.items) c.in_ok-push.ensures.items
      c.loop-row-test.true refl c.loop-row.invariant.listed;
}

pub returns : goal.returns
returns c =
    let past = c.loop-row-test.false in
    from_many_rows c.loop-row.made.items (map shown c.args.made.now.items) c.loop-row.row-index _ _
    c.loop-row.invariant.listed (omega (arith, past)) c.tasks_are_stated.ensures.stated
