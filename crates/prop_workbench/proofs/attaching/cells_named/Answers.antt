use Rattle.std.proofs.Common.{inr, sym, refl}
use Rattle.prop_workbench.proofs.NumberLemmas.{missing_here, found_too, numbered_too, found_all, numbered_all}
use Rattle.prop_workbench.proofs.attaching.cells_named.Goals as goal

pub returns-in-None-clause-err : goal.returns-in-None-clause-err
returns-in-None-clause-err c =
    inr (
      refl,
      missing_here c.args.names.now c.args.cells.now c.loop-name.name-index _ c.loop-name-test.true
          (sym c.in-None.ensures.number),
    )

pub loop-name-preserved : goal.loop-name-preserved
loop-name-preserved c = record {
  numbers = numbered_too c.args.names.now c.args.cells.now c.loop-name.name-index _ c.loop-name-test.true
      c.in-Some.cell (sym c.in-Some.ensures.number) c.loop-name.numbers.items c.push.new.self.items
      c.loop-name.invariant.numbers c.in-Ok.ensures.ok;
  all = found_too c.args.names.now c.args.cells.now c.loop-name.name-index _ c.loop-name-test.true c.in-Some.cell
      (sym c.in-Some.ensures.number) c.loop-name.invariant.all;
}

pub returns-clause-all : goal.returns-clause-all
returns-clause-all c =
    found_all c.args.names.now c.args.cells.now c.loop-name.name-index c.loop-name-test.false c.loop-name.invariant.all

pub returns-clause-ok : goal.returns-clause-ok
returns-clause-ok c =
    numbered_all c.args.names.now c.args.cells.now c.loop-name.name-index c.loop-name.numbers.items
    c.loop-name-test.false c.loop-name.invariant.numbers
