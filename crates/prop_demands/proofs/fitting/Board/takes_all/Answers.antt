use Rattle.std.proofs.Common.{◌≡◌, ◌++◌, true}
use Rattle.prop_demands.specs.inner.Fitting.{Fits}
use Rattle.prop_demands.proofs.Lists.{all_more, all_taken}
use Rattle.prop_demands.proofs.fitting.Board.takes_all.Goals as goal

pub loop-act-preserved : goal.loop-act-preserved
loop-act-preserved c =
    let yes : c.takes.result ≡ true = cc in
    all_more (Fits (c.args.self.now.cells.now.kinds ++ c.args.self.now.fresh.now)) c.args.acts.now c.loop-act.act-index
    _ c.loop-act-test.true c.loop-act.invariant (c.takes.ensures yes)

pub returns : goal.returns
returns c = λ t. all_taken (Fits (c.args.self.now.cells.now.kinds ++ c.args.self.now.fresh.now)) c.args.acts.now
    c.loop-act.act-index c.loop-act-test.false c.loop-act.invariant
