use Rattle.std.proofs.Common.{All, ◌++◌, take}
use Rattle.prop_demands.specs.inner.Fitting.{Fits}
use Rattle.prop_demands.proofs.fitting.Board.takes_all.Given as goal

abbrev pub invariant-loop-act : goal.invariant-loop-act
invariant-loop-act l = All (Fits (l.self.cells.now.kinds ++ l.self.fresh.now)) (take l.act-index l.acts)
