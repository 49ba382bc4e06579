use Rattle.std.proofs.Common.{All, ◌++◌, ℕ, take}
use Rattle.prop_lattice.specs.declared.info.Info.{Info}
use Rattle.prop_demands.specs.inner.Fitting.{Admits}
use Rattle.prop_demands.proofs.fitting.Board.admits_all.Given as goal

abbrev pub invariant-loop-constant : goal.invariant-loop-constant
invariant-loop-constant l =
    All (λ (c : ℕ × Info). Admits (l.self.cells.now.kinds ++ l.self.fresh.now) c.0 c.1)
    (take l.constant-index l.constants)
