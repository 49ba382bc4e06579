use Rattle.std.proofs.Common.{◌≡◌, ◌++◌, ℕ, subst, true}
use Rattle.prop_lattice.specs.declared.info.Info.{Info}
use Rattle.prop_demands.specs.inner.Fitting.{Admits}
use Rattle.prop_demands.proofs.Lists.{all_more, all_taken}
use Rattle.prop_demands.proofs.fitting.Board.admits_all.Goals as goal

pub loop-constant-preserved : goal.loop-constant-preserved
loop-constant-preserved c =
    let yes : c.admits.result ≡ true = cc in
    let P : ℕ × Info → Type 0 = λ x. Admits (c.args.self.now.cells.now.kinds ++ c.args.self.now.fresh.now) x.0 x.1 in
    all_more P c.args.constants.now c.loop-constant.constant-index c.constant-item.result c.loop-constant-test.true
    c.loop-constant.invariant (subst P c.constant-item.is (c.admits.ensures yes))

pub returns : goal.returns
returns c =
    let P : ℕ × Info → Type 0 = λ x. Admits (c.args.self.now.cells.now.kinds ++ c.args.self.now.fresh.now) x.0 x.1 in
    λ t. all_taken P c.args.constants.now c.loop-constant.constant-index c.loop-constant-test.false
    c.loop-constant.invariant
