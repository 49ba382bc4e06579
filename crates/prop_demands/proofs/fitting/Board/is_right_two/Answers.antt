use Rattle.std.proofs.Common.{◌∙◌, ◌++◌, sym}
use Rattle.prop_demands.proofs.RightLemmas.{right_two}
use Rattle.prop_demands.proofs.fitting.Board.is_right_two.Goals as goal

pub returns : goal.returns
returns c = λ h e.
    let self = c.args.self.now in
    let form = c.args.form in
    let x = c.args.x in
    let y = c.args.y in
    right_two (self.cells.now.kinds ++ self.fresh.now) form.ins.now form.out form.need c.args.output
    c.in-Some-kind-2.last (sym c.in-Some-kind-2.ensures) x.1 y.1 x.0 y.0 c.in-Some.first c.in-Some-kind.second e
    (sym c.in-Some.ensures) (sym c.in-Some-kind.ensures) (sym c.are_right.ensures ∙ h)
