use Rattle.std.proofs.Common.{◌∙◌, ◌++◌, sym}
use Rattle.prop_demands.proofs.RightLemmas.{right_three}
use Rattle.prop_demands.proofs.fitting.Board.is_right_three.Goals as goal

pub returns : goal.returns
returns c = λ h e.
    let self = c.args.self.now in
    let form = c.args.form in
    let x = c.args.inputs.0 in
    let y = c.args.inputs.1 in
    let z = c.args.inputs.2 in
    right_three (self.cells.now.kinds ++ self.fresh.now) form.ins.now form.out form.need c.args.output
    c.in-Some-kind-3.last (sym c.in-Some-kind-3.ensures) x.1 y.1 z.1 x.0 y.0 z.0 c.in-Some.first c.in-Some-kind.second
    c.in-Some-kind-2.third e (sym c.in-Some.ensures) (sym c.in-Some-kind.ensures) (sym c.in-Some-kind-2.ensures)
    (sym c.are_right.ensures ∙ h)
