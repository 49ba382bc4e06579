use Rattle.std.proofs.Common.{◌∙◌, ◌++◌, sym}
use Rattle.prop_demands.proofs.RightLemmas.{right_one}
use Rattle.prop_demands.proofs.fitting.Board.is_right_one.Goals as goal

pub returns : goal.returns
returns c = λ h e.
    let self = c.args.self.now in
    let form = c.args.form in
    let x = c.args.x in
    right_one (self.cells.now.kinds ++ self.fresh.now) form.ins.now form.out form.need c.args.output c.in-Some-kind.last
    (sym c.in-Some-kind.ensures) x.1 x.0 c.in-Some.first e (sym c.in-Some.ensures) (sym c.are_right.ensures ∙ h)
