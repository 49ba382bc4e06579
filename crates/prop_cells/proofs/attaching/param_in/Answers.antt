use Rattle.prop_cells.proofs.Params.{param_within, copied_in}
use Rattle.prop_cells.proofs.attaching.param_in.Goals as goal

pub bounds-params-n : goal.bounds-params-n
bounds-params-n c = param_within c.args.need c.args.params.now c.in-Some.n (rw c.in-Some.is at c.requires)

pub returns-in-Some : goal.returns-in-Some
returns-in-Some c =
    copied_in c.args.need c.args.params.now c.args.given c.in-Some.n c.index-params-n.result c.copy.result c.in-Some.is
    c.requires c.index-params-n.is c.copy.ensures.copy
