use Rattle.std.proofs.Common.{◌∙◌, ap}
use Rattle.prop_many.specs.Disjoint.{disjoint_of}
use Rattle.prop_many.proofs.Items.{two_and_rest}
use Rattle.prop_many.proofs.disjoint.start_apart.Goals as goal

pub returns-in-len2-up : goal.returns-in-len2-up
returns-in-len2-up c =
    c.starts.ensures ∙ ap disjoint_of (two_and_rest c.args.args.now c.start-item.result c.length-item.result
    c.in-len2-up.len_at_least c.start-item.is c.length-item.is)
