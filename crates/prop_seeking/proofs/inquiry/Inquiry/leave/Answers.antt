use Rattle.std.proofs.lemmas.Result.{IfOk-weaker}
use Rattle.prop_seeking.proofs.inquiry.Inquiry.leave.Goals as goal

pub returns : goal.returns
returns c =
    IfOk-weaker c.leave.result _ _ (λ e h g i. h g.library g.cells g.premises i.past i.search) c.leave.ensures
