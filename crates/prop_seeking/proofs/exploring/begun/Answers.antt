use Rattle.std.proofs.lemmas.Result.{IfOk-weaker}
use Rattle.prop_seeking.proofs.exploring.begun.Goals as goal

pub returns-in-None : goal.returns-in-None
returns-in-None c = IfOk-weaker c.new.result _ _ (λ e known g before. known g) c.new.ensures
