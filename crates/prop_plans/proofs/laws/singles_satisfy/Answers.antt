use Rattle.prop_plans.proofs.Held.{singles_satisfy}
use Rattle.prop_plans.proofs.laws.singles_satisfy.Goals as goal

pub returns : goal.returns
returns c = singles_satisfy
