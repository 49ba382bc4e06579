use Rattle.prop_demands.proofs.Allowing.{all_may_be_posted}
use Rattle.prop_demands.proofs.laws.what_is_understood_may_be_posted.Goals as goal

pub returns : goal.returns
returns g c = all_may_be_posted _
