use Rattle.prop_demands.proofs.Demands.{posting_demands}
use Rattle.prop_demands.proofs.laws.what_is_posted_is_demanded.Goals as goal

pub returns : goal.returns
returns g c = posting_demands _
