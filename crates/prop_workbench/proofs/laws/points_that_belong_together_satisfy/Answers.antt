use Rattle.prop_workbench.proofs.PointLemmas.{related_satisfy}
use Rattle.prop_workbench.proofs.laws.points_that_belong_together_satisfy.Goals as goal

pub returns : goal.returns
returns g c = related_satisfy _ _
