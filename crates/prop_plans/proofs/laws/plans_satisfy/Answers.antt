use Rattle.prop_procedures.specs.Kept.{stored_of}
use Rattle.prop_procedures.specs.inner.Kept.{all_lawful}
use Rattle.prop_plans.proofs.Held.{singles_satisfy}
use Rattle.prop_plans.proofs.laws.plans_satisfy.Goals as goal

pub returns : goal.returns
returns g c = singles_satisfy (stored_of g.R.Rule.value_of c.args.library.now)
    (all_lawful g.R.Rule.value_of c.args.library.now c.requires)
