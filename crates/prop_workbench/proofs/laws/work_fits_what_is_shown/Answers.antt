use Rattle.prop_workbench.proofs.WorkLemmas.{runs_fit}
use Rattle.prop_workbench.proofs.laws.work_fits_what_is_shown.Goals as goal

pub returns : goal.returns
returns g c = runs_fit _ _
