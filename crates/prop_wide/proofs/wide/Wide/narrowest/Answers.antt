use Rattle.prop_wide.specs.laws.WideNarrowest.{wide_narrowest}
use Rattle.prop_wide.proofs.wide.Wide.narrowest.Goals as goal

pub returns : goal.returns
returns c = wide_narrowest
