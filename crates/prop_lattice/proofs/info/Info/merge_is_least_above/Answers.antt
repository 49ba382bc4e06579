use Rattle.prop_lattice.specs.laws.OrderLaws.{info_laws}
use Rattle.prop_lattice.proofs.info.Info.merge_is_least_above.Goals as goal

pub returns : goal.returns
returns c = info_laws
