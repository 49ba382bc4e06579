use Rattle.prop_points.proofs.ExcluderLaws.{excluders_are_exact}
use Rattle.prop_points.proofs.KitLaws.{kit_is_exact}
use Rattle.prop_points.proofs.WideLaws.{wide_is_exact}
use Rattle.prop_points.proofs.laws.rules_are_exact.Goals as goal

pub returns-clause-kit : goal.returns-clause-kit
returns-clause-kit c = kit_is_exact

pub returns-clause-wide : goal.returns-clause-wide
returns-clause-wide c = wide_is_exact

pub returns-clause-excluders : goal.returns-clause-excluders
returns-clause-excluders c = excluders_are_exact
