use Rattle.prop_procedures.specs.inner.Kept.{sound_at}
use Rattle.prop_cells.proofs.PointLaws.{entailed_holds, points_consistent}
use Rattle.prop_cells.proofs.laws.points_lie_in_what_is_entailed.Goals as goal

pub returns-clause-entailed : goal.returns-clause-entailed
returns-clause-entailed g c = entailed_holds _ _ (λ n p at. sound_at _ _ c.args.library.now n p c.requires at)

pub returns-clause-consistent : goal.returns-clause-consistent
returns-clause-consistent g c = points_consistent _ _ (λ n p at. sound_at _ _ c.args.library.now n p c.requires at)
