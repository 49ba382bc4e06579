use Rattle.std.proofs.Common.{refl}
use Rattle.prop_lattice.specs.laws.OrderLaws.{info_laws}
use Rattle.prop_lessons.proofs.same.is_same_info.Goals as goal

pub returns-then-implies : goal.returns-then-implies
returns-then-implies c h = info_laws.antisymmetric c.args.one c.args.other
    (c.implies-then-implies.ensures.0 h) (c.if-implies.ensures.0 refl)
