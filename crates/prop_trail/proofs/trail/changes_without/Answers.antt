use Rattle.std.proofs.Common.{refl}
use Rattle.prop_lattice.specs.laws.OrderLaws.{info_laws}
use Rattle.prop_trail.proofs.trail.changes_without.Goals as goal

pub returns-then-implies : goal.returns-then-implies
returns-then-implies c = (
  λ _. refl,
  λ other. absurd (other
      (info_laws.antisymmetric c.args.is c.args.was (c.if-implies.ensures.0 refl) c.requires)),
)
