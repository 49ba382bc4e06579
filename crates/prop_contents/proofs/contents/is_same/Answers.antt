use Rattle.std.proofs.Common.{subst}
use Rattle.prop_lattice.specs.declared.info.Info.{Info}
use Rattle.prop_lattice.specs.Order.{Below}
use Rattle.prop_lattice.specs.laws.OrderLaws.{info_laws}
use Rattle.prop_contents.proofs.contents.is_same.Goals as goal

pub returns-then-implies : goal.returns-then-implies
returns-then-implies c = (
  λ h. info_laws.antisymmetric c.args.a c.args.b (c.implies-then-implies.ensures.0 h)
      (c.implies.ensures.0 c.if-implies.true),
  λ e. c.implies-then-implies.ensures.1 (subst (λ (x : Info). Below c.args.a x) e (info_laws.reflexive c.args.a)),
)
