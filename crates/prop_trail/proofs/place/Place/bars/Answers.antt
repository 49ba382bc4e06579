use Rattle.prop_trail.proofs.SayLaws.{barred_from_left}
use Rattle.prop_trail.proofs.place.Place.bars.Goals as goal

pub returns-in_default : goal.returns-in_default
returns-in_default c = (
  λ t p left so. c.is_barred_by.ensures.0 t p left.0 so,
  λ bars. c.is_barred_by.ensures.1
      (barred_from_left c.args.fact c.args.self.now c.requires c.in_default.not-Is bars),
)
