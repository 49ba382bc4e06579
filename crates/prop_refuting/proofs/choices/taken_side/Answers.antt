use Rattle.std.proofs.Common.{arith, refl}
use Rattle.prop_refuting.proofs.choices.taken_side.Goals as goal

pub returns-clause-side : goal.returns-clause-side
returns-clause-side c = record {
  number = c.in_ok-said.field-0;
  of = c.in_ok-said.was;
  choice = c.in_ok-side.side.choice;
  side = c.in_ok-side.side.side;
  at = c.in_ok-side.ensures;
  place = omega (arith, c.in_ok-checked_add.ensures);
  elements = c.in_ok-one_element.field-0;
  fact = refl;
  bits = c.in_ok-one_element.ensures;
}
