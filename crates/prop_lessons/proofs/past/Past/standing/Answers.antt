use Rattle.std.proofs.Common.{refl}
use Rattle.prop_numbers.specs.Sets.{set_of}
use Rattle.prop_premises.specs.Origins.{choices_of}
use Rattle.prop_plans.specs.Held.{attached_of}
use Rattle.prop_lessons.proofs.GoneLemmas.{is_there}
use Rattle.prop_lessons.proofs.past.Past.standing.Goals as goal

pub returns-clause-there : goal.returns-clause-there
returns-clause-there c = is_there c.args.self.now (attached_of c.args.cells.now) (choices_of c.args.premises.now)
    (set_of c.in_ok-believed_but.field-0) (set_of c.in-Some.gone) (c.if-not-has_kinds.ensures refl)
    (c.if-not-has_instances.ensures refl) (c.if-not-has_choices.ensures refl)
    (rw c.in-Some.is at c.in_ok-gone.ensures) (c.if-not-are_sides_out.ensures refl)
    c.in_ok-believed_but.ensures.stay
