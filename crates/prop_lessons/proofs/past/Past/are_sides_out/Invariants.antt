use Rattle.std.proofs.Common.{take}
use Rattle.prop_numbers.specs.Sets.{set_of}
use Rattle.prop_lessons.specs.inner.Standing.{AreSidesOut}
use Rattle.prop_lessons.proofs.past.Past.are_sides_out.Given as goal

abbrev pub invariant-loop-choice : goal.invariant-loop-choice
invariant-loop-choice l = AreSidesOut (take l.choice-index l.self.choices) (set_of l.gone)
