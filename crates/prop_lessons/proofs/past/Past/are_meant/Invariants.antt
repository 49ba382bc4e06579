use Rattle.std.proofs.Common.{All, take}
use Rattle.prop_lessons.specs.inner.Standing.{IsSamePlace}
use Rattle.prop_lessons.proofs.past.Past.are_meant.Given as goal

abbrev pub invariant-loop-literal : goal.invariant-loop-literal
invariant-loop-literal l = All (λ x. IsSamePlace l.self l.cells x.place) (take l.literal-index l.literals)
