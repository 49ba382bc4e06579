use Rattle.std.proofs.Common.{map, length}
use Rattle.prop_language.specs.Tokens.{tokens}
use Rattle.prop_language.specs.Said.{value_of}
use Rattle.prop_language.proofs.Choosing.{Remain}
use Rattle.prop_language.proofs.choices.sides.Given as goal

abbrev pub invariant-loop-found : goal.invariant-loop-found
invariant-loop-found l = Remain (map value_of l.found.items) (tokens l.left) (tokens l.bytes)

abbrev pub decreases-loop-found : goal.decreases-loop-found
decreases-loop-found l = length l.left
