use Rattle.std.proofs.Common.{length}
use Rattle.prop_language.specs.Tokens.{tokens}
use Rattle.prop_language.specs.Said.{pairs_of}
use Rattle.prop_language.proofs.Forming.{Remain}
use Rattle.prop_language.proofs.forms.pairs.Given as goal

abbrev pub invariant-loop-found : goal.invariant-loop-found
invariant-loop-found l = Remain (pairs_of l.found.items) (tokens l.left) (tokens l.bytes)

abbrev pub decreases-loop-found : goal.decreases-loop-found
decreases-loop-found l = length l.left
