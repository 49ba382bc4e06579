use Rattle.std.proofs.Common.{◌≡◌, length}
use Rattle.prop_language.specs.Tokens.{tokens}
use Rattle.prop_language.specs.inner.Parts.{body}
use Rattle.prop_language.proofs.steps.definition_words.Given as goal

abbrev pub invariant-loop-rest : goal.invariant-loop-rest
invariant-loop-rest l = body (tokens l.left) ≡ body (tokens l.params)

abbrev pub decreases-loop-rest : goal.decreases-loop-rest
decreases-loop-rest l = length l.left
