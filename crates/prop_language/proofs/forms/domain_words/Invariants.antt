use Rattle.std.proofs.Common.{◌≡◌, length}
use Rattle.prop_language.specs.Tokens.{tokens}
use Rattle.prop_language.specs.inner.Parts.{are_words}
use Rattle.prop_language.proofs.forms.domain_words.Given as goal

abbrev pub invariant-loop-token : goal.invariant-loop-token
invariant-loop-token l = are_words (tokens l.left) ≡ are_words (tokens l.elements)

abbrev pub decreases-loop-token : goal.decreases-loop-token
decreases-loop-token l = length l.left
