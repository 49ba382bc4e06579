use Rattle.std.proofs.Common.{◌≡◌, length}
use Rattle.prop_language.specs.Tokens.{tokens}
use Rattle.prop_language.specs.inner.Parts.{behind_by}
use Rattle.prop_language.proofs.forms.behind_by.Given as goal

abbrev pub invariant-loop-token : goal.invariant-loop-token
invariant-loop-token l = behind_by (tokens l.left) ≡ behind_by (tokens l.bytes)

abbrev pub decreases-loop-token : goal.decreases-loop-token
decreases-loop-token l = length l.left
