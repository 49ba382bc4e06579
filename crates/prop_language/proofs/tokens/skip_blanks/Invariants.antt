use Rattle.std.proofs.Common.{◌≡◌, drop}
use Rattle.prop_language.specs.Tokens.{tokens}
use Rattle.prop_language.proofs.tokens.skip_blanks.Given as goal

abbrev pub invariant-loop-i : goal.invariant-loop-i
invariant-loop-i l = tokens (drop l.i l.bytes) ≡ tokens l.bytes
