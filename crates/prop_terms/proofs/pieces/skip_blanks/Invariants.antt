use Rattle.std.proofs.Common.{◌≡◌, drop}
use Rattle.prop_terms.specs.Tokens.{pieces}
use Rattle.prop_terms.proofs.pieces.skip_blanks.Given as goal

abbrev pub invariant-loop-i : goal.invariant-loop-i
invariant-loop-i l = pieces (drop l.i l.bytes) ≡ pieces l.bytes
