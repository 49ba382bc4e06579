use Rattle.std.proofs.Common.{◌≡◌, length}
use Rattle.std.specs.Option.{option_and_then}
use Rattle.prop_terms.specs.Tokens.{tokens, tokens_after, pieces}
use Rattle.prop_terms.specs.inner.Machine as machine
use Rattle.prop_terms.specs.inner.Machine.{run, end}
use Rattle.prop_terms.specs.inner.Parts.{state_of}
use Rattle.prop_terms.proofs.reading.parsed.Given as goal

abbrev pub invariant-loop-piece : goal.invariant-loop-piece
invariant-loop-piece l =
    option_and_then end (run (tokens_after l.after_leaf (pieces l.rest)) (state_of l.frames.items l.held))
    ≡ machine.parsed (tokens l.text)

abbrev pub decreases-loop-piece : goal.decreases-loop-piece
decreases-loop-piece l = length l.rest
