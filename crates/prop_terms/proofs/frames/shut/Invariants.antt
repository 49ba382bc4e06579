use Rattle.std.proofs.Common.{◌≡◌, vec_len}
use Rattle.prop_terms.specs.inner.Machine.{shut_in}
use Rattle.prop_terms.specs.inner.Parts.{held_in}
use Rattle.prop_terms.proofs.frames.shut.Given as goal

abbrev pub invariant-making : goal.invariant-making
invariant-making l =
    shut_in l.coming (held_in l.frames.items l.held) ≡ shut_in l.coming (held_in l.fn.frames.items l.fn.held)

abbrev pub decreases-making : goal.decreases-making
decreases-making l = vec_len l.frames
