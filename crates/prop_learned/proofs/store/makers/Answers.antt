use Rattle.std.proofs.Common.{◌∙◌, ◌<◌, Some, ap, arith}
use Rattle.std.proofs.lemmas.Option.{slice_get-get_or}
use Rattle.prop_learned.proofs.store.makers.Goals as goal

pub returns : goal.returns
returns c = λ k e has by.
    let before : has.0 < c.loop-at.at = omega (arith, has.1) in
    c.loop-at.invariant has.0 before k e (slice_get-get_or c.args.trail.now.entries has.0 e has.1 ∙ ap Some has.2) by
