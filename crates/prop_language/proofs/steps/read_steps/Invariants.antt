use Rattle.std.proofs.Common.{map}
use Rattle.prop_language.specs.Tokens.{tokens}
use Rattle.prop_language.specs.inner.Parts.{Says}
use Rattle.prop_language.proofs.steps.read_steps.Given as goal

abbrev pub invariant-loop-part : goal.invariant-loop-part
invariant-loop-part l = Says (map (λ part. tokens part.now) l.yielded) l.steps.read.items l.steps.refused
