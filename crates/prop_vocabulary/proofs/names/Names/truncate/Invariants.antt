use Rattle.std.proofs.Common.{◌≡◌, length, take}
use Rattle.prop_vocabulary.proofs.names.Names.truncate.Given as goal

abbrev pub invariant-loop-self : goal.invariant-loop-self
invariant-loop-self l = take l.fn.count l.self ≡ take l.fn.count l.fn.self

abbrev pub decreases-loop-self : goal.decreases-loop-self
decreases-loop-self l = length l.self
