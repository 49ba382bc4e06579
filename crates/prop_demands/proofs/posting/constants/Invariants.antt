use Rattle.std.proofs.Common.{◌≡◌, map, take}
use Rattle.prop_demands.specs.inner.Postings.{constant_of}
use Rattle.prop_demands.proofs.posting.constants.Given as goal

abbrev pub invariant-loop-number : goal.invariant-loop-number
invariant-loop-number l = map constant_of l.fixed.items ≡ take l.number l.posted.constants.items
