use Rattle.std.proofs.Common.{◌≡◌, length, take}
use Rattle.prop_tms.specs.Values.{entries_of}
use Rattle.prop_tms.proofs.values.count.Given as goal

abbrev pub invariant-loop-valued : goal.invariant-loop-valued
invariant-loop-valued g l = l.count ≡ length (entries_of (take l.valued-index l.values))
