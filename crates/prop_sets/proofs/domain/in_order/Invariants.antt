use Rattle.std.proofs.Common.{◌≡◌, take}
use Rattle.prop_sets.specs.Names.{texts_of, names_of}
use Rattle.prop_sets.proofs.domain.in_order.Given as goal

abbrev pub invariant-loop-name : goal.invariant-loop-name
invariant-loop-name l = names_of l.kept.keys ≡ take l.name-index (texts_of l.names)
