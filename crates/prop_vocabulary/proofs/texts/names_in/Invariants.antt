use Rattle.std.proofs.Common.{◌≡◌, take}
use Rattle.std.specs.List.{enumerate_from}
use Rattle.prop_sets.specs.Names.{texts_of}
use Rattle.prop_vocabulary.proofs.TextLemmas.{picked}
use Rattle.prop_vocabulary.proofs.texts.names_in.Given as goal

abbrev pub invariant-loop-i : goal.invariant-loop-i
invariant-loop-i l = texts_of l.names.items ≡ picked l.bits (take l.i (enumerate_from 0 l.domain))
