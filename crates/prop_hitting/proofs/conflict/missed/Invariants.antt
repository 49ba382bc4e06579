use Rattle.std.proofs.Common.{All, take}
use Rattle.std.specs.Prelude.{IsTrue}
use Rattle.std.specs.List.{list_any}
use Rattle.prop_numbers.specs.Sets.{set_of}
use Rattle.prop_hitting.proofs.conflict.missed.Given as goal

abbrev pub invariant-loop-conflict : goal.invariant-loop-conflict
invariant-loop-conflict l =
    All (λ c. IsTrue (list_any (set_of l.set) c.premises)) (take l.conflict-index l.conflicts)
