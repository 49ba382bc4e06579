use Rattle.std.proofs.Common.{drop, map}
use Rattle.prop_vocabulary.specs.Said.{meant_of}
use Rattle.prop_workbench.proofs.ChoosingLemmas.{IsOnTheWay}
use Rattle.prop_workbench.proofs.choosing.infos_of.Given as goal

abbrev pub invariant-loop-meant : goal.invariant-loop-meant
invariant-loop-meant l =
    IsOnTheWay l.fn.words l.words l.infos.items (map meant_of l.fn.meants)
    (map meant_of (drop l.meant-index l.fn.meants))
