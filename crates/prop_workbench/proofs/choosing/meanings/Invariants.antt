use Rattle.std.proofs.Common.{map, take}
use Rattle.prop_language.specs.Said.{value_of}
use Rattle.prop_vocabulary.specs.Said.{meant_of}
use Rattle.prop_workbench.proofs.ChoiceLemmas.{IsJudged}
use Rattle.prop_workbench.proofs.choosing.meanings.Given as goal

abbrev pub invariant-loop-value : goal.invariant-loop-value
invariant-loop-value l =
    IsJudged l.fn.words l.fn.kind l.fn.is_taken (map value_of (take l.value-index l.fn.values)) l.first
    (map meant_of l.meants.items)
