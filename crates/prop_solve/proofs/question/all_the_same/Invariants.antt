use Rattle.std.proofs.Common.{take}
use Rattle.std.specs.List.{AllZip}
use Rattle.prop_solve.specs.Questions.{IsValueFact}
use Rattle.prop_solve.proofs.question.all_the_same.Given as goal

abbrev pub invariant-loop-cell : goal.invariant-loop-cell
invariant-loop-cell l = AllZip (IsValueFact l.values) (take l.cell-index l.named) l.facts.items
