use Rattle.std.proofs.Common.{◌≡◌, false, map, take}
use Rattle.std.specs.List.{list_any}
use Rattle.prop_vocabulary.specs.Cells.{cells_named}
use Rattle.prop_workbench.proofs.NumberLemmas.{is_nowhere}
use Rattle.prop_workbench.proofs.attaching.cells_named.Given as goal

abbrev pub invariant-loop-name : goal.invariant-loop-name
invariant-loop-name l = record {
  numbers : l.numbers.items ≡ cells_named l.names (map (λ x. x.now) (take l.name-index l.cells));
  all : list_any (is_nowhere l.names) (take l.name-index l.cells) ≡ false;
}
