use Rattle.std.proofs.Common.{◌≡◌, true, take}
use Rattle.std.specs.List.{list_all, list_any}
use Rattle.prop_language.specs.Said.{words}
use Rattle.prop_vocabulary.specs.Cells.{cells_named}
use Rattle.prop_seeking.proofs.AskLemmas.{is_named, is_nowhere}
use Rattle.prop_seeking.proofs.question.cells_of.Given as goal

abbrev pub invariant-loop-word : goal.invariant-loop-word
invariant-loop-word l = record {
  cells : l.cells.items ≡ cells_named l.names (words (take l.word-index l.listed));
  named : list_all is_named (take l.word-index l.listed) ≡ true;
  missing : l.is_missing ≡ list_any (is_nowhere l.names) (take l.word-index l.listed);
}
