use Rattle.std.proofs.Common.{◌≡◌, true, take}
use Rattle.std.specs.List.{list_all}
use Rattle.prop_language.specs.Names.{is_among}
use Rattle.prop_vocabulary.specs.inner.SetBits.{bits_named}
use Rattle.prop_language.specs.Said.{words}
use Rattle.prop_vocabulary.proofs.values.read_set.Given as goal

abbrev pub invariant-loop-word : goal.invariant-loop-word
invariant-loop-word l = record {
  known : list_all (is_among l.domain) (words (take l.word-index l.chosen)) ≡ true;
  bits : l.bits ≡ bits_named l.domain (words (take l.word-index l.chosen));
}
