use Rattle.std.proofs.Common.{◌≡◌, ◌≤◌, [], length}
use Rattle.prop_language.specs.Tokens.{tokens}
use Rattle.prop_language.specs.inner.Forms.{in_braces}
use Rattle.prop_language.specs.Said.{words}
use Rattle.prop_language.proofs.forms.braces.Given as goal

abbrev pub invariant-loop-word : goal.invariant-loop-word
invariant-loop-word l = record {
  read : in_braces (words l.words.items) (tokens l.left) ≡ in_braces [] (tokens l.bytes);
  within : length l.left ≤ length l.bytes;
}

abbrev pub decreases-loop-word : goal.decreases-loop-word
decreases-loop-word l = length l.left
