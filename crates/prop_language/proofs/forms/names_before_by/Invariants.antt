use Rattle.std.proofs.Common.{◌≡◌, ◌++◌, ◌∷◌, true, length}
use Rattle.std.specs.List.{list_all}
use Rattle.prop_language.specs.Tokens.{tokens}
use Rattle.prop_language.specs.Names.{is_name}
use Rattle.prop_language.specs.Said.{words}
use Rattle.prop_language.specs.inner.Parts.{before_by}
use Rattle.prop_language.proofs.forms.names_before_by.Given as goal

abbrev pub invariant-loop-word : goal.invariant-loop-word
invariant-loop-word l = record {
  all : words l.names.items ++ before_by (tokens l.left) ≡ l.first ∷ before_by (tokens l.rest);
  named : list_all is_name (words l.names.items) ≡ true;
}

abbrev pub decreases-loop-word : goal.decreases-loop-word
decreases-loop-word l = length l.left
