use Rattle.std.proofs.Common.{◌≡◌, map, drop}
use Rattle.std.specs.Prelude.{find, bytes_eq}
use Rattle.prop_terms.specs.inner.Parts.{entry_said}
use Rattle.prop_terms.proofs.tokens.known.Given as goal

abbrev pub invariant-loop-text : goal.invariant-loop-text
invariant-loop-text l =
    find (λ entry. bytes_eq entry.0 l.piece) (map entry_said (drop l.text-index l.vocabulary))
    ≡ find (λ entry. bytes_eq entry.0 l.piece) (map entry_said l.vocabulary)
