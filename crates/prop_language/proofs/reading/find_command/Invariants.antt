use Rattle.std.proofs.Common.{◌≡◌, map, drop}
use Rattle.std.specs.Prelude.{find, bytes_eq}
use Rattle.prop_language.specs.inner.Parts.{form_entry}
use Rattle.prop_language.proofs.reading.find_command.Given as goal

abbrev pub invariant-loop-known : goal.invariant-loop-known
invariant-loop-known l =
    find (λ form. bytes_eq form.0 l.word) (map form_entry (drop l.known-index l.commands)) ≡ find
    (λ form. bytes_eq form.0 l.word) (map form_entry l.commands)
