use Rattle.std.proofs.Common.{◌≡◌, ◌∙◌, List, ℕ, map, ap, sym, subst}
use Rattle.std.specs.Prelude.{Option, Some, string_bytes}
use Rattle.prop_program.specs.Running.{given_words, Declines}
use Rattle.prop_program.proofs.starting.chosen_options.Goals as goal

pub returns-in-Ok-options-clause-ok : goal.returns-in-Ok-options-clause-ok
returns-in-Ok-options-clause-ok g c =
    let given = map string_bytes c.in-Ok-collected.words.items in
    let same : given_words c.args.words ≡ Some given = ap given_words c.in-Ok.is
    ∙ ap (λ l. Some (map string_bytes l)) (sym c.in-Ok-collected.ensures) in
    (given, same, rw c.deref.ensures.value at c.in-Ok-options.ensures.ok)

pub returns-clause-err : goal.returns-clause-err
returns-clause-err g c =
    let given = map string_bytes c.in-Ok-collected.words.items in
    let same : given_words c.args.words ≡ Some given = ap given_words c.in-Ok.is
    ∙ ap (λ l. Some (map string_bytes l)) (sym c.in-Ok-collected.ensures) in
    subst (λ (words : Option (List (List ℕ))). Declines c.args.said.name.now words g.D.Devices.calls
    c.args.devices.now c.declined.new.devices c.declined.result) (sym same)
    (c.declined.ensures.declines given (rw c.deref.ensures.value at c.in-Err-options.ensures.why))
