use Rattle.std.proofs.Common.{◌≡◌, None, refl, sym, ◌∙◌, ap, rules}
use Rattle.prop_language.specs.Tokens.{tokens}
use Rattle.prop_language.specs.inner.Parts.{body}
use Rattle.prop_language.proofs.StepLaws.{no_body, words_read}
use Rattle.prop_language.proofs.steps.definition_words.Goals as goal
use Rattle.prop_language.proofs.steps.definition_words.Goals.{in_default-via-in-Some+in_default}
use Rattle.prop_language.proofs.steps.definition_words.Goals.{in_default-via-in_default}

pub returns-in-Some-Equals-default-clause-ok : goal.returns-in-Some-Equals-default-clause-ok
returns-in-Some-Equals-default-clause-ok c =
    let found = rw c.in-Some-Equals-default.field-0-0-is at c.in-Some-Equals-default.ensures.found in
    words_read _ _ _ _ _ _ (c.in_ok-defined.ensures.ok, c.in_ok-_first.ensures.ok)
    (sym c.loop-rest.invariant ∙ ap body found)

pub returns-in_default-clause-err : goal.returns-in_default-clause-err
returns-in_default-clause-err c =
    let none : body (tokens c.loop-rest.left.now) ≡ None = elim c.in_default.branch [
      | in_default-via-in-Some+in_default w ↦ search rules
      | in_default-via-in_default w ↦ search rules
    ] in
    (refl, no_body _ _ _ _ _ (c.in_ok-defined.ensures.ok, c.in_ok-_first.ensures.ok) (sym c.loop-rest.invariant ∙ none))
