use Rattle.std.proofs.Common.{◌∙◌, sym}
use Rattle.prop_texts.proofs.TextLemmas.{label_at-side, label_at-user}
use Rattle.prop_notes.proofs.texts.label_text.Goals as goal

pub returns-in-Some : goal.returns-in-Some
returns-in-Some c =
    let label = label_at-side c.args.premises.now c.args.premise c.in-Some.side c.name-name.result.now
    c.name-name.ensures.name (sym c.side.ensures ∙ c.in-Some.is) in
    rw label c.format.ensures.ok

pub returns-in-None : goal.returns-in-None
returns-in-None c =
    let label = label_at-user c.args.premises.now c.args.premise c.name-name.result.now c.name-name.ensures.name
    (sym c.side.ensures ∙ c.in-None.is) in
    rw label c.from_str.ensures.ok
