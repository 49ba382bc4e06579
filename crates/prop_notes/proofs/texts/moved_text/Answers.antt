use Rattle.std.proofs.Common.{◌∙◌, sym}
use Rattle.prop_notes.proofs.TextLemmas.{moved_side, moved_user}
use Rattle.prop_notes.proofs.texts.moved_text.Goals as goal

pub returns-in-Some : goal.returns-in-Some
returns-in-Some c =
    let label = moved_side c.args.premises.now c.args.side c.in-Some.left c.name-name.result.now
    c.name-name.ensures.name (sym c.side.ensures ∙ c.in-Some.is) in
    rw label (rw c.from.ensures at c.format.ensures.ok)

pub returns-in-None : goal.returns-in-None
returns-in-None c =
    let label = moved_user c.args.premises.now c.args.side c.name-name.result.now
    c.name-name.ensures.name (sym c.side.ensures ∙ c.in-None.is) in
    rw label c.new.ensures.bytes
