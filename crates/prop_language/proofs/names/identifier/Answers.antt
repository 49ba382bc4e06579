use Rattle.std.proofs.Common.{true, false}
use Rattle.std.proofs.lemmas.Str.{IsUtf8-from_ascii}
use Rattle.prop_language.proofs.Plain.{plain_name, by_test, no_text}
use Rattle.prop_language.proofs.names.identifier.Goals as goal
use Rattle.prop_language.proofs.names.identifier.Goals.{in_default-via-in-Ok+else-is_identifier, in_default-via-in_default}

pub from_utf8_unchecked-requires : goal.from_utf8_unchecked-requires
from_utf8_unchecked-requires c = IsUtf8-from_ascii _ (c.is_plain.ensures c.if-is_plain.true).0

pub returns-then-is_plain-clause-some : goal.returns-then-is_plain-clause-some
returns-then-is_plain-clause-some c =
    let plain = c.is_plain.ensures c.if-is_plain.true in
    (c.from_utf8_unchecked.ensures, plain_name c.args.word.now plain.0 plain.1)

pub returns-in-Ok-clause-some : goal.returns-in-Ok-clause-some
returns-in-Ok-clause-some c =
    let text = c.in-Ok.ensures.cases in
    (text.0, by_test c.args.word.now c.in-Ok.text.now true text.0 text.1 c.if-is_identifier.ensures)

pub returns-in_default-clause-none : goal.returns-in_default-clause-none
returns-in_default-clause-none c none =
    elim c.in_default.branch [
      | in_default-via-in-Ok+else-is_identifier w ↦
          let text = w.in-Ok.ensures.cases in
          by_test c.args.word.now w.in-Ok.text.now false text.0 text.1 w.if-is_identifier.ensures
      | in_default-via-in_default w ↦ no_text c.args.word.now w.in_default.ensures.cases.0
    ]
