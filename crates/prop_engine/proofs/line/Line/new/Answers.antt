use Rattle.std.proofs.Common.{◌++◌, ◌∙◌, ap, lit<, string_bytes}
use Rattle.prop_engine.proofs.Lines.{text_of, ends_with_feed}
use Rattle.prop_engine.proofs.line.Line.new.Goals as goal

pub invariant_of-result : goal.invariant_of-result
invariant_of-result c =
    ends_with_feed _ (string_bytes c.args.text)
    (c.in_ok-push.ensures.bytes ∙ ap (λ l. string_bytes c.args.text ++ l) (c.in_ok-push.ensures.ascii (lit< tt)))

pub returns : goal.returns
returns c =
    text_of _ (string_bytes c.args.text)
    (c.in_ok-push.ensures.bytes ∙ ap (λ l. string_bytes c.args.text ++ l) (c.in_ok-push.ensures.ascii (lit< tt)))
