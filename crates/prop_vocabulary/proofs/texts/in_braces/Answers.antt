use Rattle.std.proofs.Common.{◌∙◌, ◌++◌, ap, codes}
use Rattle.std.proofs.lemmas.Result.{IfOk-weaker}
use Rattle.prop_vocabulary.proofs.TextLemmas.{braced}
use Rattle.prop_vocabulary.proofs.texts.in_braces.Goals as goal

pub returns : goal.returns
returns c =
    IfOk-weaker c.format.result _ _ (λ text written. written
    ∙ ap (λ joined. codes "{" ++ (joined ++ codes "}")) c.in_ok-names.ensures.ok
    ∙ braced c.args.names.now c.if-names-eq1.false) c.format.ensures.ok
