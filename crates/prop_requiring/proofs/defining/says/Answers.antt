use Rattle.prop_vocabulary.specs.Said.{meant_of}
use Rattle.prop_requiring.proofs.DefineLemmas.{says_span}
use Rattle.prop_requiring.proofs.defining.says.Goals as goal

pub returns-in-Some : goal.returns-in-Some
returns-in-Some c = λ t. says_span c.truth.result.now c.args.word.now (meant_of c.in-Ok.meant) c.in-Some.said
    c.args.span c.in-Ok.ensures.ok c.in-Some.ensures (c.is_same_span.ensures t)
