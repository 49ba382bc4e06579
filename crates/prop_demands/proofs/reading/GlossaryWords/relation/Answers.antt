use Rattle.prop_vocabulary.specs.Vocabulary.{relation_named}
use Rattle.prop_demands.proofs.TextLemmas.{in_no_text, in_text}
use Rattle.prop_demands.proofs.reading.GlossaryWords.relation.Goals as goal

pub returns-in-Ok : goal.returns-in-Ok
returns-in-Ok c =
    let text = c.in-Ok.ensures.cases in
    in_text c.args.word.now c.in-Ok.name.now _ (relation_named c.args.self.now.words.now) text.0 text.1
    c.relation.ensures.value

pub returns-in-Err : goal.returns-in-Err
returns-in-Err c =
    in_no_text c.args.word.now (relation_named c.args.self.now.words.now) c.in-Err.ensures.cases.0
