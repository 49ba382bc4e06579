use Rattle.prop_vocabulary.specs.Names.{number_in}
use Rattle.prop_demands.proofs.TextLemmas.{in_no_text, in_text}
use Rattle.prop_demands.proofs.reading.GlossaryWords.symbol.Goals as goal

pub returns-in-Ok : goal.returns-in-Ok
returns-in-Ok c =
    let text = c.in-Ok.ensures.cases in
    in_text c.args.word.now c.in-Ok.name.now _ (number_in c.args.self.now.words.now.symbols) text.0 text.1
    c.symbol.ensures.number

pub returns-in-Err : goal.returns-in-Err
returns-in-Err c =
    in_no_text c.args.word.now (number_in c.args.self.now.words.now.symbols) c.in-Err.ensures.cases.0
