use Rattle.prop_vocabulary.specs.Cells.{cell_named}
use Rattle.prop_demands.proofs.TextLemmas.{in_no_text, in_text}
use Rattle.prop_demands.proofs.reading.GlossaryWords.cell.Goals as goal

pub returns-in-Ok-clause-value : goal.returns-in-Ok-clause-value
returns-in-Ok-clause-value c =
    let text = c.in-Ok.ensures.cases in
    in_text c.args.word.now c.in-Ok.name.now _ (cell_named c.args.self.now.names.now) text.0 text.1
    c.find.ensures.number

pub returns-in-Err-clause-value : goal.returns-in-Err-clause-value
returns-in-Err-clause-value c =
    in_no_text c.args.word.now (cell_named c.args.self.now.names.now) c.in-Err.ensures.cases.0
