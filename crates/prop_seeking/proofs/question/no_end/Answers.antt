use Rattle.std.proofs.Common.{◌∙◌}
use Rattle.prop_vocabulary.specs.Cells.{no_cell_names}
use Rattle.prop_seeking.specs.inner.Pieces.{named_so}
use Rattle.prop_seeking.proofs.AskLemmas.{greatest_unfit, least_unfit}
use Rattle.prop_seeking.proofs.question.no_end.Goals as goal

pub returns-in-Some-clause-least : goal.returns-in-Some-clause-least
returns-in-Some-clause-least c =
    c.no_number.ensures ∙ least_unfit (named_so no_cell_names c.args.cells.now.kinds) c.args.named.now
    c.in-Some.cell.now c.in-Some.ensures.value

pub returns-in-Some-clause-greatest : goal.returns-in-Some-clause-greatest
returns-in-Some-clause-greatest c =
    c.no_number.ensures ∙ greatest_unfit (named_so no_cell_names c.args.cells.now.kinds) c.args.named.now
    c.in-Some.cell.now c.in-Some.ensures.value
