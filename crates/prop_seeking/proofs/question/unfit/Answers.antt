use Rattle.prop_vocabulary.specs.Cells.{no_cell_names}
use Rattle.prop_seeking.specs.inner.Pieces.{named_so}
use Rattle.prop_seeking.proofs.question.unfit.Goals as goal

pub returns-in-Differing : goal.returns-in-Differing
returns-in-Differing c =
    rw c.in-Differing.is (c.no_place.ensures (named_so no_cell_names c.args.cells.now.kinds))
