use Rattle.prop_numbers.specs.Sets.{set_of}
use Rattle.prop_cells.proofs.Adding.{beliefs_of_kinds}
use Rattle.prop_cells.proofs.cells.Cells.gather.Goals as goal

pub returns-clause-of_kinds : goal.returns-clause-of_kinds
returns-clause-of_kinds c = rw (← c.self.view_is)
    (beliefs_of_kinds _ c.self.invariant.made (set_of c.args.worldview.now))
