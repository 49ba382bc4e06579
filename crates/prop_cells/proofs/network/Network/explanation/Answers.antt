use Rattle.prop_numbers.specs.Sets.{set_of}
use Rattle.prop_procedures.specs.Kept.{stored_of}
use Rattle.prop_cells.proofs.Founding.{lean_at_explains}
use Rattle.prop_cells.proofs.network.Network.explanation.Goals as goal

pub returns-clause-explains : goal.returns-clause-explains
returns-clause-explains g c = rw c.in_ok-why.ensures.value
    (lean_at_explains (stored_of g.R.Rule.value_of c.args.self.now.library) c.args.self.now.cells
    (set_of c.args.worldview.now) c.args.cell c.in_ok-why.why.support c.requires.kept c.in_ok-why.ensures.lean)
