use Rattle.prop_procedures.specs.Kept.{stored_of}
use Rattle.prop_cells.proofs.ForgettingLaws.{kept_forgotten}
use Rattle.prop_cells.proofs.network.Network.purge.Goals as goal

pub returns-clause-kept : goal.returns-clause-kept
returns-clause-kept g c = rw c.purge.ensures
    (kept_forgotten c.args.premise (stored_of g.R.Rule.value_of c.args.self.now.library) c.args.self.now.cells
    c.requires.kept)
