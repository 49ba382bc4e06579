use Rattle.std.proofs.Common.{sym}
use Rattle.prop_procedures.specs.Kept.{stored_of}
use Rattle.prop_cells.proofs.Keeping.{kept_statement}
use Rattle.prop_cells.proofs.Refused.{stated_fits, stated_within}
use Rattle.prop_cells.proofs.network.Network.state_under.Goals as goal

pub push_statement-requires-clause-of_kind : goal.push_statement-requires-clause-of_kind
push_statement-requires-clause-of_kind g c =
    stated_fits c.args.self.now.cells c.args.cell c.args.info (sym c.in-None.ensures)

pub returns-clause-kept : goal.returns-clause-kept
returns-clause-kept g c =
    let states = c.in_ok-push_statement.ensures.ok in
    kept_statement (stored_of g.R.Rule.value_of c.args.self.now.library) c.args.self.now.cells c.push_statement.new.self
    (record { premise = c.args.premise; cell = c.args.cell; info = c.args.info })
    (stated_within c.args.self.now.cells c.args.cell c.args.info (sym c.in-None.ensures))
    (stated_fits c.args.self.now.cells c.args.cell c.args.info (sym c.in-None.ensures)) c.requires.kept states.rest
    states.adds
