use Rattle.std.proofs.Common.{length}
use Rattle.prop_procedures.specs.Kept.{stored_of}
use Rattle.prop_cells.specs.Data.{problem_of}
use Rattle.prop_workbench.proofs.PremiseLemmas.{support_known}
use Rattle.prop_telling.proofs.telling.Teller.value.Goals as goal

pub said-requires-clause-known : goal.said-requires-clause-known
said-requires-clause-known g c =
    let s = c.args.self.now.session in
    let explains = rw (c.network-network.ensures, c.live.ensures) at c.in_ok-why.ensures.explains in
    support_known (problem_of (stored_of g.R.Rule.value_of s.live.network.library) s.live.network.cells)
    (length s.search.premises) c.args.cell c.in_ok-why.why.support c.requires.sound.in_order.at_work.known
    explains.related
