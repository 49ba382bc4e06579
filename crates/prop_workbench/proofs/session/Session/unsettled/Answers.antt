use Rattle.std.proofs.Common.{refl}
use Rattle.prop_procedures.specs.Kept.{stored_of}
use Rattle.prop_workbench.specs.Machine.{worldview_at}
use Rattle.prop_workbench.specs.Sessions.{state_of, work_of}
use Rattle.prop_workbench.proofs.AskLemmas.{may_say_unsettled}
use Rattle.prop_workbench.proofs.ReasonLemmas.{lean_bare, so_far_bare}
use Rattle.prop_workbench.proofs.session.Session.unsettled.Goals as goal

pub returns-in-Settle-clause-says : goal.returns-in-Settle-clause-says
returns-in-Settle-clause-says g c =
    let s = c.args.self.now in
    may_say_unsettled (stored_of g.R.Rule.value_of s.live.network.library) (state_of s) s.search.list c.args.question _
    s.limit c.in-Settle.is refl c.text_reply.ensures

pub returns-in-Settle-clause-lean : goal.returns-in-Settle-clause-lean
returns-in-Settle-clause-lean g c = lean_bare (worldview_at (state_of c.args.self.now) c.args.self.now.search.list)
    c.args.self.now.live.network.cells (state_of c.args.self.now) c.args.question _ c.in-Settle.is

pub returns-in-Settle-clause-believed : goal.returns-in-Settle-clause-believed
returns-in-Settle-clause-believed g c =
    so_far_bare (state_of c.args.self.now) (work_of c.args.self.now) c.args.question _ c.in-Settle.is
