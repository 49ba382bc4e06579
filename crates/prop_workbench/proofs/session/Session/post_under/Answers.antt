use Rattle.std.proofs.Common.{◌≡◌, ◌∙◌, ap, length}
use Rattle.prop_procedures.specs.Kept.{stored_of}
use Rattle.prop_workbench.specs.Sessions.{state_of}
use Rattle.prop_workbench.specs.Posting.{with_fixed}
use Rattle.prop_workbench.specs.inner.Effects.{name_under}
use Rattle.prop_workbench.proofs.PostLemmas.{told_or_left}
use Rattle.prop_workbench.proofs.RunLemmas.{keeps_then}
use Rattle.prop_workbench.proofs.session.Session.post_under.Goals as goal

pub returns-in-Ok-clause-keeps : goal.returns-in-Ok-clause-keeps
returns-in-Ok-clause-keeps g c =
    keeps_then g.R.Rule.value_of c.args.self.now c.place.new.self c.state_said.new.self c.place.ensures.keeps
    (keeps_then g.R.Rule.value_of c.place.new.self c.fix_all-made.new.self c.state_said.new.self
    c.fix_all-made.ensures.keeps c.state_said.ensures.keeps)

pub returns-in-Ok-clause-posted : goal.returns-in-Ok-clause-posted
returns-in-Ok-clause-posted g c =
    let s = c.args.self.now in
    let cells = c.args.cells.now in
    let next : c.cells-next.result ≡ length s.live.network.cells.kinds = rw c.network.ensures at
    c.cells-next.ensures.count in
    told_or_left (stored_of g.R.Rule.value_of s.live.network.library) (state_of s) (state_of c.place.new.self)
    (state_of c.fix_all-made.new.self) (state_of c.state_said.new.self) cells c.cells-next.result c.cell_at.result
    c.args.posting (name_under c.args.under) c.state_said.result c.requires.free c.requires.room
    c.in_default.ensures.fits c.in_default.ensures.ok next
    (c.in-Ok.ensures.ok ∙ ap (with_fixed (state_of c.place.new.self) cells c.cells-next.result) c.deref.ensures.value)
    c.cell_at.ensures c.state_said.ensures.ok c.state_said.ensures.err c.state_said.ensures.err_same

pub returns-in-Err-made-clause-keeps : goal.returns-in-Err-made-clause-keeps
returns-in-Err-made-clause-keeps g c =
    keeps_then g.R.Rule.value_of c.args.self.now c.place.new.self c.fix_all-made.new.self c.place.ensures.keeps
    c.fix_all-made.ensures.keeps
