use Rattle.prop_workbench.specs.Sessions.{state_of}
use Rattle.prop_workbench.proofs.PostLemmas.{fixed_next}
use Rattle.prop_workbench.proofs.RunLemmas.{keeps_then}
use Rattle.prop_workbench.proofs.session.Session.fix_all.Goals as goal

pub returns-in-Err-clause-keeps : goal.returns-in-Err-clause-keeps
returns-in-Err-clause-keeps g c =
    keeps_then g.R.Rule.value_of c.args.self.now c.loop-x.self c.state_said.new.self c.loop-x.invariant.keeps
    c.state_said.ensures.keeps

pub loop-x-preserved : goal.loop-x-preserved
loop-x-preserved g c =
    let s = c.args.self.now in
    let t = c.loop-x.self in
    record {
      keeps = keeps_then g.R.Rule.value_of s t c.state_said.new.self c.loop-x.invariant.keeps
          c.state_said.ensures.keeps;
      fixed = fixed_next (state_of s) (state_of t) (state_of c.state_said.new.self) c.args.cells.now c.args.next
          c.args.fixed.now c.loop-x.x-index c.cell_at-cell.result c.x-item.result c.loop-x-test.true c.x-item.is
          c.loop-x.invariant.fixed c.cell_at-cell.ensures c.in-Ok.ensures.ok;
    }
