use Rattle.std.proofs.Common.{◌≡◌, ◌∙◌, Err, refl, ap}
use Rattle.std.proofs.lemmas.Result.{err_from_is_err_and}
use Rattle.prop_procedures.specs.Kept.{stored_of}
use Rattle.prop_cells.specs.declared.instance.Statement.{Statement}
use Rattle.prop_workbench.proofs.StandingLemmas.{stated_at_work, stated_kinds, stated_instances}
use Rattle.prop_workbench.proofs.AskLemmas.{believes_same}
use Rattle.prop_workbench.specs.Sessions.{work_of}
use Rattle.prop_workbench.proofs.WakingLemmas.{stated_one}
use Rattle.prop_workbench.proofs.session.Session.state.Goals as goal

pub state-requires-clause-alive : goal.state-requires-clause-alive
state-requires-clause-alive g c = rw c.worldview.ensures.same (record {
  under_way = c.requires.sound.at_work.under_way;
  watched = c.requires.sound.at_work.watched;
})

pub returns-clause-keeps : goal.returns-clause-keeps
returns-clause-keeps g c =
    let s = c.args.self.now in
    let sound = c.requires.sound in
    let library = stored_of g.R.Rule.value_of s.live.network.library in
    let statement : Statement = record { premise = c.args.premise; cell = c.args.cell; info = c.args.info } in
    let rest = c.in_ok-state.ensures.ok.rest in
    let kinds : c.state.new.live.network.cells.kinds ≡ s.live.network.cells.kinds =
    stated_kinds s.live.network.cells c.state.new.live.network.cells statement rest in
    let instances : c.state.new.live.network.cells.instances ≡ s.live.network.cells.instances =
    stated_instances s.live.network.cells c.state.new.live.network.cells statement rest in
    record {
      library = c.state.ensures.same;
      sound = record {
        at_work = rw c.state.ensures.same (stated_at_work library s.search s.live.network.cells
            c.state.new.live.network.cells
            s.live.agenda c.state.new.live.agenda statement sound.at_work rest c.requires.known
            (rw (c.worldview.ensures.same, c.state.ensures.same) at c.state.ensures.alive.under_way)
            (rw c.worldview.ensures.same at c.state.ensures.alive.watched));
        sized = rw kinds sound.sized;
        locals = sound.locals;
        room = rw (kinds, instances) sound.room;
        named = rw kinds sound.named;
        defined = rw c.state.ensures.same sound.defined;
      };
      steps = refl;
      covers = λ m h. h;
    }

pub returns-in_err-state-clause-keeps : goal.returns-in_err-state-clause-keeps
returns-in_err-state-clause-keeps g c =
    let sound = c.requires.sound in
    let cells = c.in_err-state.ensures.err_same in
    let line = c.in_err-state.ensures.err_line in
    record {
      library = c.state.ensures.same;
      sound = record {
        at_work = rw (c.state.ensures.same, cells, line) sound.at_work;
        sized = rw cells sound.sized;
        locals = sound.locals;
        room = rw cells sound.room;
        named = rw cells sound.named;
        defined = rw c.state.ensures.same sound.defined;
      };
      steps = refl;
      covers = λ m h. h;
    }

pub returns-clause-told : goal.returns-clause-told
returns-clause-told g c =
    let s = c.args.self.now in
    let new = c.state.new.live.network.cells in
    record {
      search = refl;
      order = refl;
      holds = stated_one s.live.network.cells new
          (record { premise = c.args.premise; cell = c.args.cell; info = c.args.info }) c.in_ok-state.ensures.ok;
      line = rw (c.worldview.ensures.same, believes_same s.search c.requires.sound.at_work.well_made)
          at c.in_ok-state.ensures.stirred;
    }

pub returns-in_err-state-clause-told : goal.returns-in_err-state-clause-told
returns-in_err-state-clause-told g c =
    let s = c.args.self.now in
    let told = err_from_is_err_and c.from_residual.result c.from_residual.ensures.1 in
    rw (told.1 ∙ ap Err told.2) (λ i. record (work_of s) {
      cells = c.in_err-state.ensures.err_same i;
      line = (c.in_err-state.ensures.err_line i).line;
    })
