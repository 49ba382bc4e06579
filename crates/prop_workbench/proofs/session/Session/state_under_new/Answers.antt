use Rattle.std.proofs.Common.{◌≡◌, Some, length, refl}
use Rattle.prop_numbers.specs.Sets.{set_of}
use Rattle.prop_procedures.specs.Kept.{stored_of}
use Rattle.prop_cells.specs.declared.instance.Statement.{Statement}
use Rattle.prop_cells.specs.Instances.{readers_of}
use Rattle.prop_cells.specs.Data.{problem_of}
use Rattle.prop_amb.specs.Moving.{interned}
use Rattle.prop_workbench.proofs.StandingLemmas.{named_at_work, named_covers, new_number, stated_at_work}
use Rattle.prop_workbench.proofs.StandingLemmas.{stated_kinds, stated_instances, back_keeps, same_keeps}
use Rattle.prop_workbench.specs.Sessions.{work_of, state_of}
use Rattle.prop_workbench.proofs.ChosenLemmas.{room_for_name}
use Rattle.prop_workbench.proofs.AskLemmas.{believes_same}
use Rattle.prop_scheduler.proofs.Stirring.{stirs_from}
use Rattle.prop_workbench.proofs.WakingLemmas.{named_beliefs, stands_by, stated_one}
use Rattle.prop_workbench.proofs.session.Session.state_under_new.Goals as goal

-- ---- the name has room

pub intern-requires-clause-room : goal.intern-requires-clause-room
intern-requires-clause-room g c =
    room_for_name (state_of c.args.self.now) c.args.name.now c.requires.new c.requires.room

-- ---- there was no memory for the name

pub returns-in-Err-clause-keeps : goal.returns-in-Err-clause-keeps
returns-in-Err-clause-keeps g c = same_keeps g.R.Rule.value_of c.args.self.now c.intern.new.self c.requires.sound
    c.in-Err.ensures.err

-- ---- the statement is made

pub state-requires-clause-alive : goal.state-requires-clause-alive
state-requires-clause-alive g c =
    let s = c.args.self.now in
    let library = stored_of g.R.Rule.value_of s.live.network.library in
    let named = named_at_work library s.search c.intern.new.self c.args.name.now s.live.network.cells
    s.live.agenda c.requires.sound.at_work c.requires.new c.in-Ok.ensures.ok c.worldview.ensures.stand
    (c.intern.ensures.search (problem_of library s.live.network.cells)) in
    rw c.worldview.ensures.same (record { under_way = named.under_way; watched = named.watched })

pub returns-in-Ok-state-clause-keeps : goal.returns-in-Ok-state-clause-keeps
returns-in-Ok-state-clause-keeps g c =
    let s = c.args.self.now in
    let name = c.args.name.now in
    let new = c.intern.new.self in
    let library = stored_of g.R.Rule.value_of s.live.network.library in
    let sound = c.requires.sound in
    let made : new ≡ interned s.search name = c.in-Ok.ensures.ok in
    let named = named_at_work library s.search new name s.live.network.cells s.live.agenda sound.at_work
    c.requires.new made
    c.worldview.ensures.stand (c.intern.ensures.search (problem_of library s.live.network.cells)) in
    let statement : Statement = record { premise = Some c.in-Ok.premise; cell = c.args.cell; info = c.args.info } in
    let rest = c.in-Ok-state.ensures.ok.rest in
    let kinds : c.state.new.live.network.cells.kinds ≡ s.live.network.cells.kinds =
    stated_kinds s.live.network.cells c.state.new.live.network.cells statement rest in
    let instances : c.state.new.live.network.cells.instances ≡ s.live.network.cells.instances =
    stated_instances s.live.network.cells c.state.new.live.network.cells statement rest in
    let under_way = rw (c.worldview.ensures.same, c.state.ensures.same) at c.state.ensures.alive.under_way in
    record {
      library = c.state.ensures.same;
      sound = record {
        at_work = rw c.state.ensures.same (stated_at_work library new s.live.network.cells
            c.state.new.live.network.cells s.live.agenda
            c.state.new.live.agenda statement named rest
            (new_number s.search new name c.in-Ok.premise c.requires.new made c.in-Ok.ensures.number) under_way
            (rw c.worldview.ensures.same at c.state.ensures.alive.watched));
        sized = rw kinds sound.sized;
        locals = sound.locals;
        room = rw (kinds, instances) sound.room;
        named = rw kinds sound.named;
        defined = rw c.state.ensures.same sound.defined;
      };
      steps = refl;
      covers = named_covers s.search new name made c.requires.new;
    }

-- ---- the statement is refused

pub returns-in-Err-state-clause-keeps : goal.returns-in-Err-state-clause-keeps
returns-in-Err-state-clause-keeps g c =
    let s = c.args.self.now in
    back_keeps g.R.Rule.value_of s (record s { live = c.state.new.live })
    c.take_back.new.self c.requires.sound
    (c.take_back.ensures.undoes s.search c.args.name.now c.requires.sound.at_work.well_made c.requires.new
    c.in-Ok.ensures.ok) c.state.ensures.same c.in-Err-state.ensures.err_same c.in-Err-state.ensures.err_line

-- ---- what waits then

pub returns-in-Err-clause-told : goal.returns-in-Err-clause-told
returns-in-Err-clause-told g c = λ i. record (work_of c.args.self.now) { search = c.in-Err.ensures.err i }

pub returns-in-Ok-state-clause-told : goal.returns-in-Ok-state-clause-told
returns-in-Ok-state-clause-told g c =
    let s = c.args.self.now in
    let new = c.intern.new.self in
    let d = s.live.network.cells in
    let work = c.requires.sound.at_work in
    let made : new ≡ interned s.search c.args.name.now = c.in-Ok.ensures.ok in
    let same = named_beliefs (stored_of g.R.Rule.value_of s.live.network.library) s.search new c.args.name.now d
    work.under_way.kept work.known c.requires.new made in
    let after = c.state.new.live.network.cells in
    let line = stirs_from (readers_of after.instances) (set_of s.search.worldview) (set_of new.worldview)
    (set_of new.worldview) d after s.live.agenda.line (length after.kinds) c.state.new.live.agenda.line same
    (rw c.worldview.ensures.same at c.in-Ok-state.ensures.stirred) in
    record {
      search = stands_by s.search new (interned s.search c.args.name.now) made;
      order = refl;
      holds = stated_one d after
          (record { premise = Some c.in-Ok.premise; cell = c.args.cell; info = c.args.info })
          c.in-Ok-state.ensures.ok;
      line = rw (believes_same s.search work.well_made, believes_same new c.worldview.ensures.stand) at line;
    }

pub returns-in-Err-state-clause-told : goal.returns-in-Err-state-clause-told
returns-in-Err-state-clause-told g c =
    let s = c.args.self.now in
    let undone = c.take_back.ensures.undoes s.search c.args.name.now c.requires.sound.at_work.well_made c.requires.new
    c.in-Ok.ensures.ok in
    λ i. record (work_of s) {
      search = undone i;
      cells = c.in-Err-state.ensures.err_same i;
      line = (c.in-Err-state.ensures.err_line i).line;
    }
