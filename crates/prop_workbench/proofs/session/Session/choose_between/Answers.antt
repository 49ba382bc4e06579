use Rattle.std.proofs.Common.{◌≡◌, ◌∙◌, length, refl, sym, ap}
use Rattle.prop_procedures.specs.Kept.{stored_of}
use Rattle.prop_amb.specs.Moving.{declared}
use Rattle.prop_workbench.specs.Sessions.{state_of}
use Rattle.prop_workbench.proofs.ChosenLemmas.{room_for_sides, declared_under_way, declared_watched}
use Rattle.prop_workbench.proofs.ChosenLemmas.{chosen_at_work, chosen_covers}
use Rattle.prop_workbench.proofs.StandingLemmas.{back_keeps, same_keeps}
use Rattle.prop_numbers.specs.Sets.{set_of}
use Rattle.prop_workbench.specs.Sessions.{work_of}
use Rattle.prop_workbench.specs.Waking.{one_more}
use Rattle.prop_workbench.proofs.AskLemmas.{believes_same}
use Rattle.prop_cells.specs.Sides.{sides_at}
use Rattle.prop_scheduler.specs.Shifts.{touching}
use Rattle.prop_scheduler.proofs.Stirring.{stirs_from}
use Rattle.prop_workbench.proofs.WakingLemmas.{declared_beliefs, stands_by}
use Rattle.prop_workbench.proofs.session.Session.choose_between.Goals as goal

-- ---- the choice has room

pub declare-requires-clause-room : goal.declare-requires-clause-room
declare-requires-clause-room g c =
    room_for_sides (state_of c.args.self.now) (length c.args.infos.now) c.requires.fits

-- ---- there was no memory for the choice

pub returns-in-Err-clause-keeps : goal.returns-in-Err-clause-keeps
returns-in-Err-clause-keeps g c = same_keeps g.R.Rule.value_of c.args.self.now c.declare.new.self c.requires.sound
    c.in-Err.ensures.err

-- ---- the choice is made

pub state_sides-requires-clause-alive : goal.state_sides-requires-clause-alive
state_sides-requires-clause-alive g c =
    let s = c.args.self.now in
    let library = stored_of g.R.Rule.value_of s.live.network.library in
    rw c.worldview.ensures.same (record {
      under_way = declared_under_way library s.search c.declare.new.self c.args.choice.now (length c.args.infos.now)
          s.live.network.cells s.live.agenda c.requires.sound.at_work c.in-Ok.ensures.ok;
      watched = declared_watched library s.search c.declare.new.self c.args.choice.now (length c.args.infos.now)
          s.live.network.cells s.live.agenda c.requires.sound.at_work c.in-Ok.ensures.ok;
    })

pub returns-in-Ok-state_sides-clause-keeps : goal.returns-in-Ok-state_sides-clause-keeps
returns-in-Ok-state_sides-clause-keeps g c =
    let s = c.args.self.now in
    let library = stored_of g.R.Rule.value_of s.live.network.library in
    let sound = c.requires.sound in
    let rest = c.in-Ok-state_sides.ensures.rest in
    let kinds : c.state_sides.new.live.network.cells.kinds ≡ s.live.network.cells.kinds = ap (λ d. d.kinds) rest in
    let instances : c.state_sides.new.live.network.cells.instances ≡ s.live.network.cells.instances =
    ap (λ d. d.instances) rest in
    record {
      library = c.state_sides.ensures.same;
      sound = record {
        at_work = rw c.state_sides.ensures.same
            (chosen_at_work library s.search c.declare.new.self c.args.choice.now (length c.args.infos.now) c.args.cell
            c.in-Ok.choice c.args.infos.now s.live.network.cells c.state_sides.new.live.network.cells s.live.agenda
            c.state_sides.new.live.agenda sound.at_work
            c.in-Ok.ensures.ok c.in-Ok.ensures.choice.0 refl c.worldview.ensures.stand c.in-Ok.ensures.search rest
            (rw (c.state_sides.ensures.same, c.worldview.ensures.same) at c.state_sides.ensures.alive.under_way)
            (rw c.worldview.ensures.same at c.state_sides.ensures.alive.watched));
        sized = rw kinds sound.sized;
        locals = sound.locals;
        room = rw (kinds, instances) sound.room;
        named = rw kinds sound.named;
        defined = rw c.state_sides.ensures.same sound.defined;
      };
      steps = refl;
      covers = chosen_covers s.search c.declare.new.self c.in-Ok.choice c.in-Ok.ensures.choices
          (ap (λ t. t.listed) c.in-Ok.ensures.ok);
    }

-- ---- there was no memory for its statements

pub returns-in-Err-state_sides-clause-keeps : goal.returns-in-Err-state_sides-clause-keeps
returns-in-Err-state_sides-clause-keeps g c =
    let s = c.args.self.now in
    back_keeps g.R.Rule.value_of s (record s { live = c.state_sides.new.live })
    c.undeclare.new.self c.requires.sound
    (c.undeclare.ensures.undoes s.search c.args.choice.now c.requires.sound.at_work.well_made
    (c.in-Ok.ensures.ok ∙ (λ i. declared s.search c.args.choice.now (sym c.in-Ok.ensures.choice.1 i))))
    c.state_sides.ensures.same c.in-Err-state_sides.ensures.err_same c.in-Err-state_sides.ensures.err_line

-- ---- what waits then

pub returns-in-Err-clause-chosen : goal.returns-in-Err-clause-chosen
returns-in-Err-clause-chosen g c = λ i. record (work_of c.args.self.now) { search = c.in-Err.ensures.err i }

pub returns-in-Ok-state_sides-clause-chosen : goal.returns-in-Ok-state_sides-clause-chosen
returns-in-Ok-state_sides-clause-chosen g c =
    let s = c.args.self.now in
    let new = c.declare.new.self in
    let d = s.live.network.cells in
    let work = c.requires.sound.at_work in
    let made : new ≡ declared s.search c.args.choice.now (length c.args.infos.now) = c.in-Ok.ensures.ok in
    let same = declared_beliefs (stored_of g.R.Rule.value_of s.live.network.library) s.search new c.args.choice.now
    (length c.args.infos.now) d work.under_way.kept work.known made in
    let after = c.state_sides.new.live.network.cells in
    let line = stirs_from (touching after.instances) (set_of s.search.worldview) (set_of new.worldview)
    (set_of new.worldview) d after s.live.agenda.line (length after.kinds) c.state_sides.new.live.agenda.line same
    (rw c.worldview.ensures.same at c.in-Ok-state_sides.ensures.stirred) in
    record {
      search = stands_by (one_more s.search) new
          (declared s.search c.args.choice.now (length c.args.infos.now)) made;
      order = refl;
      holds = (
        sides_at c.in-Ok.choice.first c.args.cell c.args.infos.now,
        c.in-Ok-state_sides.ensures.ok,
      );
      line = rw (believes_same s.search work.well_made, believes_same new c.worldview.ensures.stand) at line;
    }

pub returns-in-Err-state_sides-clause-chosen : goal.returns-in-Err-state_sides-clause-chosen
returns-in-Err-state_sides-clause-chosen g c =
    let s = c.args.self.now in
    let undone = c.undeclare.ensures.undoes s.search c.args.choice.now c.requires.sound.at_work.well_made
    (c.in-Ok.ensures.ok ∙ (λ i. declared s.search c.args.choice.now (sym c.in-Ok.ensures.choice.1 i))) in
    λ i. record (work_of s) {
      search = undone i;
      cells = c.in-Err-state_sides.ensures.err_same i;
      line = (c.in-Err-state_sides.ensures.err_line i).line;
    }
