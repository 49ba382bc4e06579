use Rattle.std.proofs.Common.{◌≡◌, ◌∙◌, ◌<◌, All, length, refl, sym, ap}
use Rattle.std.proofs.lemmas.Result.{on_ok_weaker, on_err_weaker, IfErr-weaker}
use Rattle.prop_numbers.specs.Sets.{set_of}
use Rattle.prop_procedures.specs.Kept.{stored_of}
use Rattle.prop_contents.specs.Contents.{content_of}
use Rattle.prop_cells.specs.Data.{Data, problem_of}
use Rattle.prop_amb.specs.Search.{IsSearch}
use Rattle.prop_language.specs.Said.{by_of}
use Rattle.prop_scheduler.specs.Making.{with_flat}
use Rattle.prop_compound.specs.Compounds.{given_by}
use Rattle.prop_workbench.specs.Sessions.{state_from, AreKnown}
use Rattle.prop_compound.specs.Kinds.{IsSized}
use Rattle.prop_workbench.proofs.AttachLemmas.{may_make, sized_made, named_made, room_made, state_made}
use Rattle.prop_workbench.proofs.NamesLemmas.{used_is}
use Rattle.prop_workbench.proofs.AdditionLemmas.{search_added}
use Rattle.prop_workbench.proofs.SoundLemmas.{made_or_not, unchanged}
use Rattle.prop_workbench.proofs.RefusedLemmas.{unexpanded, no_room, with_room}
use Rattle.prop_scheduler.specs.Shifts.{AreMade}
use Rattle.prop_workbench.specs.Waking.{IsAdded}
use Rattle.prop_workbench.specs.Sessions.{work_of}
use Rattle.prop_workbench.proofs.WakingLemmas.{fresh_hold, done_or_not, on_ok_both, on_err_both}
use Rattle.prop_workbench.proofs.session.Session.use_on.Goals as goal

-- ---- where it is expanded

pub make-requires-clause-kept : goal.make-requires-clause-kept
make-requires-clause-kept g c = c.requires.sound.at_work.under_way.kept

pub make-requires-clause-may : goal.make-requires-clause-may
make-requires-clause-may g c =
    let s = c.args.self.now in
    may_make (stored_of g.R.Rule.value_of s.live.network.library) s.words s.definitions s.live.network.cells
    c.args.name.now
    c.args.cells.now (given_by s.words (by_of c.args.by)) c.in-Ok.flat c.requires.cells c.in-Ok.ensures.fits
    c.in-Ok.ensures.ok c.in-Ok.ensures.safe

pub returns-in-Ok-clause-keeps : goal.returns-in-Ok-clause-keeps
returns-in-Ok-clause-keeps g c = record {
  library = c.make.ensures.same;
  sound =
      let s = c.args.self.now in
      let d = s.live.network.cells in
      let new = c.make.new.live.network.cells in
      let cells = c.args.cells.now in
      let library = stored_of g.R.Rule.value_of s.live.network.library in
      let made = with_flat library d cells c.in-Ok.flat in
      let was = c.requires.sound in
      let alive = c.make.ensures.alive (set_of s.search.worldview)
      (record { under_way = was.at_work.under_way; watched = was.at_work.watched }) in
      record {
        at_work = record {
          under_way = alive.under_way;
          well_made = was.at_work.well_made;
          search = rw c.make.ensures.same (made_or_not (λ (x : Data). IsSearch (problem_of library x) s.search) d new
              made c.make.result c.make.ensures.ok c.make.ensures.err_same was.at_work.search
              (search_added library d made s.search
              (record {
                fresh = c.in-Ok.flat.fresh.items;
                made = _;
                kinds = refl;
                statements = refl;
                instances = refl;
              }) was.at_work.search));
          known = made_or_not (λ (x : Data). AreKnown (length s.search.premises) x.statements) d new made c.make.result
              c.make.ensures.ok c.make.ensures.err_same was.at_work.known was.at_work.known;
          watched = alive.watched;
        };
        sized = made_or_not (λ (x : Data). All (IsSized s.words) x.kinds) d new made c.make.result c.make.ensures.ok
            c.make.ensures.err_same was.sized
            (sized_made library s.words s.definitions d c.args.name.now cells (given_by s.words (by_of c.args.by))
            c.in-Ok.flat c.in-Ok.ensures.ok was.sized was.locals.locals);
        locals = was.locals;
        room = room_made library d new cells c.in-Ok.flat c.make.result c.make.ensures.fits c.make.ensures.ok
            c.make.ensures.err_same was.room;
        named = made_or_not (λ (x : Data). All (λ cell. cell < length x.kinds) s.names.cells) d new made c.make.result
            c.make.ensures.ok c.make.ensures.err_same was.named
            (named_made s.names.cells d.kinds c.in-Ok.flat.fresh.items was.named);
        defined = rw c.make.ensures.same was.defined;
      };
  steps = refl;
  covers = λ m covered. covered;
}

pub returns-in-Ok-clause-fits : goal.returns-in-Ok-clause-fits
returns-in-Ok-clause-fits g c =
    let s = c.args.self.now in
    on_ok_weaker c.make.result (with_room (stored_of g.R.Rule.value_of s.live.network.library) s.names s.words
    s.definitions
    s.search.premises s.live.network.cells s.limit c.args.name.now c.args.cells.now (by_of c.args.by) c.in-Ok.flat
    (c.in-Ok.ensures.ok ∙ sym (used_is (stored_of g.R.Rule.value_of s.live.network.library) s.names s.words
    s.definitions s.search.premises s.live.network.cells s.limit c.args.name.now c.args.cells.now (by_of c.args.by)
    c.requires.sound.locals)) c.in-Ok.ensures.fits c.requires.sound.locals)
    c.make.ensures.fits

pub returns-in-Ok-clause-ok : goal.returns-in-Ok-clause-ok
returns-in-Ok-clause-ok g c =
    let s = c.args.self.now in
    on_ok_weaker c.make.result (state_made (stored_of g.R.Rule.value_of s.live.network.library) s.names s.words
    s.definitions
    s.search.premises s.live.network.cells s.limit c.args.name.now c.args.cells.now (by_of c.args.by) c.in-Ok.flat
    (c.in-Ok.ensures.ok ∙ sym (used_is (stored_of g.R.Rule.value_of s.live.network.library) s.names s.words
    s.definitions s.search.premises s.live.network.cells s.limit c.args.name.now c.args.cells.now (by_of c.args.by)
    c.requires.sound.locals)) c.make.new.live.network.cells)
    c.make.ensures.ok

pub returns-in-Ok-clause-err : goal.returns-in-Ok-clause-err
returns-in-Ok-clause-err g c =
    let s = c.args.self.now in
    IfErr-weaker c.make.result _ _ (no_room (stored_of g.R.Rule.value_of s.live.network.library) s.names s.words
    s.definitions s.search.premises s.live.network.cells s.limit c.args.name.now c.args.cells.now (by_of c.args.by)
    c.in-Ok.flat (c.in-Ok.ensures.ok ∙ sym (used_is (stored_of g.R.Rule.value_of s.live.network.library) s.names s.words
    s.definitions s.search.premises s.live.network.cells s.limit c.args.name.now c.args.cells.now (by_of c.args.by)
    c.requires.sound.locals)) c.in-Ok.ensures.fits c.requires.sound.locals)
    c.make.ensures.err

pub returns-in-Ok-clause-err_same : goal.returns-in-Ok-clause-err_same
returns-in-Ok-clause-err_same g c =
    let s = c.args.self.now in
    on_err_weaker c.make.result (λ e i. state_from s.names s.words s.definitions s.search.premises (e i) s.limit)
    c.make.ensures.err_same

-- ---- where it is not expanded

pub expanded-requires-clause-sound : goal.expanded-requires-clause-sound
expanded-requires-clause-sound g c = c.requires.sound

pub expanded-requires-clause-cells : goal.expanded-requires-clause-cells
expanded-requires-clause-cells g c = c.requires.cells

pub returns-in-Err-clause-keeps : goal.returns-in-Err-clause-keeps
returns-in-Err-clause-keeps g c = unchanged c.requires.sound

pub returns-in-Err-clause-err : goal.returns-in-Err-clause-err
returns-in-Err-clause-err g c =
    let s = c.args.self.now in
    unexpanded (stored_of g.R.Rule.value_of s.live.network.library) s.names s.words s.definitions s.search.premises
    s.live.network.cells s.limit c.args.name.now c.args.cells.now (by_of c.args.by) c.in-Err.refusal
    c.requires.sound.locals c.in-Err.ensures.err

-- ---- what waits then

pub returns-in-Ok-clause-added : goal.returns-in-Ok-clause-added
returns-in-Ok-clause-added g c =
    let s = c.args.self.now in
    let new = record s { live = c.make.new.live } in
    let d = s.live.network.cells in
    let library = stored_of g.R.Rule.value_of s.live.network.library in
    let flat = c.in-Ok.flat in
    let adds : new.live.network.cells ≡ with_flat library d c.args.cells.now flat
    → AreMade d new.live.network.cells s.live.agenda.line new.live.agenda.line
    → IsAdded (work_of s) (work_of new) =
    λ cells line. record {
      search = refl;
      order = refl;
      holds = λ cell. ap (λ x. content_of x.contents cell) cells ∙ fresh_hold d.contents flat.fresh.items cell;
      line = line;
    } in
    let same : new.live.network.cells ≡ d → new.live.agenda.line ≡ s.live.agenda.line → work_of new ≡ work_of s =
    λ cells line i. record (work_of s) { cells = cells i; line = line i } in
    done_or_not c.make.result _ _ (on_ok_both c.make.result adds c.make.ensures.ok c.make.ensures.made)
    (on_err_both c.make.result same c.make.ensures.err_same c.make.ensures.err_line)
