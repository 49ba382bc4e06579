use Rattle.std.proofs.Common.{◌<◌, All, length, refl}
use Rattle.std.proofs.lemmas.List.Elements.{All-append}
use Rattle.std.proofs.lemmas.Result.{on_ok_weaker, on_err_weaker}
use Rattle.prop_numbers.specs.Sets.{set_of}
use Rattle.prop_procedures.specs.Kept.{stored_of}
use Rattle.prop_cells.specs.Data.{Data, problem_of}
use Rattle.prop_amb.specs.Search.{IsSearch}
use Rattle.prop_scheduler.specs.Making.{with_flat}
use Rattle.prop_compound.specs.Kinds.{IsSized}
use Rattle.prop_workbench.specs.Sessions.{state_from, AreKnown}
use Rattle.prop_workbench.proofs.AttachLemmas.{named_made, room_made}
use Rattle.prop_workbench.proofs.AdditionLemmas.{search_added}
use Rattle.prop_workbench.proofs.SoundLemmas.{made_or_not}
use Rattle.prop_workbench.proofs.session.Session.place.Goals as goal

pub make-requires-clause-kept : goal.make-requires-clause-kept
make-requires-clause-kept g c = c.requires.sound.at_work.under_way.kept

pub returns-clause-keeps : goal.returns-clause-keeps
returns-clause-keeps g c = record {
  library = c.make.ensures.same;
  sound =
      let s = c.args.self.now in
      let d = s.live.network.cells in
      let new = c.make.new.live.network.cells in
      let cells = c.args.cells.now in
      let flat = c.args.flat in
      let library = stored_of g.R.Rule.value_of s.live.network.library in
      let made = with_flat library d cells flat in
      let was = c.requires.sound in
      let alive = c.make.ensures.alive (set_of s.search.worldview)
      (record { under_way = was.at_work.under_way; watched = was.at_work.watched }) in
      record {
        at_work = record {
          under_way = alive.under_way;
          well_made = was.at_work.well_made;
          search = rw c.make.ensures.same (made_or_not (λ (x : Data). IsSearch (problem_of library x) s.search) d new
              made c.make.result c.make.ensures.ok c.make.ensures.err_same was.at_work.search
              (search_added library d made s.search
              (record {
                fresh = flat.fresh.items;
                made = _;
                kinds = refl;
                statements = refl;
                instances = refl;
              }) was.at_work.search));
          known = made_or_not (λ (x : Data). AreKnown (length s.search.premises) x.statements) d new made c.make.result
              c.make.ensures.ok c.make.ensures.err_same was.at_work.known was.at_work.known;
          watched = alive.watched;
        };
        sized = made_or_not (λ (x : Data). All (IsSized s.words) x.kinds) d new made c.make.result c.make.ensures.ok
            c.make.ensures.err_same was.sized
            (All-append (IsSized s.words) d.kinds flat.fresh.items was.sized c.requires.sized);
        locals = was.locals;
        room = room_made library d new cells flat c.make.result c.make.ensures.fits c.make.ensures.ok
            c.make.ensures.err_same was.room;
        named = made_or_not (λ (x : Data). All (λ cell. cell < length x.kinds) s.names.cells) d new made c.make.result
            c.make.ensures.ok c.make.ensures.err_same was.named
            (named_made s.names.cells d.kinds flat.fresh.items was.named);
        defined = rw c.make.ensures.same was.defined;
      };
  steps = refl;
  covers = λ m covered. covered;
}

pub returns-clause-ok : goal.returns-clause-ok
returns-clause-ok g c =
    let s = c.args.self.now in
    on_ok_weaker c.make.result (λ e i. state_from s.names s.words s.definitions s.search.premises (e i) s.limit)
    c.make.ensures.ok

pub returns-clause-err_same : goal.returns-clause-err_same
returns-clause-err_same g c =
    let s = c.args.self.now in
    on_err_weaker c.make.result (λ e i. state_from s.names s.words s.definitions s.search.premises (e i) s.limit)
    c.make.ensures.err_same
