use Rattle.std.proofs.Common.{◌≡◌, ◌∙◌, false, Some, Ok, Err, refl, ap, inl}
use Rattle.std.proofs.lemmas.Result.{err_from_is_err_and}
use Rattle.prop_procedures.specs.Kept.{stored_of}
use Rattle.prop_numbers.specs.Sets.{set_of}
use Rattle.prop_premises.specs.Origins.{premise_number, is_choice}
use Rattle.prop_nogoods.specs.Stores.{lacking}
use Rattle.prop_cells.specs.Data.{problem_of}
use Rattle.prop_cells.specs.Forgetting.{forgotten}
use Rattle.prop_cells.proofs.ForgettingLaws.{forgets_data}
use Rattle.prop_amb.specs.Search.{Stand}
use Rattle.prop_amb.specs.Moving.{restarted}
use Rattle.prop_workbench.specs.Sessions.{state_of, state_from, shown_of}
use Rattle.prop_workbench.proofs.BeliefLemmas.{found_free}
use Rattle.prop_workbench.proofs.StandingLemmas.{forgotten_at_work}
use Rattle.prop_workbench.proofs.ForgettingLemmas.{forget_obeyed, forget_refused, missing_from}
use Rattle.prop_workbench.proofs.WakingLemmas.{stands_by}
use Rattle.prop_workbench.proofs.session.Session.forget.Goals as goal

-- ---- it is forgotten

pub purge-requires : goal.purge-requires
purge-requires g c = record {
  ready = record {
    kept = c.requires.sound.at_work.under_way.kept;
    line = c.requires.sound.at_work.under_way.line_below;
    watched = c.requires.sound.at_work.watched.below;
  };
}

pub returns-clause-stays : goal.returns-clause-stays
returns-clause-stays g c =
    let s = c.args.self.now in
    let p = c.in_ok-premise.premise in
    let library = stored_of g.R.Rule.value_of s.live.network.library in
    let d = s.live.network.cells in
    let new = c.forget.new.self in
    let made : new ≡ record (restarted s.search) { listed = lacking s.search.listed p; worldview = new.worldview } =
    c.forget.ensures.only in
    let sound = c.requires.sound in
    record {
      library = c.purge.ensures.same;
      sound = record {
        at_work = rw (c.purge.ensures.same, c.purge.ensures.forgotten)
            (forgotten_at_work library s.search new p d s.live.agenda c.purge.new.live.agenda sound.at_work
            (ap (λ (t : Stand). t.premises) made) c.forget.ensures.stand
            (c.forget.ensures.search (problem_of library d) (problem_of library (forgotten p d))
            (forgets_data library p d))
            (rw (c.purge.ensures.same, c.purge.ensures.forgotten) at (c.purge.ensures.alive (set_of
            new.worldview)).under_way)
            (rw c.purge.ensures.forgotten at (c.purge.ensures.alive (set_of new.worldview)).watched));
        sized = rw c.purge.ensures.forgotten sound.sized;
        locals = sound.locals;
        room = rw c.purge.ensures.forgotten sound.room;
        named = rw c.purge.ensures.forgotten sound.named;
        defined = rw c.purge.ensures.same sound.defined;
      };
      steps = refl;
    }

pub returns-clause-step : goal.returns-clause-step
returns-clause-step g c =
    let s = c.args.self.now in
    let p = c.in_ok-premise.premise in
    let premises = s.search.premises in
    let new = c.forget.new.self in
    let made : new ≡ record (restarted s.search) { listed = lacking s.search.listed p; worldview = new.worldview } =
    c.forget.ensures.only in
    let found : premise_number premises c.args.name.now ≡ Some p =
    rw c.premises.ensures at c.in_ok-premise.ensures.found in
    let free : is_choice premises c.args.name.now ≡ false =
    found_free (is_choice premises c.args.name.now) _ p refl
    (rw c.premises.ensures at c.in_ok-premise.ensures.choice) in
    let same : new.premises ≡ premises = ap (λ (t : Stand). t.premises) made in
    let cells : c.purge.new.live.network.cells ≡ forgotten p s.live.network.cells = c.purge.ensures.forgotten in
    forget_obeyed (stored_of g.R.Rule.value_of s.live.network.library) (shown_of s) _ c.args.name.now (Ok tt) (
      p,
      found,
      free,
      c.requires.sound.at_work.well_made.numbered.users p
          (rw c.premises.ensures at c.in_ok-premise.ensures.user),
      λ i. state_from s.names s.words s.definitions (same i) (cells i) s.limit,
      ap (λ (t : Stand). t.listed) made,
    )
    tt tt

-- ---- it is not

pub returns-in_err-premise-clause-step : goal.returns-in_err-premise-clause-step
returns-in_err-premise-clause-step g c =
    let s = c.args.self.now in
    let told = err_from_is_err_and c.from_residual.result c.from_residual.ensures.1 in
    forget_refused (stored_of g.R.Rule.value_of s.live.network.library) (shown_of s) c.args.name.now
    c.from_residual.result
    c.in_err-premise.field-0.0 (told.1 ∙ ap Err told.2)
    (inl (missing_from (state_of s) c.args.name.now c.find.result c.in_err-premise.field-0.0 c.in_err-premise.was
    c.find.ensures.why (rw c.premises.ensures at c.in_err-premise.ensures.found)
    (rw c.premises.ensures at c.find.ensures.choice) (rw c.premises.ensures at c.find.ensures.none)))

-- ---- what waits then

pub returns-clause-wakes : goal.returns-clause-wakes
returns-clause-wakes g c =
    let s = c.args.self.now in
    let new = c.forget.new.self in
    let p = c.in_ok-premise.premise in
    let made : new ≡ record (restarted s.search) { listed = lacking s.search.listed p; worldview = new.worldview } =
    c.forget.ensures.only in
    let found : premise_number s.search.premises c.args.name.now ≡ Some p =
    rw c.premises.ensures at c.in_ok-premise.ensures.found in
    rw found record {
      search = stands_by (record (restarted s.search) { listed = lacking s.search.listed p }) new
          (record new { premises = s.search.premises }) made;
      order = refl;
      holds = c.purge.ensures.forgotten;
      line = c.purge.ensures.line;
    }

pub returns-in_err-premise-clause-wakes : goal.returns-in_err-premise-clause-wakes
returns-in_err-premise-clause-wakes g c =
    let told = err_from_is_err_and c.from_residual.result c.from_residual.ensures.1 in
    rw (told.1 ∙ ap Err told.2) refl
