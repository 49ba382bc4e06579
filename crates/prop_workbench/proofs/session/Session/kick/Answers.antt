use Rattle.std.proofs.Common.{◌≡◌, ◌∙◌, Some, Ok, Err, true, false, refl, sym, ap}
use Rattle.std.specs.Prelude.{is_some}
use Rattle.prop_procedures.specs.Kept.{stored_of}
use Rattle.prop_premises.specs.Origins.{premise_number, is_choice, with_belief_at}
use Rattle.prop_amb.specs.Search.{Stand, users_of}
use Rattle.prop_amb.specs.Moving.{restarted}
use Rattle.prop_cells.specs.Data.{problem_of}
use Rattle.prop_workbench.proofs.BeliefLemmas.{found_free, believed_or_not, belief_refused}
use Rattle.prop_workbench.proofs.ForgettingLemmas.{missing_from}
use Rattle.prop_workbench.proofs.StandingLemmas.{believing_keeps, same_keeps, same_done}
use Rattle.std.proofs.lemmas.Result.{err_from_is_err_and}
use Rattle.prop_workbench.specs.Sessions.{state_of, state_from, work_of}
use Rattle.prop_workbench.proofs.AskLemmas.{believes_same}
use Rattle.prop_workbench.proofs.WakingLemmas.{stands_by, still_shifted}
use Rattle.prop_workbench.proofs.session.Session.kick.Goals as goal

-- ---- the premise was believed

pub returns-clause-keeps : goal.returns-clause-keeps
returns-clause-keeps g c =
    let s = c.args.self.now in
    let p = c.in_ok-premise.premise in
    let new = c.kick.new.self in
    let was : users_of s.search p ≡ true = sym c.in_ok-before.ensures.was ∙ ap is_some c.in-Some.is in
    let made : new ≡ record (restarted s.search) {
      premises = with_belief_at s.search.premises p false;
      worldview = new.worldview;
    } = c.in_ok-before.ensures.kicked was in
    believing_keeps g.R.Rule.value_of s new c.alert_shifted.new.live p false c.requires.sound
    (ap (λ (t : Stand). t.premises) made) (ap (λ (t : Stand). t.listed) made) c.worldview.ensures.stand
    (c.kick.ensures.search (problem_of (stored_of g.R.Rule.value_of s.live.network.library) s.live.network.cells))
    c.alert_shifted.ensures.network (rw c.worldview.ensures.same at c.alert_shifted.ensures.alive)

-- ---- it was not

pub returns-in_default-clause-keeps : goal.returns-in_default-clause-keeps
returns-in_default-clause-keeps g c =
    let s = c.args.self.now in
    let p = c.in_ok-premise.premise in
    let was : users_of s.search p ≡ false = sym c.in_ok-before.ensures.was ∙ ap is_some c.in_default.is in
    same_keeps g.R.Rule.value_of s c.kick.new.self c.requires.sound (c.kick.ensures.out was).1

pub returns-in_default-clause-step : goal.returns-in_default-clause-step
returns-in_default-clause-step g c =
    let s = c.args.self.now in
    let p = c.in_ok-premise.premise in
    let name = c.args.name.now in
    let was : users_of s.search p ≡ false = sym c.in_ok-before.ensures.was ∙ ap is_some c.in_default.is in
    let free = found_free (is_choice s.search.premises name) _ p refl
    (rw c.premises.ensures at c.in_ok-premise.ensures.choice) in
    same_done g.R.Rule.value_of s c.kick.new.self false name p (c.kick.ensures.out was).1
    (rw c.premises.ensures at c.in_ok-premise.ensures.found) free
    (rw c.premises.ensures at c.in_ok-premise.ensures.user) was

-- ---- memory was refused

pub returns-in_err-before-clause-keeps : goal.returns-in_err-before-clause-keeps
returns-in_err-before-clause-keeps g c =
    same_keeps g.R.Rule.value_of c.args.self.now c.kick.new.self c.requires.sound c.in_err-before.ensures.err

-- ---- what waits then

pub returns-clause-wakes : goal.returns-clause-wakes
returns-clause-wakes g c =
    let s = c.args.self.now in
    let p = c.in_ok-premise.premise in
    let d = s.live.network.cells in
    let new = c.kick.new.self in
    let was : users_of s.search p ≡ true = sym c.in_ok-before.ensures.was ∙ ap is_some c.in-Some.is in
    let made : new ≡ record (restarted s.search) {
      premises = with_belief_at s.search.premises p false;
      worldview = new.worldview;
    } = c.in_ok-before.ensures.kicked was in
    let found : premise_number s.search.premises c.args.name.now ≡ Some p =
    rw c.premises.ensures at c.in_ok-premise.ensures.found in
    let before : c.in-Some.before ≡ s.search.worldview = rw c.in-Some.is at c.in_ok-before.ensures.before in
    let line = rw (
      before,
      c.worldview.ensures.same,
      believes_same s.search c.requires.sound.at_work.well_made,
      believes_same new c.worldview.ensures.stand,
    ) at c.alert_shifted.ensures.shifted in
    let like : Stand = record new { premises = with_belief_at s.search.premises p false } in
    rw (c.alert_shifted.ensures.network, found, was) record {
      search = stands_by (restarted s.search) new like made;
      order = refl;
      holds = λ cell. refl;
      line = line;
    }

pub returns-in_default-clause-wakes : goal.returns-in_default-clause-wakes
returns-in_default-clause-wakes g c =
    let s = c.args.self.now in
    let p = c.in_ok-premise.premise in
    let was : users_of s.search p ≡ false = sym c.in_ok-before.ensures.was ∙ ap is_some c.in_default.is in
    let found : premise_number s.search.premises c.args.name.now ≡ Some p =
    rw c.premises.ensures at c.in_ok-premise.ensures.found in
    rw (found, was, (c.kick.ensures.out was).1) (still_shifted (state_of s) (work_of s))

pub returns-in_err-before-clause-wakes : goal.returns-in_err-before-clause-wakes
returns-in_err-before-clause-wakes g c =
    let told = err_from_is_err_and c.from_residual-in_err-before.result c.from_residual-in_err-before.ensures.1 in
    rw (told.1 ∙ ap Err told.2) (λ i. record (work_of c.args.self.now) { search = c.in_err-before.ensures.err i })

pub returns-in_err-premise-clause-wakes : goal.returns-in_err-premise-clause-wakes
returns-in_err-premise-clause-wakes g c =
    let told = err_from_is_err_and c.from_residual.result c.from_residual.ensures.1 in
    rw (told.1 ∙ ap Err told.2) refl

-- ---- what the machine says

pub returns-clause-step : goal.returns-clause-step
returns-clause-step g c =
    let s = c.args.self.now in
    let p = c.in_ok-premise.premise in
    let name = c.args.name.now in
    let new = c.kick.new.self in
    let was : users_of s.search p ≡ true = sym c.in_ok-before.ensures.was ∙ ap is_some c.in-Some.is in
    let made : new ≡ record (restarted s.search) {
      premises = with_belief_at s.search.premises p false;
      worldview = new.worldview;
    } = c.in_ok-before.ensures.kicked was in
    let free = found_free (is_choice s.search.premises name) _ p refl
    (rw c.premises.ensures at c.in_ok-premise.ensures.choice) in
    believed_or_not (stored_of g.R.Rule.value_of s.live.network.library) (state_of s) _ false name (Ok tt) (
      p,
      rw c.premises.ensures at c.in_ok-premise.ensures.found,
      free,
      λ i. state_from s.names s.words s.definitions (ap (λ (t : Stand). t.premises) made i)
          (ap (λ n. n.cells) c.alert_shifted.ensures.network i) s.limit,
    ) tt tt

pub returns-in_err-premise-clause-step : goal.returns-in_err-premise-clause-step
returns-in_err-premise-clause-step g c =
    let s = c.args.self.now in
    let told = err_from_is_err_and c.from_residual.result c.from_residual.ensures.1 in
    belief_refused (stored_of g.R.Rule.value_of s.live.network.library) (state_of s) false c.args.name.now
    c.from_residual.result
    c.in_err-premise.field-0.0 (told.1 ∙ ap Err told.2)
    (missing_from (state_of s) c.args.name.now c.find.result c.in_err-premise.field-0.0 c.in_err-premise.was
    c.find.ensures.why (rw c.premises.ensures at c.in_err-premise.ensures.found)
    (rw c.premises.ensures at c.find.ensures.choice) (rw c.premises.ensures at c.find.ensures.none))
