use Rattle.std.proofs.Common.{◌≡◌}
use Rattle.std.specs.Prelude.{Ok, Err}
use Rattle.prop_procedures.specs.Kept.{stored_of}
use Rattle.prop_workbench.specs.Engine.{standing_of, working, working_of}
use Rattle.prop_program.proofs.Starts.{spoken_after}
use Rattle.prop_program.proofs.running.answer.Goals as goal

pub run_session-requires-clause-means : goal.run_session-requires-clause-means
run_session-requires-clause-means g c = rw c.load_prelude.ensures.same c.requires.means

pub returns-in-Ok-run_session : goal.returns-in-Ok-run_session
returns-in-Ok-run_session g c =
    let same = c.load_prelude.ensures.same in
    let machine : working_of g.O.Order.picks g.R.Rule.value_of c.load_prelude.new.self ≡ working_of g.O.Order.picks
    g.R.Rule.value_of c.args.session.now = λ i. working g.O.Order.picks (stored_of g.R.Rule.value_of (same i)) in
    spoken_after g.D.Devices.calls _ _ _ (standing_of c.args.session.now) (standing_of c.load_prelude.new.self)
    (standing_of c.run_session.new.self) _ (Ok _) c.in-Ok.ensures.ok
    (rw machine at c.in-Ok-run_session.ensures.speaks)

pub returns-in-Err-run_session : goal.returns-in-Err-run_session
returns-in-Err-run_session g c =
    let same = c.load_prelude.ensures.same in
    let machine : working_of g.O.Order.picks g.R.Rule.value_of c.load_prelude.new.self ≡ working_of g.O.Order.picks
    g.R.Rule.value_of c.args.session.now = λ i. working g.O.Order.picks (stored_of g.R.Rule.value_of (same i)) in
    spoken_after g.D.Devices.calls _ _ _ (standing_of c.args.session.now) (standing_of c.load_prelude.new.self)
    (standing_of c.run_session.new.self) _ (Err _) c.in-Ok.ensures.ok
    (rw machine at c.in-Err-run_session.ensures.speaks)
