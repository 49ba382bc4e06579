use Rattle.std.proofs.Common.{◌≡◌}
use Rattle.std.specs.Prelude.{Ok, Err}
use Rattle.prop_procedures.specs.Kept.{stored_of}
use Rattle.prop_program.proofs.Starts.{spoken_after}
use Rattle.prop_blaming.specs.Blaming.{blaming}
use Rattle.prop_seeking.specs.inner.Seekers.{sought_of}
use Rattle.prop_blaming.proofs.running.answer.Goals as goal

pub run_session-requires : goal.run_session-requires
run_session-requires g c = record {
  ready = c.load_prelude.ensures.ready;
}

pub returns-in-Ok-run_session : goal.returns-in-Ok-run_session
returns-in-Ok-run_session g c =
    let same = c.load_prelude.ensures.same in
    let machine : blaming g.O.Order.picks (stored_of g.R.Rule.value_of
    c.load_prelude.new.self.seeker.teller.session.live.network.library)
    ≡ blaming g.O.Order.picks (stored_of g.R.Rule.value_of
    c.args.blamer.now.seeker.teller.session.live.network.library) =
    λ i. blaming g.O.Order.picks (stored_of g.R.Rule.value_of (same i)) in
    spoken_after g.D.Devices.calls _ _ _ (sought_of c.args.blamer.now.seeker) (sought_of c.load_prelude.new.self.seeker)
    (sought_of c.run_session.new.interpreter.seeker) _ (Ok _) c.in-Ok.ensures.ok
    (rw machine at c.in-Ok-run_session.ensures.speaks)

pub returns-in-Err-run_session : goal.returns-in-Err-run_session
returns-in-Err-run_session g c =
    let same = c.load_prelude.ensures.same in
    let machine : blaming g.O.Order.picks (stored_of g.R.Rule.value_of
    c.load_prelude.new.self.seeker.teller.session.live.network.library)
    ≡ blaming g.O.Order.picks (stored_of g.R.Rule.value_of
    c.args.blamer.now.seeker.teller.session.live.network.library) =
    λ i. blaming g.O.Order.picks (stored_of g.R.Rule.value_of (same i)) in
    spoken_after g.D.Devices.calls _ _ _ (sought_of c.args.blamer.now.seeker) (sought_of c.load_prelude.new.self.seeker)
    (sought_of c.run_session.new.interpreter.seeker) _ (Err _) c.in-Ok.ensures.ok
    (rw machine at c.in-Err-run_session.ensures.speaks)
