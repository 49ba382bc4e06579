use Rattle.std.proofs.Common.{◌≡◌}
use Rattle.std.specs.Prelude.{Ok, Err}
use Rattle.prop_procedures.specs.Kept.{stored_of}
use Rattle.prop_program.proofs.Starts.{spoken_after}
use Rattle.prop_requiring.specs.Requiring.{requiring}
use Rattle.prop_seeking.specs.inner.Seekers.{sought_of}
use Rattle.prop_requiring.proofs.running.answer.Goals as goal

pub run_session-requires : goal.run_session-requires
run_session-requires g c = record {
  ready = c.load_prelude.ensures.ready;
}

pub returns-in-Ok-run_session : goal.returns-in-Ok-run_session
returns-in-Ok-run_session g c =
    let same = c.load_prelude.ensures.same in
    let machine : requiring g.O.Order.picks (stored_of g.R.Rule.value_of
    c.load_prelude.new.self.blamer.seeker.teller.session.live.network.library)
    ≡ requiring g.O.Order.picks (stored_of g.R.Rule.value_of
    c.args.requirer.now.blamer.seeker.teller.session.live.network.library) =
    λ i. requiring g.O.Order.picks (stored_of g.R.Rule.value_of (same i)) in
    spoken_after g.D.Devices.calls _ _ _ (sought_of c.args.requirer.now.blamer.seeker)
    (sought_of c.load_prelude.new.self.blamer.seeker)
    (sought_of c.run_session.new.interpreter.blamer.seeker) _ (Ok _) c.in-Ok.ensures.ok
    (rw machine at c.in-Ok-run_session.ensures.speaks)

pub returns-in-Err-run_session : goal.returns-in-Err-run_session
returns-in-Err-run_session g c =
    let same = c.load_prelude.ensures.same in
    let machine : requiring g.O.Order.picks (stored_of g.R.Rule.value_of
    c.load_prelude.new.self.blamer.seeker.teller.session.live.network.library)
    ≡ requiring g.O.Order.picks (stored_of g.R.Rule.value_of
    c.args.requirer.now.blamer.seeker.teller.session.live.network.library) =
    λ i. requiring g.O.Order.picks (stored_of g.R.Rule.value_of (same i)) in
    spoken_after g.D.Devices.calls _ _ _ (sought_of c.args.requirer.now.blamer.seeker)
    (sought_of c.load_prelude.new.self.blamer.seeker)
    (sought_of c.run_session.new.interpreter.blamer.seeker) _ (Err _) c.in-Ok.ensures.ok
    (rw machine at c.in-Err-run_session.ensures.speaks)
