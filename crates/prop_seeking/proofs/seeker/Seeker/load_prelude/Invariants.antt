use Rattle.std.proofs.Common.{◌≡◌, take}
use Rattle.prop_language.specs.Said.{words}
use Rattle.prop_workbench.specs.Loading.{Loads}
use Rattle.prop_workbench.specs.Sessions.{library_of}
use Rattle.prop_seeking.specs.Seeking.{seeking}
use Rattle.prop_seeking.specs.inner.Seekers.{sought_of, IsReady}
use Rattle.prop_seeking.proofs.seeker.Seeker.load_prelude.Given as goal

abbrev pub invariant-loop-line : goal.invariant-loop-line
invariant-loop-line g l = record {
  same : l.self.teller.session.live.network.library ≡ l.initial.self.teller.session.live.network.library;
  ready : IsReady g.R.Rule.value_of l.self;
  loaded : Loads (seeking g.O.Order.picks (library_of g.R.Rule.value_of l.initial.self.teller.session))
      (sought_of l.initial.self) (take l.line-index (words l.lines)) (sought_of l.self);
}
