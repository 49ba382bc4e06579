use Rattle.std.proofs.Common.{◌≡◌, take}
use Rattle.prop_language.specs.Said.{words}
use Rattle.prop_workbench.specs.Loading.{Loads}
use Rattle.prop_workbench.specs.Sessions.{library_of}
use Rattle.prop_requiring.specs.Requiring.{requiring}
use Rattle.prop_seeking.specs.inner.Seekers.{sought_of}
use Rattle.prop_requiring.specs.inner.Requirers.{IsReady}
use Rattle.prop_requiring.proofs.requirer.Requirer.load_prelude.Given as goal

abbrev pub invariant-loop-line : goal.invariant-loop-line
invariant-loop-line g l = record {
  same : l.self.blamer.seeker.teller.session.live.network.library
      ≡ l.initial.self.blamer.seeker.teller.session.live.network.library;
  ready : IsReady g.R.Rule.value_of l.self;
  loaded : Loads (requiring g.O.Order.picks (library_of g.R.Rule.value_of l.initial.self.blamer.seeker.teller.session))
      (sought_of l.initial.self.blamer.seeker) (take l.line-index (words l.lines)) (sought_of l.self.blamer.seeker);
}
