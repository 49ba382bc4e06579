use Rattle.std.proofs.Common.{◌≡◌, take}
use Rattle.prop_language.specs.Said.{words}
use Rattle.prop_workbench.specs.Loading.{Loads}
use Rattle.prop_workbench.specs.Sessions.{library_of}
use Rattle.prop_blaming.specs.Blaming.{blaming}
use Rattle.prop_seeking.specs.inner.Seekers.{sought_of}
use Rattle.prop_blaming.specs.inner.Blamers.{IsReady}
use Rattle.prop_blaming.proofs.blamer.Blamer.load_prelude.Given as goal

abbrev pub invariant-loop-line : goal.invariant-loop-line
invariant-loop-line g l = record {
  same : l.self.seeker.teller.session.live.network.library ≡ l.initial.self.seeker.teller.session.live.network.library;
  ready : IsReady g.R.Rule.value_of l.self;
  loaded : Loads (blaming g.O.Order.picks (library_of g.R.Rule.value_of l.initial.self.seeker.teller.session))
      (sought_of l.initial.self.seeker) (take l.line-index (words l.lines)) (sought_of l.self.seeker);
}
