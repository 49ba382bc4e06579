use Rattle.std.proofs.Common.{◌≡◌, take}
use Rattle.prop_language.specs.Said.{words}
use Rattle.prop_workbench.specs.Loading.{Loads}
use Rattle.prop_workbench.specs.Sessions.{IsSound}
use Rattle.prop_workbench.specs.Engine.{standing_of, working_of}
use Rattle.prop_workbench.proofs.session.Session.load_prelude.Given as goal

abbrev pub invariant-loop-line : goal.invariant-loop-line
invariant-loop-line g l = record {
  same : l.self.live.network.library ≡ l.initial.self.live.network.library;
  sound : IsSound g.R.Rule.value_of l.self;
  loaded : Loads (working_of g.O.Order.picks g.R.Rule.value_of l.initial.self) (standing_of l.initial.self)
      (take l.line-index (words l.lines)) (standing_of l.self);
}
