use Rattle.std.proofs.Common.{◌≡◌, take}
use Rattle.prop_language.specs.Said.{words}
use Rattle.prop_workbench.specs.Loading.{Loads}
use Rattle.prop_workbench.specs.Sessions.{IsSound, library_of}
use Rattle.prop_telling.specs.Telling.{telling}
use Rattle.prop_telling.specs.inner.Telling.{told_of}
use Rattle.prop_telling.proofs.telling.Teller.load_prelude.Given as goal

abbrev pub invariant-loop-line : goal.invariant-loop-line
invariant-loop-line g l = record {
  same : l.self.session.live.network.library ≡ l.initial.self.session.live.network.library;
  sound : IsSound g.R.Rule.value_of l.self.session;
  loaded : Loads (telling g.O.Order.picks (library_of g.R.Rule.value_of l.initial.self.session))
      (told_of l.initial.self) (take l.line-index (words l.lines)) (told_of l.self);
}
