use Rattle.std.proofs.Common.{◌≡◌, take}
use Rattle.prop_workbench.specs.Sessions.{state_of}
use Rattle.prop_workbench.specs.Posting.{with_fixed}
use Rattle.prop_workbench.specs.inner.Sessions.{Keeps}
use Rattle.prop_workbench.proofs.session.Session.fix_all.Given as goal

abbrev pub invariant-loop-x : goal.invariant-loop-x
invariant-loop-x g l = record {
  keeps : Keeps g.R.Rule.value_of l.initial.self l.self;
  fixed : state_of l.self ≡ with_fixed (state_of l.initial.self) l.cells l.next (take l.x-index l.fixed);
}
