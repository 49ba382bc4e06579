use Rattle.std.proofs.Common.{◌≡◌, map, take}
use Rattle.prop_language.specs.Said.{words}
use Rattle.prop_engine.specs.Answers.{answer_of}
use Rattle.prop_engine.specs.Transcripts.{Run}
use Rattle.prop_workbench.specs.Engine.{machine_of}
use Rattle.prop_workbench.specs.Sessions.{shown_of, IsSound}
use Rattle.prop_host_tests.proofs.session.carry_out.Given as goal

abbrev pub invariant-loop-line : goal.invariant-loop-line
invariant-loop-line g l = record {
  same : l.session.live.network.library ≡ l.initial.session.live.network.library;
  sound : IsSound g.R.Rule.value_of l.session;
  run : Run (machine_of g.R.Rule.value_of l.initial.session) (shown_of l.initial.session)
      (take l.line-index (words l.lines)) (map answer_of l.replies.items) (shown_of l.session);
}
