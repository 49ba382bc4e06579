-- What one machine does, as what another does whose states are seen in its own.
use Rattle.std.proofs.Common.{ℕ, List, [], ◌∷◌, ap}
use Rattle.std.specs.Prelude.{Result}
use Rattle.prop_engine.specs.declared.outcome.Counts.{Counts}
use Rattle.prop_engine.specs.declared.outcome.EngineFault.{EngineFault}
use Rattle.prop_engine.specs.Calls.{Call}
use Rattle.prop_engine.specs.Dialogues.{IsDialogue}
use Rattle.prop_engine.specs.Answers.{Answer}
use Rattle.prop_engine.specs.Transcripts.{Machine, Run, IsTranscript}

module _ {S T : Type 0} (machine : Machine S) (other : Machine T) (view : S → T)
    (step : (old : S) (line : List ℕ) (answer : Answer) (new : S) → machine old line answer new
    → other (view old) line answer (view new)) where
  pub run_seen : (old new : S) (lines : List (List ℕ)) (answers : List Answer) → Run machine old lines answers new
      → Run other (view old) lines answers (view new)
  run_seen old new [] [] same = ap view same
  run_seen old new [] (answer ∷ answers) r = absurd r
  run_seen old new (line ∷ lines) [] r = absurd r
  run_seen old new (line ∷ lines) (answer ∷ answers) (mid, one, rest) =
      (view mid, step old line answer mid one, run_seen mid new lines answers rest)

  pub transcript_seen : (old new : S) (input output : List ℕ) (lines refused : ℕ)
      → IsTranscript machine old input output lines refused new
      → IsTranscript other (view old) input output lines refused (view new)
  transcript_seen old new input output lines refused t = record {
    answers = t.answers;
    run = run_seen old new _ t.answers t.run;
    output_is = t.output_is;
    lines_counted = t.lines_counted;
    refused_counted = t.refused_counted;
  }

  pub dialogue_seen : (reads : ℕ) (old : S) (result : Result Counts EngineFault) (calls : List Call) (new : S)
      → IsDialogue machine reads old result calls new → IsDialogue other reads (view old) result calls (view new)
  dialogue_seen reads old result calls new d = record {
    input = d.input;
    answers = d.answers;
    run = run_seen old new _ d.answers d.run;
    in_turn = d.in_turn;
  }
