-- What a session shows is what the machine does, whichever contradictions were named.
use Rattle.std.proofs.Common.{ℕ, List, [], ◌∷◌, refl}
use Rattle.std.specs.Prelude.{Result}
use Rattle.prop_procedures.specs.Stored.{Stored}
use Rattle.prop_engine.specs.Answers.{Answer}
use Rattle.prop_engine.specs.Calls.{Call}
use Rattle.prop_engine.specs.Dialogues.{IsDialogue}
use Rattle.prop_engine.specs.Transcripts.{Run}
use Rattle.prop_engine.specs.declared.outcome.Counts.{Counts}
use Rattle.prop_engine.specs.declared.outcome.EngineFault.{EngineFault}
use Rattle.prop_workbench.specs.inner.Machine.{naming}
use Rattle.prop_workbench.specs.Steps.{Shown, Covers}
use Rattle.prop_workbench.specs.Engine.{workbench, learning}

-- a run that a session shows is one of the machine, whichever contradictions were named before
pub run_named : (library : List Stored) (old new : Shown) (lines : List (List ℕ)) (answers : List Answer)
    → Run (learning library) old lines answers new →
    (named : List (List ℕ)) → Covers old named
    → (now : List (List ℕ)) × Covers new now
    × Run (workbench library) (naming old.state named) lines answers (naming new.state now)
run_named library old new [] [] same named covers = (named, rw same covers, rw same refl)
run_named library old new [] (a ∷ ls) r named covers = absurd r
run_named library old new (line ∷ lines) [] r named covers = absurd r
run_named library old new (line ∷ lines) (a ∷ ls) (mid, shows, rest) named covers =
    let step = shows.step named covers in
    let more = run_named library mid new lines ls rest step.now step.covers in
    (more.0, more.1, (naming mid.state step.now, (shows.steps, step.step), more.2))

-- and so is a dialogue
pub dialogue_named : (library : List Stored) (reads : ℕ) (old : Shown) (result : Result Counts EngineFault)
    (calls : List Call) (new : Shown) → IsDialogue (learning library) reads old result calls new
    → (named : List (List ℕ)) → Covers old named
    → (now : List (List ℕ)) × IsDialogue (workbench library) reads (naming old.state named) result calls
    (naming new.state now)
dialogue_named library reads old result calls new d named covers =
    let x = run_named library old new _ d.answers d.run named covers in
    (x.0, record { input = d.input; answers = d.answers; run = x.2; in_turn = d.in_turn })
