-- The blamer as a machine: a layer around a seeker, that answers questions for conflicts and
-- repairs.
use Rattle.std.specs.Prelude.{◌≡◌, ◌⊎◌, ℕ, List, Bool, Result, Ok, Err}
use Rattle.prop_refusals.specs.declared.refusal.Refusal.{Refusal}
use Rattle.prop_refusals.specs.declared.refusal.Refusal.TheVariants.{Memory}
use Rattle.prop_procedures.specs.Stored.{Stored}
use Rattle.prop_engine.specs.Answers.{Answer, Text, Refused}
use Rattle.prop_engine.specs.Transcripts.{Machine}
use Rattle.prop_language.specs.Reading.{AsRead}
use Rattle.prop_workbench.specs.Machine.{State}
use Rattle.prop_workbench.specs.Questions.{Picks}
use Rattle.prop_telling.specs.Telling.{Own}
use Rattle.prop_seeking.specs.Asking.{as_value}
use Rattle.prop_seeking.specs.Seeking.{Sought, seeking}
use Rattle.prop_blaming.specs.Asking.{Wish, asked, is_blame}
use Rattle.prop_blaming.specs.Blame.{Says}

-- the answer is a reply that is so, or the reason why the question is refused
abbrev pub Replies : List Stored → State → Result Wish Refusal → Answer → Type 0
Replies library s (Ok wish) answer =
    (text : List ℕ) × Says library s wish text × (answer ≡ Text text)
Replies library s (Err reason) answer = answer ≡ Refused reason

-- a question is answered by what is read in its line, or memory was refused
abbrev pub Blames : List Stored → State → List ℕ → Answer → Type 0
Blames library s line answer = (answer ≡ Refused Memory)
    ⊎ AsRead (as_value line) (λ read. Replies library s (asked s.premises read) answer)

-- If a line asks for conflicts or repairs, the blamer answers, and all stays. Any other line is for
-- the seeker.
abbrev pub blaming : {O : Type 0} → Picks O → List Stored → Machine (Sought O)
blaming picks library old line answer new = Own (is_blame line)
    ((new ≡ old) × Blames library old.told.standing.shown.state line answer)
    (seeking picks library old line answer new)
