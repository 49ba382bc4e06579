-- What the machine may do with one command, and with a line that was read.
use Rattle.std.specs.Prelude.{ℕ, List, Option, Result, ◌⊎◌}
use Rattle.prop_refusals.specs.declared.refusal.Refusal.{Refusal}
use Rattle.prop_procedures.specs.Stored.{Stored}
use Rattle.prop_language.specs.Commands.{Command}
use Rattle.prop_engine.specs.Answers.{Answer, Text}
use Rattle.prop_texts.specs.Texts.{nogoods_text}
use Rattle.prop_workbench.specs.Machine.{State}
use Rattle.prop_workbench.specs.Refusing.{refusal_of}
use Rattle.prop_workbench.specs.Running.{AreNogoods}
use Rattle.prop_workbench.specs.Steps.{AtOnce, CarriesUnless, Covering, Follows, LacksMemory, Shown}

-- the answer is a text that lists nogoods, the state stays, and no step was taken
abbrev pub Lists : List Stored → State → Answer → State → ℕ → Type 0
Lists library old answer new steps = (lines : List (List ℕ)) × AreNogoods library old lines
    × AtOnce (Text (nogoods_text old.premises lines)) old answer new steps

-- what may follow on a command: it is carried out or refused, or memory was refused
abbrev pub Obeys : List Stored → State → Command → Answer → State → ℕ → Type 0
Obeys library old command answer new steps =
    CarriesUnless (refusal_of library old command) library old command answer new steps
    ⊎ LacksMemory old answer new

-- ---- what was learned

-- a step on a line that was read so, whichever contradictions were named, if what was learned
-- covers them
abbrev pub IsFollowed : List Stored → Result (Option Command) Refusal → Answer → ℕ → Shown → Shown
    → Type 0
IsFollowed library read answer steps old new =
    Covering (λ s t. Follows library s read answer t steps) old new

-- the same of a step on a command
abbrev pub IsObeyed : List Stored → Command → Answer → ℕ → Shown → Shown → Type 0
IsObeyed library command answer steps old new =
    Covering (λ s t. Obeys library s command answer t steps) old new
