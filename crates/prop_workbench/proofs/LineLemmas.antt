-- What is known of a line that was carried out.
use Rattle.std.proofs.Common.{◌≡◌, ℕ, List, [], Option, Result}
use Rattle.std.proofs.lemmas.List.Elements.{All-nil}
use Rattle.prop_refusals.specs.declared.refusal.Refusal.{Refusal}
use Rattle.prop_refusals.specs.declared.refusal.Refusal.TheVariants.{Memory}
use Rattle.prop_numbers.specs.Sets.{set_of}
use Rattle.prop_procedures.specs.Stored.{Stored}
use Rattle.prop_amb.specs.Refuted.{IsCovered}
use Rattle.prop_language.specs.Commands.{Command}
use Rattle.prop_engine.specs.Answers.{Answer, Refused}
use Rattle.prop_workbench.specs.Machine.{choices_in}
use Rattle.prop_language.specs.Reading.{IsReading}
use Rattle.prop_workbench.specs.Steps.{Shown, Covers, IsStepOf}
use Rattle.prop_workbench.specs.inner.Steps.{IsFollowed}
use Rattle.prop_workbench.proofs.StepLemmas.{still_lacks}

-- nothing that was named is covered by whatever was learned
pub covers_none : (s : Shown) → Covers s []
covers_none s = All-nil (λ m. IsCovered (choices_in s.state) s.learned (set_of m))

-- where memory was refused, any number of steps may have been taken
pub still_lacking : (library : List Stored) (old new : Shown) (read : Result (Option Command) Refusal) (answer : Answer)
    (steps others : ℕ) → answer ≡ Refused Memory → IsFollowed library read answer steps old new
    → IsFollowed library read answer others old new
still_lacking library old new read answer steps others e step named covers =
    let r = step named covers in
    record { now = r.now; covers = r.covers; step = still_lacks library _ _ read answer steps others e r.step }

-- a line that is followed as it is read is a step
pub step_of_read : (library : List Stored) (old new : Shown) (line : List ℕ) (read : Result (Option Command) Refusal)
    (answer : Answer) (steps : ℕ) → IsReading line read → IsFollowed library read answer steps old new
    → IsStepOf library old line answer new steps
step_of_read library old new line read answer steps is_read follows named covers =
    let r = follows named covers in
    record { now = r.now; covers = r.covers; step = (read, is_read, r.step) }
