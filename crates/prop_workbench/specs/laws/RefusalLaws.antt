-- What is asked of an answer is met by each refusal, where the work stays.
use Rattle.std.proofs.Common.{refl}
use Rattle.std.specs.Prelude.{ℕ, List, Option, Some, None, Result, Ok, Err}
use Rattle.prop_refusals.specs.declared.refusal.Refusal.{Refusal}
use Rattle.prop_refusals.specs.declared.refusal.Refusal.TheVariants.{Memory}
use Rattle.prop_numbers.specs.Sets.{Members}
use Rattle.prop_procedures.specs.Stored.{Stored}
use Rattle.prop_cells.specs.Data.{Data}
use Rattle.prop_amb.specs.Going.{Work}
use Rattle.prop_language.specs.Commands as commands
use Rattle.prop_language.specs.Commands.{Command}
use Rattle.prop_engine.specs.Answers.{Refused}
use Rattle.prop_workbench.specs.Machine.{State}
use Rattle.prop_workbench.specs.Questions.{Picks, Earns}
use Rattle.prop_workbench.specs.Reasons.{IsLeanAnswer}
use Rattle.prop_workbench.specs.Waking.{StaysUnlessRun, Wakes}

-- a refusal is no explanation, of which it is asked that it be lean
pub lean_refused : (believed : Members) (d : Data) (s : State)
    (read : Result (Option Command) Refusal) (refusal : Refusal)
    → IsLeanAnswer believed d s read (Refused refusal)
lean_refused believed d s (Err e) refusal = tt
lean_refused believed d s (Ok None) refusal = tt
lean_refused believed d s (Ok (Some (commands.Command.Why name))) refusal = tt
lean_refused believed d s (Ok (Some command)) refusal = tt

-- a refusal is no text, of which it is asked that a run of just so many steps be behind it
pub earns_refused : {O : Type 0} (picks : Picks O) (library : List Stored) (s : State)
    (old new : Work O) (read : Result (Option Command) Refusal) (refusal : Refusal) (steps : ℕ)
    → Earns picks library s old new read (Refused refusal) steps
earns_refused picks library s old new (Err e) refusal steps = tt
earns_refused picks library s old new (Ok None) refusal steps = tt
earns_refused picks library s old new (Ok (Some commands.Command.Settle)) refusal steps = tt
earns_refused picks library s old new (Ok (Some (commands.Command.Ask x))) refusal steps = tt
earns_refused picks library s old new (Ok (Some (commands.Command.Why x))) refusal steps = tt
earns_refused picks library s old new (Ok (Some (commands.Command.Core x))) refusal steps = tt
earns_refused picks library s old new (Ok (Some commands.Command.Worldview)) refusal steps = tt
earns_refused picks library s old new (Ok (Some command)) refusal steps = tt

-- a refusal may leave the work as it was, whichever refusal it is
stays_refused : {O : Type 0} (work : Work O) (refusal : Refusal)
    → StaysUnlessRun work work (Refused refusal)
stays_refused work Memory = tt
stays_refused work refusal = refl

pub wakes_refused : {O : Type 0} (s t : State) (work : Work O)
    (read : Result (Option Command) Refusal) (refusal : Refusal)
    → Wakes s t work work read (Refused refusal)
wakes_refused s t work (Err e) refusal = refl
wakes_refused s t work (Ok None) refusal = refl
wakes_refused s t work (Ok (Some commands.Command.Settle)) refusal = stays_refused work refusal
wakes_refused s t work (Ok (Some (commands.Command.Ask x))) refusal = stays_refused work refusal
wakes_refused s t work (Ok (Some (commands.Command.Why x))) refusal = stays_refused work refusal
wakes_refused s t work (Ok (Some (commands.Command.Core x))) refusal = stays_refused work refusal
wakes_refused s t work (Ok (Some commands.Command.Worldview)) refusal = stays_refused work refusal
wakes_refused s t work (Ok (Some command)) refusal = refl
