-- Each line leaves the premises numbered.
use Rattle.std.proofs.Common.{◌≡◌, ℕ, ◌≤◌, true, false, List, length, Option, Some, None, Result, Ok, Err}
use Rattle.std.proofs.Common.{inl, inr, refl, subst, arith}
use Rattle.prop_refusals.specs.declared.refusal.Refusal.{Refusal}
use Rattle.prop_premises.specs.Origins.{IsNumbered}
use Rattle.prop_premises.proofs.NumberingLaws.{numbered_name, numbered_choice, numbered_belief}
use Rattle.prop_procedures.specs.Stored.{Stored}
use Rattle.prop_language.specs.Commands as commands
use Rattle.prop_language.specs.Commands.{Command, Value}
use Rattle.prop_language.specs.Reading.{IsReading}
use Rattle.prop_language.proofs.ReadingLaws.{choose_counts}
use Rattle.prop_engine.specs.Answers.{Answer}
use Rattle.prop_workbench.specs.Machine.{State}
use Rattle.prop_workbench.specs.Refusing.{refusal_of}
use Rattle.prop_workbench.specs.Agreeing.{StepsKeepNumbers}
use Rattle.prop_workbench.specs.Steps.{Follows}
use Rattle.prop_workbench.specs.Steps.{CarriesUnless}

-- ---- each line

carried : (library : List Stored) (s t : State) (o : Option Refusal) (command : Command) (answer : Answer) (steps : ℕ)
    → IsNumbered s.premises →
    ((name cell : List ℕ) (values : List Value) → command ≡ commands.Command.Choose name cell values
    → (2 ≤ length values) × (length values ≤ 8)) → CarriesUnless o library s command answer t steps
    → IsNumbered t.premises
carried library s t (Some refusal) command answer steps n few r = rw r.new_is n
carried library s t None (commands.Command.Domain name elements) answer steps n few r = rw r.new_is n
carried library s t None (commands.Command.Relation name from to pairs) answer steps n few r = rw r.new_is n
carried library s t None (commands.Command.Cell name kind) answer steps n few r = rw r.new_is n
carried library s t None (commands.Command.Define name params body) answer steps n few r = rw r.new_is n
carried library s t None (commands.Command.Attach name cells by) answer steps n few r = rw r.new_is n
carried library s t None (commands.Command.Fix cell value) answer steps n few r = rw r.new_is n
carried library s t None (commands.Command.Tell premise cell value) answer steps n few r =
    rw r.new_is (numbered_name s.premises premise n)
carried library s t None (commands.Command.Choose name cell values) answer steps n few r =
    let counts = few name cell values refl in
    rw r.new_is (numbered_choice s.premises name (length values) (omega (arith, counts.0)) (omega (arith, counts.1)) n)
carried library s t None (commands.Command.Kick premise) answer steps n few r =
    rw r.new_is (numbered_belief s.premises _ false n)
carried library s t None (commands.Command.Bring premise) answer steps n few r =
    rw r.new_is (numbered_belief s.premises _ true n)
carried library s t None (commands.Command.Forget premise) answer steps n few r = rw r.new_is n
carried library s t None (commands.Command.Limit limit) answer steps n few r = rw r.new_is n
carried library s t None commands.Command.Settle answer steps n few r = rw r.new_is n
carried library s t None (commands.Command.Ask x) answer steps n few r = rw r.new_is n
carried library s t None (commands.Command.Why x) answer steps n few r = rw r.new_is n
carried library s t None (commands.Command.Core x) answer steps n few r = rw r.new_is n
carried library s t None commands.Command.Worldview answer steps n few r = rw r.new_is n
carried library s t None commands.Command.Nogoods answer steps n few r = rw r.2.new_is n

followed : (library : List Stored) (s t : State) (line : List ℕ) (read : Result (Option Command) Refusal)
    (answer : Answer) (steps : ℕ) → IsReading line read → IsNumbered s.premises → Follows library s read answer t steps
    → IsNumbered t.premises
followed library s t line (Ok None) answer steps is_read n f = rw f.new_is n
followed library s t line (Err refusal) answer steps is_read n (inl r) = rw r.new_is n
followed library s t line (Err refusal) answer steps is_read n (inr l) = rw l.same n
followed library s t line (Ok (Some command)) answer steps is_read n (inl r) =
    carried library s t (refusal_of library s command) command answer steps n
    (λ name cell values e. choose_counts line name cell values
    (subst (λ (c : Command). IsReading line (Ok (Some c))) e is_read)) r
followed library s t line (Ok (Some command)) answer steps is_read n (inr l) = rw l.same n

pub steps_keep_numbers : (library : List Stored) → StepsKeepNumbers library
steps_keep_numbers library old new line answer steps n (read, is_read, step) =
    followed library old new line read answer steps is_read n step
