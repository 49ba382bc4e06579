-- What the methods that carry out a command promise, from what is known of their parts.
use Rattle.std.proofs.Common.{◌≡◌, ℕ, List, Option, Some, Result, Ok}
use Rattle.std.specs.Prelude.{⊤}
use Rattle.prop_lattice.specs.declared.info.Info.{Info}
use Rattle.prop_refusals.specs.declared.refusal.Refusal.{Refusal}
use Rattle.prop_refusals.specs.declared.refusal.Refusal.TheVariants.{Memory}
use Rattle.prop_procedures.specs.declared.shape.Param.{Param}
use Rattle.prop_procedures.specs.Stored.{Stored}
use Rattle.prop_language.specs.Commands.{Command}
use Rattle.prop_engine.specs.Answers.{Answer, Refused, answer_done}
use Rattle.prop_workbench.specs.declared.session.Session.{Session}
use Rattle.prop_workbench.specs.Machine.{State, worldview_at}
use Rattle.prop_workbench.specs.Refusing.{refusal_of}
use Rattle.prop_workbench.specs.Reasons.{IsLeanAnswer}
use Rattle.prop_workbench.specs.Questions.{Picks, Earns}
use Rattle.prop_workbench.specs.Waking.{Wakes}
use Rattle.prop_workbench.specs.inner.Questions.{RestsOn}
use Rattle.prop_amb.specs.Going.{Work}
use Rattle.prop_workbench.specs.Sessions.{state_of, shown_of, work_of, library_of, IsInOrder}
use Rattle.prop_workbench.specs.inner.Sessions.{Keeps}
use Rattle.prop_workbench.specs.inner.Carrying.{IsDone, HasLeft, IsAnswered, IsCarriedOut}
use Rattle.prop_workbench.specs.laws.RefusalLaws.{lean_refused, earns_refused, wakes_refused}
use Rattle.prop_workbench.proofs.CoveringLemmas.{IsStill, still_obeyed}
use Rattle.prop_workbench.proofs.RunLemmas.{lacks_obeyed, refused_obeyed}
use Rattle.prop_workbench.proofs.SoundLemmas.{stays, unchanged}

-- a refusal rests on nothing
pub refusal_rests : {O : Type 0} (picks : Picks O) (library : List Stored) (s t : State) (old new : Work O)
    (read : Result (Option Command) Refusal) (refusal : Refusal) (steps : ℕ) → Wakes s t old new read (Refused refusal)
    → RestsOn picks library s t old new read (Refused refusal) steps
refusal_rests picks library s t old new read refusal steps wakes = record {
  lean = lean_refused (worldview_at s new.search.list) new.cells s read refusal;
  earned = earns_refused picks library s old new read refusal steps;
  wakes = wakes;
}

-- a command that is refused changes nothing
pub refused_answered : {R O : Type 0} {X : Type 0} {F : X → Type 0} {g : _} (picks : Picks O)
    (value : R → Param → List Info → Info) (s : Session R O X F g) (command : Command) (refusal : Refusal)
    → IsInOrder value s → refusal_of (library_of value s) (state_of s) command ≡ Some refusal →
    IsAnswered picks value s command (Refused refusal) 0 s
refused_answered picks value s command refusal sound refused = record {
  keeps = unchanged sound;
  step = refused_obeyed (library_of value s) (shown_of s) command refusal refused;
  rests = refusal_rests picks (library_of value s) (state_of s) (state_of s) (work_of s) (work_of s) (Ok (Some command))
      refusal 0 (wakes_refused (state_of s) (state_of s) (work_of s) (Ok (Some command)) refusal);
}

-- nor does one for which memory was refused, but for what a run leaves
pub memory_answered : {R O : Type 0} {X : Type 0} {F : X → Type 0} {g : _} (picks : Picks O)
    (value : R → Param → List Info → Info) (old new : Session R O X F g) (command : Command) → Keeps value old new
    → state_of new ≡ state_of old →
    Wakes (state_of old) (state_of new) (work_of old) (work_of new) (Ok (Some command)) (Refused Memory)
    → IsAnswered picks value old command (Refused Memory) 0 new
memory_answered picks value old new command keeps same wakes = record {
  keeps = keeps;
  step = lacks_obeyed (library_of value old) (shown_of old) (shown_of new) command 0 same keeps.covers;
  rests = refusal_rests picks (library_of value old) (state_of old) (state_of new) (work_of old) (work_of new)
      (Ok (Some command)) Memory 0 wakes;
}

-- a line whose command is answered is carried out
pub answered_carried : {R O : Type 0} {X : Type 0} {F : X → Type 0} {g : _} {picks : Picks O} {value : R → Param
    → List Info → Info} {old new : Session R O X F g} {command : Command} {answer : Answer} {steps : ℕ}
    → IsAnswered picks value old command answer steps new →
    IsCarriedOut picks value old (Ok (Some command)) answer steps new
answered_carried a = record { keeps = stays a.keeps; step = a.step; rests = a.rests }

-- and so is one whose command was done, or refused, where its answer says no text
pub done_carried : {R O : Type 0} {X : Type 0} {F : X → Type 0} {g : _} (picks : Picks O)
    (value : R → Param → List Info → Info) (old new : Session R O X F g) (command : Command) (r : Result ⊤ Refusal)
    → IsStill command →
    IsLeanAnswer (worldview_at (state_of old) new.search.list) new.live.network.cells (state_of old) (Ok (Some command))
    (answer_done r) → Earns picks (library_of value old) (state_of old) (work_of old) (work_of new)
    (Ok (Some command)) (answer_done r) 0 →
    Keeps value old new → IsDone value old command r new → HasLeft old command r new
    → IsCarriedOut picks value old (Ok (Some command)) (answer_done r) 0 new
done_carried picks value old new command r still lean earned keeps done left = record {
  keeps = stays keeps;
  step = still_obeyed (library_of value old) (shown_of old) (shown_of new) command (answer_done r) 0 still keeps.covers
      done;
  rests = record { lean = lean; earned = earned; wakes = left };
}
