-- How a run ends holds whichever contradictions were named.
use Rattle.std.proofs.Common.{◌≡◌, ◌≤◌, ◌∙◌, ℕ, List, [], Some, None, All, codes, refl, ap, inl, inr}
use Rattle.prop_numbers.specs.Sets.{set_of}
use Rattle.prop_amb.specs.Refuted.{IsCovered, IsNogood}
use Rattle.prop_lattice.specs.declared.info.Info.{Info}
use Rattle.prop_refusals.specs.declared.refusal.Refusal.{Refusal}
use Rattle.prop_refusals.specs.declared.refusal.Refusal.TheVariants.{Memory}
use Rattle.prop_procedures.specs.Stored.{Stored}
use Rattle.prop_language.specs.Commands as commands
use Rattle.prop_language.specs.Commands.{Command}
use Rattle.prop_engine.specs.Answers.{Answer, Refused, Says}
use Rattle.prop_texts.specs.Texts.{nogoods_text}
use Rattle.std.specs.List.Sorted.{IsStrictlyIncreasing}
use Rattle.prop_nogoods.specs.Stores.{AreMinimal}
use Rattle.prop_workbench.specs.Machine.{State, problem_in, choices_in}
use Rattle.prop_workbench.specs.inner.Machine.{naming}
use Rattle.prop_amb.specs.declared.outcome.Outcome as ends
use Rattle.prop_amb.specs.declared.outcome.Outcome.TheVariants as ended
use Rattle.prop_workbench.specs.Questions.{outcome_of}
use Rattle.prop_amb.specs.Settling.{IfContradiction}
use Rattle.prop_workbench.specs.inner.Questions.{MaySay}
use Rattle.prop_workbench.specs.Refusing.{refusal_of}
use Rattle.prop_workbench.specs.Running.{Outcome, Settled, Unsettled, Contradiction, named_by, MayEnd, IsRest, IsValue}
use Rattle.prop_workbench.specs.Running.{IsValueReply, IsExplainedReply, Replies, worldview_of}
use Rattle.prop_workbench.specs.inner.Points.{HoldsPoints}
use Rattle.prop_procedures.specs.declared.shape.Param.{Param}
use Rattle.prop_workbench.specs.declared.session.Session.{Session}
use Rattle.prop_workbench.specs.inner.Sessions.{Keeps}
use Rattle.prop_workbench.specs.Steps.{Shown, Covers, Runs, Carries}
use Rattle.prop_workbench.specs.inner.Steps.{IsObeyed}
use Rattle.prop_workbench.proofs.LimitLemmas.{as_many}
use Rattle.prop_workbench.proofs.NamingLaws.{refusal_naming}
use Rattle.prop_workbench.proofs.StepLemmas.{obeys, refuses}
use Rattle.prop_workbench.proofs.CoveringLemmas.{KeepsCover, covers_still, covers_more}

rest_named : (library : List Stored) (s : State) (named : List (List ℕ)) (list : List ℕ) (a : ℕ → Info)
    → IsRest library s list a → IsRest library (naming s named) list a
rest_named library s named list a r = r

may_end_named : (library : List Stored) (s : State) (named : List (List ℕ)) (outcome : Outcome)
    → MayEnd library s outcome → MayEnd library (naming s named) outcome
may_end_named library s named (Settled list) r = r
may_end_named library s named (Unsettled list) r = r
may_end_named library s named (Contradiction ps) r = r

value_named : (library : List Stored) (s : State) (named : List (List ℕ)) (outcome : Outcome) (cell : ℕ) (v : Info)
    → IsValue library s outcome cell v → IsValue library (naming s named) outcome cell v
value_named library s named (Settled list) cell v r = r
value_named library s named (Unsettled list) cell v r = r
value_named library s named (Contradiction ps) cell v r = absurd r

points_named : (library : List Stored) (s : State) (named : List (List ℕ)) (outcome : Outcome) (cell : ℕ) (v : Info)
    → HoldsPoints library s (worldview_of s outcome) cell v
    → HoldsPoints library (naming s named) (worldview_of (naming s named) outcome) cell v
points_named library s named (Settled list) cell v r = r
points_named library s named (Unsettled list) cell v r = r
points_named library s named (Contradiction ps) cell v r = r

value_reply_named : (library : List Stored) (s : State) (named : List (List ℕ)) (outcome : Outcome)
    (name mark text : List ℕ) → IsValueReply library s outcome name mark text
    → IsValueReply library (naming s named) outcome name mark text
value_reply_named library s named outcome name mark text r =
    record {
      cell = r.cell;
      cell_is = r.cell_is;
      v = r.v;
      value = value_named library s named outcome r.cell r.v r.value;
      points = points_named library s named outcome r.cell r.v r.points;
      text_is = r.text_is;
    }

abbrev settled_reply_named : (library : List Stored) (s : State) (named : List (List ℕ)) (list name mark text : List ℕ)
    → IsExplainedReply library s (Settled list) name mark text
    → IsExplainedReply library (naming s named) (Settled list) name mark text
settled_reply_named library s named list name mark text r = record {
  premises = r.premises;
  in_order = r.in_order;
  says = record {
    cell = r.says.cell;
    cell_is = r.says.cell_is;
    v = r.says.v;
    value = r.says.value;
    points = r.says.points;
    text_is = r.says.text_is;
  };
  explains = r.explains;
}

unsettled_reply_named : (library : List Stored) (s : State) (named : List (List ℕ)) (list name mark text : List ℕ)
    → IsExplainedReply library s (Unsettled list) name mark text
    → IsExplainedReply library (naming s named) (Unsettled list) name mark text
unsettled_reply_named library s named list name mark text r = record {
  premises = r.premises;
  in_order = r.in_order;
  says = record {
    cell = r.says.cell;
    cell_is = r.says.cell_is;
    v = r.says.v;
    value = r.says.value;
    points = r.says.points;
    text_is = r.says.text_is;
  };
  explains = r.explains;
}

replies_named : (library : List Stored) (s : State) (named : List (List ℕ)) (command : Command) (outcome : Outcome)
    (steps : ℕ) (text : List ℕ) → Replies library s command outcome steps text
    → Replies library (naming s named) command outcome steps text
replies_named library s named command (Contradiction ps) steps text r = r
replies_named library s named commands.Command.Settle (Settled list) steps text r = r
replies_named library s named commands.Command.Worldview (Settled list) steps text r = r
replies_named library s named (commands.Command.Ask x) (Settled list) steps text r =
    value_reply_named library s named (Settled list) x [] text r
replies_named library s named (commands.Command.Ask x) (Unsettled list) steps text r =
    (value_reply_named library s named (Unsettled list) x (codes " unsettled") text r.0, r.1)
replies_named library s named (commands.Command.Why x) (Settled list) steps text r =
    settled_reply_named library s named list x [] text r
replies_named library s named (commands.Command.Why x) (Unsettled list) steps text r =
    (unsettled_reply_named library s named list x (codes " unsettled") text r.0, r.1)
replies_named library s named (commands.Command.Core x) (Settled list) steps text (inl r) =
    inl (settled_reply_named library s named list x [] text r.0, record { entails = r.1.entails; needed = r.1.needed })
replies_named library s named (commands.Command.Core x) (Settled list) steps text (inr r) =
    inr (settled_reply_named library s named list x (codes " not reduced") text r.0, r.1, r.2)
replies_named library s named (commands.Command.Core x) (Unsettled list) steps text r =
    (unsettled_reply_named library s named list x (codes " unsettled") text r.0, r.1)
replies_named library s named command (Settled list) steps text r = absurd r
replies_named library s named command (Unsettled list) steps text r = r

-- what is named when a run has ended is covered, where a contradiction that ended it is
abbrev pub IsCoveredEnd : Shown → Outcome → Type 0
IsCoveredEnd s (Contradiction ps) = IsCovered (choices_in s.state) s.learned (set_of ps)
IsCoveredEnd s (Settled list) = Unit {0}
IsCoveredEnd s (Unsettled list) = Unit {0}

covers_end : (s : Shown) (named : List (List ℕ)) (outcome : Outcome) → Covers s named → IsCoveredEnd s outcome
    → Covers s (named_by outcome named)
covers_end s named (Contradiction ps) covers one = covers_more s named ps covers one
covers_end s named (Settled list) covers one = covers
covers_end s named (Unsettled list) covers one = covers

pub covered_end : (s : Shown) (list : List ℕ) (end : ends.Outcome)
    → IfContradiction end (λ ps. IsCovered (choices_in s.state) s.learned (set_of ps))
    → IsCoveredEnd s (outcome_of list end)
covered_end s list (ended.Contradiction ps) covered = covered
covered_end s list ended.Settled covered = tt
covered_end s list ended.Unsettled covered = tt

-- and it still is, where what was covered still is
pub covered_still : (old new : Shown) (outcome : Outcome) → KeepsCover old new → IsCoveredEnd old outcome
    → IsCoveredEnd new outcome
covered_still old new (Contradiction ps) keeps covered = keeps (set_of ps) covered
covered_still old new (Settled list) keeps covered = tt
covered_still old new (Unsettled list) keeps covered = tt

-- what two changes keep, one after the other
pub keeps_then : {R O : Type 0} {X : Type 0} {F : X → Type 0} {g : _} (value : R → Param → List Info → Info)
    (old middle new : Session R O X F g) → Keeps value old middle → Keeps value middle new → Keeps value old new
keeps_then value old middle new first second =
    record {
      library = second.library ∙ first.library;
      sound = second.sound;
      steps = second.steps
          ∙ first.steps;
      covers = λ m covered. second.covers m (first.covers m covered);
    }

-- want of memory changes nothing, whichever contradictions were named
pub lacks_obeyed : (library : List Stored) (old new : Shown) (command : Command) (steps : ℕ) → new.state ≡ old.state
    → KeepsCover old new → IsObeyed library command (Refused Memory) steps old new
lacks_obeyed library old new command steps same keeps named covers = record {
  now = named;
  covers = covers_still old new named keeps covers;
  step = inr (record { answer_is = refl; same = ap (λ u. naming u named) same });
}

-- what is refused changes nothing, whichever contradictions were named
pub refused_obeyed : (library : List Stored) (s : Shown) (command : Command) (refusal : Refusal)
    → refusal_of library s.state command ≡ Some refusal → IsObeyed library command (Refused refusal) 0 s s
refused_obeyed library s command refusal refused named covers = record {
  now = named;
  covers = covers;
  step = refuses library (naming s.state named) (naming s.state named) command refusal
      (refusal_naming library s.state named command ∙ refused) refl;
}

-- the command runs the network
abbrev pub IsRunning : Command → Type 0
IsRunning command = (library : List Stored) (s t : State) (answer : Answer) (steps : ℕ)
    → Runs library s command answer t steps → Carries library s command answer t steps

-- a command that runs the network is answered whichever contradictions were named
pub run_obeyed : (library : List Stored) (old new : Shown) (command : Command) (outcome : Outcome) (answer : Answer)
    (steps : ℕ) → IsRunning command → refusal_of library old.state command ≡ None → new.state ≡ old.state
    → KeepsCover old new → IsCoveredEnd new outcome → MayEnd library old.state outcome →
    MaySay library old.state command outcome steps answer → steps ≤ old.state.limit
    → IsObeyed library command answer steps old new
run_obeyed library old new command outcome answer steps running free same keeps end ends (inl (text, replies, e)) within
    named covers = record {
      now = named_by outcome named;
      covers = covers_end new named outcome (covers_still old new named keeps covers) end;
      step =
          let s = naming old.state named in
          let t = naming new.state (named_by outcome named) in
          obeys library s t command answer steps (refusal_naming library old.state named command ∙ free)
          (running library s t answer steps (record {
            outcome = outcome;
            ends = may_end_named library old.state named outcome ends;
            text = text;
            replies = replies_named library old.state named command outcome steps text replies;
            answer_is = e;
            new_is = ap (λ u. naming u (named_by outcome named)) same;
            within = within;
          }));
    }
run_obeyed library old new command outcome answer steps running free same keeps end ends (inr m) within named covers =
    record {
      now = named;
      covers = covers_still old new named keeps covers;
      step = inr (record { answer_is = m; same = ap (λ u. naming u named) same });
    }

-- the nogoods that were learned are listed whichever contradictions were named, if they cover them
pub nogoods_obeyed : (library : List Stored) (s : Shown) (answer : Answer) → All IsStrictlyIncreasing s.learned
    → All (λ n. IsNogood (problem_in library s.state) (choices_in s.state) (set_of n)) s.learned → AreMinimal s.learned
    →
    Says answer (nogoods_text s.state.premises s.learned) → IsObeyed library commands.Command.Nogoods answer 0 s s
nogoods_obeyed library s answer in_order refuted minimal (inl e) named covers = record {
  now = named;
  covers = covers;
  step = obeys library (naming s.state named) (naming s.state named) commands.Command.Nogoods answer 0
      (as_many [] (naming s.state named)) (
        s.learned,
        record { in_order = in_order; refuted = refuted; minimal = minimal; covers = covers },
        record { answer_is = e; new_is = refl; no_steps = refl },
      );
}
nogoods_obeyed library s answer in_order refuted minimal (inr m) named covers =
    record { now = named; covers = covers; step = inr (record { answer_is = m; same = refl }) }
