-- A text is earned by the calls that it counts.
use Rattle.std.proofs.Common.{◌≡◌, ◌≢◌, ℕ, ◌+◌, List, Option, Some, Result, Ok, inl, inr, refl, arith}
use Rattle.prop_refusals.specs.declared.refusal.Refusal.{Refusal}
use Rattle.prop_refusals.specs.declared.refusal.Refusal.TheVariants.{Memory}
use Rattle.prop_procedures.specs.Stored.{Stored}
use Rattle.prop_amb.specs.declared.outcome.Outcome.{Outcome}
use Rattle.prop_amb.specs.declared.outcome.Outcome.TheVariants.{Settled, Unsettled, Contradiction}
use Rattle.prop_numbers.specs.Sets.{set_of}
use Rattle.prop_amb.specs.Culprits.{IsBlamed}
use Rattle.prop_amb.specs.Settling.{IfContradiction}
use Rattle.prop_amb.specs.Going.{Work, MayGoOn, Goes}
use Rattle.prop_language.specs.Commands as commands
use Rattle.prop_language.specs.Commands.{Command}
use Rattle.prop_engine.specs.Answers.{Answer, Text, Refused}
use Rattle.prop_workbench.specs.declared.asking.Question.{Question}
use Rattle.prop_workbench.specs.declared.asking.Question.TheVariants.{Settle, Worldview, Ask, Why}
use Rattle.prop_workbench.specs.Machine.{State}
use Rattle.prop_workbench.specs.inner.Questions.{command_of, MaySay, SaysSoFar}
use Rattle.prop_workbench.specs.Questions.{outcome_of, Picks, HasTried, Earns}
use Rattle.prop_workbench.specs.laws.RefusalLaws.{earns_refused}

-- a refusal for want of memory is no text
pub earns_none : {O : Type 0} (picks : Picks O) (library : List Stored) (s : State) (old new : Work O)
    (read : Result (Option Command) Refusal) (answer : Answer) (steps : ℕ) → answer ≡ Refused Memory
    → Earns picks library s old new read answer steps
earns_none picks library s old new read answer steps e = rw e (earns_refused picks library s old new read Memory steps)

-- what was said after a run is earned
pub earns : {O : Type 0} (picks : Picks O) (library : List Stored) (s : State) (old new : Work O) (question : Question)
    (end : Outcome) (steps : ℕ) (answer : Answer) → Goes picks library old steps new →
    (end ≡ Unsettled → MayGoOn new) →
    (end ≡ Unsettled → SaysSoFar s new (command_of question) answer)
    → IfContradiction end (λ ps. IsBlamed new.search (set_of ps))
    → MaySay library s (command_of question) (outcome_of new.search.list end) steps answer
    → Earns picks library s old new (Ok (Some (command_of question))) answer steps
earns picks library s old new question end steps answer went left far blame (inr m) =
    earns_none picks library s old new (Ok (Some (command_of question))) answer steps m
earns picks library s old new Settle end steps answer went left far blame (inl (text, replies, e)) =
    rw e (record {
      end = end;
      gone = went;
      left = left;
      believed = λ u. far u text e;
      blamed = blame;
      replies = replies;
    })
earns picks library s old new Worldview end steps answer went left far blame (inl (text, replies, e)) =
    rw e (record {
      end = end;
      gone = went;
      left = left;
      believed = λ u. far u text e;
      blamed = blame;
      replies = replies;
    })
earns picks library s old new (Ask cell name) end steps answer went left far blame (inl (text, replies, e)) =
    rw e (record {
      end = end;
      gone = went;
      left = left;
      believed = λ u. far u text e;
      blamed = blame;
      replies = replies;
    })
earns picks library s old new (Why cell name) end steps answer went left far blame (inl (text, replies, e)) =
    rw e (record {
      end = end;
      gone = went;
      left = left;
      believed = λ u. far u text e;
      blamed = blame;
      replies = replies;
    })

-- a core is earned by the calls of its run and of the tries that were made where it settled
pub earns_reduced : {O : Type 0} (picks : Picks O) (library : List Stored) (s : State) (old run new : Work O)
    (name : List ℕ) (calls steps : ℕ) (answer : Answer) → Goes picks library old calls run →
    ((text : List ℕ) → answer ≡ Text text
    → (tries : ℕ) × (steps ≡ calls + tries) × HasTried picks library s run new tries) →
    MaySay library s (commands.Command.Core name) (outcome_of run.search.list Settled) steps answer
    → Earns picks library s old new (Ok (Some (commands.Command.Core name))) answer steps
earns_reduced picks library s old run new name calls steps answer went tried (inr m) =
    earns_none picks library s old new (Ok (Some (commands.Command.Core name))) answer steps m
earns_reduced picks library s old run new name calls steps answer went tried (inl (text, replies, e)) =
    let t = tried text e in
    rw e (record {
      end = Settled;
      run = run;
      calls = calls;
      tries = t.0;
      gone = went;
      left = λ u. cc;
      believed = λ u. cc;
      blamed = tt;
      tried = λ settled. t.2;
      untried = λ other. absurd (other refl);
      sum =
          t.1;
      replies = replies;
    })

-- and by those of its run alone where it ended otherwise
pub earns_untried : {O : Type 0} (picks : Picks O) (library : List Stored) (s : State) (old run new : Work O)
    (name : List ℕ) (end : Outcome) (calls steps : ℕ) (answer : Answer) → end ≢ Settled
    → Goes picks library old calls run →
    (end ≡ Unsettled → MayGoOn run) → (end ≡ Unsettled → SaysSoFar s run (commands.Command.Core name) answer)
    → IfContradiction end (λ ps. IsBlamed run.search (set_of ps)) → (new ≡ run) × (steps ≡ calls) →
    MaySay library s (commands.Command.Core name) (outcome_of run.search.list end) steps answer
    → Earns picks library s old new (Ok (Some (commands.Command.Core name))) answer steps
earns_untried picks library s old run new name end calls steps answer other went left far blame same (inr m) =
    earns_none picks library s old new (Ok (Some (commands.Command.Core name))) answer steps m
earns_untried picks library s old run new name end calls steps answer other went left far blame same
    (inl (text, replies, e)) =
    rw e (record {
      end = end;
      run = run;
      calls = calls;
      tries = 0;
      gone = went;
      left = left;
      believed = λ u. far u text e;
      blamed = blame;
      tried = λ settled. absurd (other settled);
      untried =
          λ u. (same.0, refl);
      sum = omega (arith, same.1);
      replies = replies;
    })

-- whichever way the run ended
pub earns_core : {O : Type 0} (picks : Picks O) (library : List Stored) (s : State) (old run new : Work O)
    (name : List ℕ) (end : Outcome) (calls steps : ℕ) (answer : Answer) → Goes picks library old calls run →
    (end ≡ Unsettled → MayGoOn run) → (end ≡ Unsettled → SaysSoFar s run (commands.Command.Core name) answer)
    → IfContradiction end (λ ps. IsBlamed run.search (set_of ps)) →
    (end ≡ Settled → (text : List ℕ) → answer ≡ Text text
    → (tries : ℕ) × (steps ≡ calls + tries) × HasTried picks library s run new tries)
    → (end ≢ Settled → (new ≡ run) × (steps ≡ calls)) →
    MaySay library s (commands.Command.Core name) (outcome_of run.search.list end) steps answer
    → Earns picks library s old new (Ok (Some (commands.Command.Core name))) answer steps
earns_core picks library s old run new name Settled calls steps answer went left far blame tried untried says =
    earns_reduced picks library s old run new name calls steps answer went (tried refl) says
earns_core picks library s old run new name Unsettled calls steps answer went left far blame tried untried says =
    let other : Unsettled ≢ Settled = λ e.
    cc in earns_untried picks library s old run new name Unsettled calls steps answer other went left far blame
    (untried other) says
earns_core picks library s old run new name (Contradiction ps) calls steps answer went left far blame tried untried
    says =
    let other : Contradiction ps ≢ Settled =
    λ e. cc in earns_untried picks library s old run new name (Contradiction ps) calls steps answer other went left
    far blame (untried other) says
