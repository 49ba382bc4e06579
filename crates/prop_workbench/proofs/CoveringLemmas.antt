-- Steps that hold whichever contradictions were named.
use Rattle.std.proofs.Common.{◌≡◌, ◌∙◌, ◌↔◌, ℕ, List, [], ◌∷◌, ◌++◌, Option, Some, None, Result, sym, ap, inl, inr}
use Rattle.std.proofs.Common.{refl}
use Rattle.std.proofs.lemmas.List.Elements.{All-weaker, All-push}
use Rattle.prop_refusals.specs.declared.refusal.Refusal.{Refusal}
use Rattle.prop_numbers.specs.Sets.{Members, set_of}
use Rattle.prop_amb.specs.Refuted.{IsCovered}
use Rattle.prop_procedures.specs.Stored.{Stored}
use Rattle.prop_language.specs.Commands as commands
use Rattle.prop_language.specs.Commands.{Command}
use Rattle.prop_engine.specs.Answers.{Answer, Done}
use Rattle.prop_workbench.specs.Machine.{State, choices_in}
use Rattle.prop_workbench.specs.inner.Machine.{naming}
use Rattle.prop_workbench.specs.Refusing.{refusal_of}
use Rattle.prop_workbench.specs.Effects.{effect}
use Rattle.prop_workbench.specs.inner.Effects.{named_after}
use Rattle.prop_workbench.specs.Steps.{Shown, Covers, AtOnce, Carries, Follows}
use Rattle.prop_workbench.specs.Steps.{CarriesUnless}
use Rattle.prop_workbench.specs.inner.Steps.{Obeys}
use Rattle.prop_workbench.specs.inner.Steps.{IsObeyed, IsFollowed}
use Rattle.prop_workbench.proofs.NamingLaws.{refusal_naming, effect_naming}

-- the command runs nothing, lists nothing and forgets nothing
abbrev pub IsStill : Command → Type 0
IsStill commands.Command.Settle = ⊥
IsStill (commands.Command.Ask x) = ⊥
IsStill (commands.Command.Why x) = ⊥
IsStill (commands.Command.Core x) = ⊥
IsStill commands.Command.Worldview = ⊥
IsStill commands.Command.Nogoods = ⊥
IsStill (commands.Command.Forget premise) = ⊥
IsStill command = Unit {0}

-- what was covered still is
abbrev pub KeepsCover : Shown → Shown → Type 0
KeepsCover old new = (m : Members) → IsCovered (choices_in old.state) old.learned m
    → IsCovered (choices_in new.state) new.learned m

pub covers_still : (old new : Shown) (named : List (List ℕ)) → KeepsCover old new → Covers old named → Covers new named
covers_still old new named keeps covers =
    All-weaker (λ m. IsCovered (choices_in old.state) old.learned (set_of m))
    (λ m. IsCovered (choices_in new.state) new.learned (set_of m)) (λ m h. keeps (set_of m) h) named covers

-- it is carried out where it changes the state, and the other way around
still_carries : (library : List Stored) (s t : State) (command : Command) (answer : Answer) (steps : ℕ)
    → IsStill command → AtOnce Done (effect library s command) answer t steps ↔ Carries library s command answer t steps
still_carries library s t (commands.Command.Forget premise) answer steps still = absurd still
still_carries library s t commands.Command.Settle answer steps still = absurd still
still_carries library s t (commands.Command.Ask x) answer steps still = absurd still
still_carries library s t (commands.Command.Why x) answer steps still = absurd still
still_carries library s t (commands.Command.Core x) answer steps still = absurd still
still_carries library s t commands.Command.Worldview answer steps still = absurd still
still_carries library s t commands.Command.Nogoods answer steps still = absurd still
still_carries library s t command answer steps still = (λ r. r, λ r. r)

-- what was named stays so where nothing is forgotten
still_named : (s : State) (command : Command) (named : List (List ℕ)) → IsStill command
    → named_after s command named ≡ named
still_named s (commands.Command.Forget premise) named still = absurd still
still_named s command named still = refl

changes_named : (library : List Stored) (s t : State) (named : List (List ℕ)) (command : Command) (answer : Answer)
    (steps : ℕ) → IsStill command → AtOnce Done (effect library s command) answer t steps
    → AtOnce Done (effect library (naming s named) command) answer (naming t named) steps
changes_named library s t named command answer steps still r = record {
  answer_is = r.answer_is;
  new_is = ap (λ u. naming u named) r.new_is
      ∙ ap (λ others. naming (effect library s command) others) (sym (still_named s command named still))
      ∙ sym (effect_naming library s named command);
  no_steps = r.no_steps;
}

carries_named : (o : Option Refusal) (library : List Stored) (s t : State) (named : List (List ℕ)) (command : Command)
    (answer : Answer) (steps : ℕ) → IsStill command → CarriesUnless o library s command answer t steps →
    CarriesUnless o library (naming s named) command answer (naming t named) steps
carries_named (Some refusal) library s t named command answer steps still r =
    record { answer_is = r.answer_is; new_is = ap (λ u. naming u named) r.new_is; no_steps = r.no_steps }
carries_named None library s t named command answer steps still r =
    (still_carries library (naming s named) (naming t named) command answer steps still).0
    (changes_named library s t named command answer steps still
    ((still_carries library s t command answer steps still).1 r))

pub obeys_named : (library : List Stored) (s t : State) (named : List (List ℕ)) (command : Command) (answer : Answer)
    (steps : ℕ) → IsStill command → Obeys library s command answer t steps
    → Obeys library (naming s named) command answer (naming t named) steps
obeys_named library s t named command answer steps still (inl c) =
    inl (rw (refusal_naming library s named command)
    (carries_named (refusal_of library s command) library s t named command answer steps still c))
obeys_named library s t named command answer steps still (inr l) =
    inr (record { answer_is = l.answer_is; same = ap (λ u. naming u named) l.same })

-- a command that runs nothing is obeyed whichever contradictions were named
pub still_obeyed : (library : List Stored) (old new : Shown) (command : Command) (answer : Answer) (steps : ℕ)
    → IsStill command → KeepsCover old new → Obeys library old.state command answer new.state steps
    → IsObeyed library command answer steps old new
still_obeyed library old new command answer steps still keeps obeys named covers = record {
  now = named;
  covers = covers_still old new named keeps covers;
  step = obeys_named library old.state new.state named command answer steps still obeys;
}

-- silence, and a refusal that was read, hold whichever contradictions were named
pub refused_followed : (library : List Stored) (old new : Shown) (read : Result (Option Command) Refusal)
    (answer : Answer) (steps : ℕ) → KeepsCover old new
    → ((named : List (List ℕ)) → Follows library (naming old.state named) read answer (naming new.state named) steps)
    → IsFollowed library read answer steps old new
refused_followed library old new read answer steps keeps follows named covers =
    record { now = named; covers = covers_still old new named keeps covers; step = follows named }

-- one contradiction more is covered
pub covers_more : (s : Shown) (named : List (List ℕ)) (ps : List ℕ) → Covers s named
    → IsCovered (choices_in s.state) s.learned (set_of ps) → Covers s (named ++ ps ∷ [])
covers_more s named ps covers one = All-push (λ m. IsCovered (choices_in s.state) s.learned (set_of m)) named ps covers
    one
