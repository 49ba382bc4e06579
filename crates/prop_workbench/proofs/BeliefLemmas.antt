-- Steps that change what is believed.
use Rattle.std.proofs.Common.{◌≡◌, ◌∙◌, ℕ, Bool, true, false, List, Some, None, Result, Ok, Err, ◌⊎◌, ◌↔◌, IsTrue, inl}
use Rattle.std.proofs.Common.{inr, refl, sym, ap, subst}
use Rattle.std.specs.Prelude.{⊤, OnOk, OnErr, IfErr}
use Rattle.prop_refusals.specs.declared.refusal.Refusal.{Refusal}
use Rattle.prop_refusals.specs.declared.refusal.Refusal.TheVariants.{Memory, NoSuchPremise, IsAChoice}
use Rattle.prop_premises.specs.Origins.{premise_number, is_choice, with_belief_at}
use Rattle.prop_procedures.specs.Stored.{Stored}
use Rattle.prop_language.specs.Commands as commands
use Rattle.prop_language.specs.Commands.{Command}
use Rattle.prop_engine.specs.Answers.{Done, answer_done}
use Rattle.prop_workbench.specs.Machine.{State}
use Rattle.prop_refusals.specs.Refusals.{first_of}
use Rattle.prop_workbench.specs.Effects.{number_given}
use Rattle.prop_workbench.specs.Refusing.{refusal_of, belief_reasons}
use Rattle.prop_workbench.proofs.LimitLemmas.{as_believed}
use Rattle.prop_workbench.specs.Steps.{Carries}
use Rattle.prop_workbench.specs.inner.Steps.{Obeys}
use Rattle.prop_workbench.proofs.StepLemmas.{obeys_done}

-- the command that has a premise believed, or no longer
abbrev pub belief_command : Bool → List ℕ → Command
belief_command true name = commands.Command.Bring name
belief_command false name = commands.Command.Kick name

-- the belief in a premise makes nothing
believes : (library : List Stored) (s : State) (b : Bool) (name : List ℕ)
    → refusal_of library s (belief_command b name) ≡ first_of (belief_reasons s name)
believes library s true name = as_believed (belief_reasons s name) s (number_given s.premises name) true
believes library s false name = as_believed (belief_reasons s name) s (number_given s.premises name) false

fits : (library : List Stored) (s : State) (b : Bool) (name : List ℕ) (p : ℕ) → premise_number s.premises name ≡ Some p
    → is_choice s.premises name ≡ false → refusal_of library s (belief_command b name) ≡ None
fits library s true name p found free = believes library s true name ∙ rw (found, free) refl
fits library s false name p found free = believes library s false name ∙ rw (found, free) refl

missing : (library : List Stored) (s : State) (b : Bool) (name : List ℕ) → premise_number s.premises name ≡ None
    → is_choice s.premises name ≡ false → refusal_of library s (belief_command b name) ≡ Some NoSuchPremise
missing library s true name none free = rw (none, free) refl
missing library s false name none free = rw (none, free) refl

taken : (library : List Stored) (s : State) (b : Bool) (name : List ℕ) → premise_number s.premises name ≡ None
    → is_choice s.premises name ≡ true → refusal_of library s (belief_command b name) ≡ Some IsAChoice
taken library s true name none choice = rw (none, choice) refl
taken library s false name none choice = rw (none, choice) refl

changes : (library : List Stored) (s new : State) (b : Bool) (name : List ℕ) (p : ℕ)
    → premise_number s.premises name ≡ Some p → new ≡ record s { premises = with_belief_at s.premises p b }
    → Carries library s (belief_command b name) Done new 0
changes library s new true name p found e = record { answer_is = refl; new_is = rw found e; no_steps = refl }
changes library s new false name p found e = record { answer_is = refl; new_is = rw found e; no_steps = refl }

-- why the premise with a name is not found
abbrev pub IsMissing : State → List ℕ → Refusal → Type 0
IsMissing s name e = (premise_number s.premises name ≡ None)
    × (((is_choice s.premises name ≡ false) × (e ≡ NoSuchPremise))
    ⊎ ((is_choice s.premises name ≡ true) × (e ≡ IsAChoice)))

pub believed_or_not : (library : List Stored) (s new : State) (b : Bool) (name : List ℕ) (r : Result ⊤ Refusal) →
    OnOk r ((p : ℕ) × (premise_number s.premises name ≡ Some p) × (is_choice s.premises name ≡ false)
    × (new ≡ record s { premises = with_belief_at s.premises p b })) →
    IfErr r (λ e. IsMissing s name e ⊎ (e ≡ Memory)) → OnErr r (new ≡ s)
    → Obeys library s (belief_command b name) (answer_done r) new 0
believed_or_not library s new b name (Ok t) h why same =
    obeys_done library s new (belief_command b name) (Ok t) (fits library s b name h.0 h.1 h.2)
    (changes library s new b name h.0 h.1 h.3) tt tt
believed_or_not library s new b name (Err e) h (inl (none, inl w)) same =
    obeys_done library s new (belief_command b name) (Err e) tt tt
    (inl (missing library s b name none w.0 ∙ ap Some (sym w.1))) same
believed_or_not library s new b name (Err e) h (inl (none, inr w)) same =
    obeys_done library s new (belief_command b name) (Err e) tt tt
    (inl (taken library s b name none w.0 ∙ ap Some (sym w.1))) same
believed_or_not library s new b name (Err e) h (inr m) same =
    obeys_done library s new (belief_command b name) (Err e) tt tt (inr m) same

-- the name of a premise that was found is no choice's
pub found_free : (b : Bool) (r : Result ℕ Refusal) (p : ℕ) → r ≡ Ok p → ((r ≡ Err IsAChoice) ↔ IsTrue b) → b ≡ false
found_free true r p e h = let f : Ok p ≡ Err IsAChoice = sym e ∙ h.1 refl in cc
found_free false r p e h = refl

-- and one that isn't found changes nothing
pub belief_refused : (library : List Stored) (s : State) (b : Bool) (name : List ℕ) (r : Result ⊤ Refusal) (e : Refusal)
    → r ≡ Err e → IsMissing s name e → Obeys library s (belief_command b name) (answer_done r) s 0
belief_refused library s b name r e is why =
    subst (λ (x : Result ⊤ Refusal). Obeys library s (belief_command b name) (answer_done x) s 0) (sym is)
    (believed_or_not library s s b name (Err e) tt (inl why) refl)
