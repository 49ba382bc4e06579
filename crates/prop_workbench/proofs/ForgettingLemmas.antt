-- A premise that a session forgets: what is left of what was learned covers the contradictions that were named without
-- it.
use Rattle.std.proofs.Common.{◌≡◌, ◌∙◌, ◌⊎◌, ◌||◌, ℕ, Bool, true, false, not, IsTrue, All, List, [], ◌∷◌, Some, None}
use Rattle.std.proofs.Common.{Result, Ok, Err, get_or, inl, inr, refl, sym, ap, subst, ◌↔◌}
use Rattle.std.specs.Prelude.{⊤, OnOk, OnErr, IfErr}
use Rattle.std.proofs.lemmas.List.Elements.{All-filter, All-get_or, filter_passes}
use Rattle.prop_refusals.specs.declared.refusal.Refusal.{Refusal}
use Rattle.prop_refusals.specs.declared.refusal.Refusal.TheVariants.{Memory, NoSuchPremise, IsAChoice}
use Rattle.prop_numbers.specs.Sets.{Members, set_of, union, is_within}
use Rattle.prop_premises.specs.Origins.{premise_number, is_choice, choices_of}
use Rattle.prop_premises.specs.declared.choice.Choice.{Choice}
use Rattle.prop_premises.specs.ChoiceLists.{hypotheticals_of, is_hypothetical}
use Rattle.prop_numbers.proofs.WithinLemmas.{within_has}
use Rattle.prop_premises.proofs.WorldviewLemmas.{hypotheticals_are}
use Rattle.prop_procedures.specs.Stored.{Stored}
use Rattle.prop_nogoods.specs.Stores.{has_part, lacking}
use Rattle.prop_language.specs.Commands as commands
use Rattle.prop_engine.specs.Answers.{Done, answer_done}
use Rattle.prop_amb.specs.Refuted.{IsCovered}
use Rattle.prop_workbench.specs.inner.Effects.{forgetting}
use Rattle.prop_workbench.specs.Machine.{State, choices_in}
use Rattle.prop_workbench.specs.inner.Machine.{naming}
use Rattle.prop_refusals.specs.Refusals.{first_of}
use Rattle.prop_workbench.specs.Effects.{number_given}
use Rattle.prop_workbench.specs.Refusing.{refusal_of, belief_reasons}
use Rattle.prop_workbench.proofs.LimitLemmas.{as_stated}
use Rattle.prop_workbench.specs.Steps.{Shown, Carries}
use Rattle.prop_workbench.specs.inner.Steps.{IsObeyed}
use Rattle.prop_workbench.proofs.BeliefLemmas.{IsMissing}
use Rattle.prop_workbench.proofs.StepLemmas.{obeys_done}

-- ---- what covers

-- a listed part of a set that lacks p lacks it too, and so stays
has_part-lacking : (listed : List (List ℕ)) (w : Members) (p : ℕ) → w p ≡ false → IsTrue (has_part listed w)
    → IsTrue (has_part (lacking listed p) w)
has_part-lacking [] w p out h = h
has_part-lacking (line ∷ listed) w p out h =
    by (has_part-lacking listed w p out) (set_of line p) refl (is_within w line) refl h
  where
    by : (IsTrue (has_part listed w) → IsTrue (has_part (lacking listed p) w)) → (b : Bool) → set_of line p ≡ b
        → (c : Bool) → is_within w line ≡ c → (c || has_part listed w) ≡ true
        → IsTrue (has_part (lacking (line ∷ listed) p) w)
    by rest true held true within h = cc (within_has w line p within held, out)
    by rest true held false within h = rw held (rest h)
    by rest false held true within h = rw (held, within) refl
    by rest false held false within h = rw (held, within) (rest h)

covered_lacking : (choices : List Choice) (listed : List (List ℕ)) (p : ℕ) (m : Members)
    → is_hypothetical choices p ≡ false → m p ≡ false → IsCovered choices listed m
    → IsCovered choices (lacking listed p) m
covered_lacking choices listed p m user out covered list is_list =
    has_part-lacking listed (union m (hypotheticals_of choices list)) p
    (neither (m p) (hypotheticals_of choices list p) out untaken) (covered list is_list)
  where
    neither : (x y : Bool) → x ≡ false → y ≡ false → (x || y) ≡ false
    neither x y e f = cc

    untaken : hypotheticals_of choices list p ≡ false
    untaken = by (hypotheticals_of choices list p) refl
      where
        by : (b : Bool) → hypotheticals_of choices list p ≡ b → b ≡ false
        by true e = cc (hypotheticals_are choices list p is_list e, user)
        by false e = refl

not_true : (b : Bool) → not b ≡ true → b ≡ false
not_true true h = cc
not_true false h = refl

all_covered : (choices : List Choice) (listed named : List (List ℕ)) (p : ℕ) → is_hypothetical choices p ≡ false
    → All (λ m. IsCovered choices listed (set_of m)) named
    → All (λ m. IsCovered choices (lacking listed p) (set_of m)) (lacking named p)
all_covered choices listed named p user covers k d l =
    let line = get_or (lacking named p) k d in
    covered_lacking choices listed p (set_of line) user
    (not_true (set_of line p) (All-get_or (λ x. not (set_of x p) ≡ true) (lacking named p) k d l
    (filter_passes (λ x. not (set_of x p)) named)))
    (All-get_or (λ x. IsCovered choices listed (set_of x)) (lacking named p) k d l
    (All-filter (λ x. not (set_of x p)) (λ x. IsCovered choices listed (set_of x)) named covers))

-- ---- the step

-- what is forgotten makes nothing
forgets : (library : List Stored) (s : State) (name : List ℕ)
    → refusal_of library s (commands.Command.Forget name) ≡ first_of (belief_reasons s name)
forgets library s name =
    as_stated (belief_reasons s name) s (number_given s.premises name)
    (lacking s.named (number_given s.premises name))

fits : (library : List Stored) (s : State) (name : List ℕ) (p : ℕ) → premise_number s.premises name ≡ Some p
    → is_choice s.premises name ≡ false → refusal_of library s (commands.Command.Forget name) ≡ None
fits library s name p found free = forgets library s name ∙ rw (found, free) refl

missing : (library : List Stored) (s : State) (name : List ℕ) → premise_number s.premises name ≡ None
    → is_choice s.premises name ≡ false → refusal_of library s (commands.Command.Forget name) ≡ Some NoSuchPremise
missing library s name none free = rw (none, free) refl

taken : (library : List Stored) (s : State) (name : List ℕ) → premise_number s.premises name ≡ None
    → is_choice s.premises name ≡ true → refusal_of library s (commands.Command.Forget name) ≡ Some IsAChoice
taken library s name none choice = rw (none, choice) refl

why_not : (library : List Stored) (s : State) (name : List ℕ) (e : Refusal) → IsMissing s name e ⊎ (e ≡ Memory)
    → (refusal_of library s (commands.Command.Forget name) ≡ Some e) ⊎ (e ≡ Memory)
why_not library s name e (inl (none, inl w)) = inl (missing library s name none w.0 ∙ ap Some (sym w.1))
why_not library s name e (inl (none, inr w)) = inl (taken library s name none w.0 ∙ ap Some (sym w.1))
why_not library s name e (inr m) = inr m

carries : (library : List Stored) (s new : State) (name : List ℕ) (p : ℕ) (named : List (List ℕ))
    → premise_number s.premises name ≡ Some p → new ≡ forgetting s p →
    Carries library (naming s named) (commands.Command.Forget name) Done (naming new (lacking named p)) 0
carries library s new name p named found is =
    record { answer_is = refl; new_is = rw found (ap (λ u. naming u (lacking named p)) is); no_steps = refl }

-- a session that forgets obeys, whichever contradictions were named
pub forget_obeyed : (library : List Stored) (old new : Shown) (name : List ℕ) (r : Result ⊤ Refusal) →
    OnOk r ((p : ℕ) × (premise_number old.state.premises name ≡ Some p) × (is_choice old.state.premises name ≡ false)
    × (is_hypothetical (choices_in old.state) p ≡ false) × (new.state ≡ forgetting old.state p)
    × (new.learned ≡ lacking old.learned p)) →
    IfErr r (λ e. IsMissing old.state name e ⊎ (e ≡ Memory)) → OnErr r (new ≡ old)
    → IsObeyed library (commands.Command.Forget name) (answer_done r) 0 old new
forget_obeyed library old new name (Ok t) (p, found, free, user, state, learned) why same named covers = record {
  now = lacking named p;
  covers = rw (ap (λ (s : State). choices_of s.premises) state, learned)
      (all_covered (choices_in old.state) old.learned named p user covers);
  step = obeys_done library (naming old.state named) (naming new.state (lacking named p)) (commands.Command.Forget name)
      (Ok tt) (fits library (naming old.state named) name p found free)
      (carries library old.state new.state name p named found state) tt tt;
}
forget_obeyed library old new name (Err e) done why same named covers = record {
  now = named;
  covers = rw same covers;
  step = obeys_done library (naming old.state named) (naming new.state named) (commands.Command.Forget name) (Err e) tt
      tt (why_not library (naming old.state named) name e why) (ap (λ (s : Shown). naming s.state named) same);
}

-- why a name is no premise's, from what was looked up
pub missing_from : (s : State) (name : List ℕ) (r : Result ℕ Refusal) (e : Refusal) → r ≡ Err e
    → IfErr r (λ x. (x ≡ IsAChoice) ⊎ (x ≡ NoSuchPremise)) → premise_number s.premises name ≡ None →
    ((r ≡ Err IsAChoice) ↔ IsTrue (is_choice s.premises name))
    → ((r ≡ Err NoSuchPremise) ↔ ((premise_number s.premises name ≡ None) × (is_choice s.premises name ≡ false)))
    → IsMissing s name e
missing_from s name (Ok p) e is why found choice none = cc
missing_from s name (Err x) e is (inl a) found choice none = let same : x ≡ e =
    cc in (found, inr (choice.0 (ap Err a), sym same ∙ a))
missing_from s name (Err x) e is (inr n) found choice none = let same : x ≡ e =
    cc in (found, inl ((none.0 (ap Err n)).1, sym same ∙ n))

-- a session that refuses to forget obeys too
pub forget_refused : (library : List Stored) (s : Shown) (name : List ℕ) (r : Result ⊤ Refusal) (e : Refusal)
    → r ≡ Err e → IsMissing s.state name e ⊎ (e ≡ Memory)
    → IsObeyed library (commands.Command.Forget name) (answer_done r) 0 s s
forget_refused library s name r e is why =
    subst (λ (x : Result ⊤ Refusal). IsObeyed library (commands.Command.Forget name) (answer_done x) 0 s s) (sym is)
    (forget_obeyed library s s name (Err e) tt why refl)
