-- What is told, from what was done.
use Rattle.std.proofs.Common.{◌≡◌, ◌∙◌, ◌⊎◌, ℕ, zero, suc, ◌<◌, ◌+◌, ◌-◌, IsTrue, List, [], ◌∷◌, All, length, slice_get}
use Rattle.std.proofs.Common.{Some, Result, Ok, Err, IfOk, ap, refl, subst, sym, inl, inr, arith}
use Rattle.std.proofs.lemmas.Option.{slice_get_within}
use Rattle.prop_refusals.specs.declared.refusal.Refusal.TheVariants.{Memory}
use Rattle.prop_numbers.specs.Sets.{set_of}
use Rattle.prop_premises.specs.Origins.{Origin, choices_of}
use Rattle.prop_premises.specs.declared.choice.Choice.{Choice}
use Rattle.prop_premises.specs.ChoiceLists.{hypothetical, is_hypothetical}
use Rattle.prop_procedures.specs.Stored.{Stored}
use Rattle.prop_cells.specs.Problems.{Problem}
use Rattle.prop_engine.specs.Answers.{Answer, Text, Refused, Says}
use Rattle.prop_amb.specs.Search.{Stand, IsStand}
use Rattle.prop_amb.specs.Going.{Work}
use Rattle.prop_amb.specs.Stepping.{Steps, IsStepTo}
use Rattle.prop_amb.specs.declared.stepping.Step.{Step}
use Rattle.prop_amb.specs.declared.stepping.Step.TheVariants.{Called, Moved, Settled, Contradiction}
use Rattle.prop_amb.proofs.SteppingLaws.{passed_known}
use Rattle.prop_workbench.proofs.AskLemmas.{believed_known}
use Rattle.prop_telling.specs.inner.Telling.{IsNamed}

named_to : {O : Type 0} (picks : O → ℕ → ℕ → O → Type 0) (library : List Stored) (problem : Problem) (w : Work O)
    (step : Step) (v : Work O) → IsStand v.search → IsStepTo picks library problem w step v → IsNamed v step
named_to picks library problem w (Called i) v stand (may, same, calls) =
    let within = slice_get_within w.cells.instances calls.turn.called calls.turn.instance calls.turn.at in
    let count = ap (λ d. length d.instances) calls.turn.calls.rest in
    omega (arith, within, count, calls.called_is)
named_to picks library problem w (Moved m) v stand (passed, cells, order, shifted) =
    passed_known w.search v.search m stand passed
named_to picks library problem w Settled v stand taken = tt
named_to picks library problem w (Contradiction n) v stand (same, out, blamed) =
    subst (λ (u : Work _). All (λ p. p < length u.search.premises) n) (sym same)
    (believed_known w.search.premises n out.believes)

-- what is named of a step that was taken is there
pub steps_named : {O : Type 0} (picks : O → ℕ → ℕ → O → Type 0) (library : List Stored) (problem : Problem)
    (old : Work O) (step : Step) (new : Work O) → IsStand new.search → Steps picks library problem old step new
    → IsNamed new step
steps_named picks library problem old step new stand steps =
    named_to picks library problem steps.ready step new stand steps.taken

-- a reply that says a text, where there is one
pub said_by : {T E : Type 0} (bytes_of : T → List ℕ) (r : Result T E) (answer : Answer) (P : List ℕ → Type 0)
    → ((bytes : List ℕ) → IfOk r (λ t. bytes_of t ≡ bytes) → Says answer bytes) → IfOk r (λ t. P (bytes_of t))
    → (answer ≡ Refused Memory) ⊎ ((text : List ℕ) × P text × (answer ≡ Text text))
said_by bytes_of (Ok t) answer P says h = elim (says (bytes_of t) (λ i. bytes_of t)) [
  | inl e ↦ inr (bytes_of t, h, e)
  | inr m ↦ inl m
]
said_by bytes_of (Err e) answer P says h = elim (says [] tt) [
  | inl e ↦ elim (says (0 ∷ []) tt) [
    | inl f ↦ absurd (no_two (sym e ∙ f))
    | inr m ↦ inl m
  ]
  | inr m ↦ inl m
]
  where
    no_two : Text [] ≡ Text (0 ∷ []) → ⊥
    no_two h = cc

pub there : {A : Type 0} (xs : List A) (k : ℕ) → k < length xs → (x : A) × (slice_get xs k ≡ Some x)
there [] k l = absurd (omega (arith, l))
there (x ∷ xs) zero l = (x, refl)
there (x ∷ xs) (suc k) l = there xs k (omega (arith, l))
