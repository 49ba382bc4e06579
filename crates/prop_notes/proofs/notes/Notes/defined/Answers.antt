use Rattle.std.proofs.Common.{◌≡◌, ◌∙◌, ◌≤◌, ◌<◌, ◌+◌, ap, sym, refl, subst, arith, map, length, drop, [], ◌∷◌, get_or}
use Rattle.std.proofs.lemmas.List.{length-map, get_or-map, drop_all}
use Rattle.prop_language.specs.Said.{step_of, passed_of}
use Rattle.prop_notes.specs.Notes.{locals_from, parts_from, locals_within, parts_within, inner_at}
use Rattle.prop_notes.specs.Notes.{definition_named}
use Rattle.prop_notes.specs.inner.Notes.{AddsPaths, AddsBefore}
use Rattle.prop_notes.proofs.NoteLemmas.{before_first, before_last, local_taken, use_taken}
use Rattle.prop_notes.proofs.notes.Notes.defined.Goals as goal
use Rattle.prop_notes.proofs.notes.Notes.defined.Goals.{in-Local+in_ok-push_named-in-Local}
use Rattle.prop_notes.proofs.notes.Notes.defined.Goals.{in-Like+in_ok-push_named-in-Like}
use Rattle.prop_notes.proofs.notes.Notes.defined.Goals.{in-Use+in_ok-push_use-in-Use}

pub loop-step-init : goal.loop-step-init
loop-step-init c = record {
  name = c.in_ok-from_str.ensures.ok;
  few = omega arith;
  locals = rw c.new.ensures.items (before_first _);
  parts = rw c.new-2.ensures.items (before_first _);
}

pub loop-step-preserved : goal.loop-step-preserved
loop-step-preserved c =
    let notes = c.args.self.now in
    let steps = map step_of c.args.steps.now in
    let i = c.loop-step.step-index in
    let n = c.loop-step.number in
    let v = c.loop-step.invariant in
    let few : i < length steps = omega (arith, c.loop-step-test.true, length-map c.args.steps.now step_of) in
    elim c.match-step.branch as (λ _. record {
      name : c.match-step.inner.name ≡ c.args.name.now;
      few : c.match-step.number ≤ c.loop-step.step-index + 1;
      locals : AddsBefore (locals_from notes c.match-step.number (drop (i + 1) steps)) (locals_from notes 0 steps)
          c.match-step.inner.locals;
      parts : AddsBefore (parts_from notes c.match-step.number (drop (i + 1) steps)) (parts_from notes 0 steps)
          c.match-step.inner.parts;
    }) [
      | in-Local+in_ok-push_named-in-Local w ↦
          let at : get_or steps i (step_of c.step-item.result) ≡ step_of c.step-item.result =
          get_or-map step_of c.args.steps.now i c.step-item.result (step_of c.step-item.result) c.loop-step-test.true
          ∙ ap step_of (sym c.step-item.is) in
          let name = w.in-Local.local.now in
          let more = subst (λ (P : Type 0). P) (λ k. AddsPaths (w.inner.view_is k).locals (name ∷ [])
          (sym w.inner-is k).locals) w.in_ok-push_named-in-Local.ensures in
          let taken = local_taken notes n c.match-step.number steps i (step_of c.step-item.result) _ name
          c.loop-step.inner c.match-step.inner few (at ∙ ap step_of w.in-Local.is) (λ rest. refl)
          (λ rest. refl) w.number-is
          v.locals v.parts more (ap (λ u. u.parts) w.inner-is ∙ ap (λ u. u.parts) w.inner.view_is) in
          record {
            name = ap (λ u. u.name) w.inner-is ∙ ap (λ u. u.name) w.inner.view_is ∙ v.name;
            few = omega (arith, v.few, w.number-is);
            locals = taken.0;
            parts = taken.1;
          }
      | in-Like+in_ok-push_named-in-Like w ↦
          let at : get_or steps i (step_of c.step-item.result) ≡ step_of c.step-item.result =
          get_or-map step_of c.args.steps.now i c.step-item.result (step_of c.step-item.result) c.loop-step-test.true
          ∙ ap step_of (sym c.step-item.is) in
          let name = w.in-Like.local.now in
          let more = subst (λ (P : Type 0). P) (λ k. AddsPaths (w.inner-in-Like.view_is k).locals (name ∷ [])
          (sym w.inner-is k).locals) w.in_ok-push_named-in-Like.ensures in
          let taken = local_taken notes n c.match-step.number steps i (step_of c.step-item.result) _ name
          c.loop-step.inner c.match-step.inner few (at ∙ ap step_of w.in-Like.is) (λ rest. refl)
          (λ rest. refl) w.number-is
          v.locals v.parts more (ap (λ u. u.parts) w.inner-is ∙ ap (λ u. u.parts) w.inner-in-Like.view_is) in
          record {
            name = ap (λ u. u.name) w.inner-is ∙ ap (λ u. u.name) w.inner-in-Like.view_is ∙ v.name;
            few = omega (arith, v.few, w.number-is);
            locals = taken.0;
            parts = taken.1;
          }
      | in-Use+in_ok-push_use-in-Use w ↦
          let at : get_or steps i (step_of c.step-item.result) ≡ step_of c.step-item.result =
          get_or-map step_of c.args.steps.now i c.step-item.result (step_of c.step-item.result) c.loop-step-test.true
          ∙ ap step_of (sym c.step-item.is) in
          let e = w.in_ok-push_use-in-Use.ensures in
          let name = w.in-Use.used.now in
          let more = subst (λ (P : Type 0). P) (λ k. AddsPaths c.loop-step.inner.locals (locals_within (n + 1)
          (inner_at notes (definition_named notes name))) (sym w.inner-is k).locals) e.locals in
          let made = subst (λ (P : Type 0). P) (λ k. AddsPaths c.loop-step.inner.parts (parts_within (n + 1)
          (passed_of w.in-Use.passed) (inner_at notes (definition_named notes name))) (sym w.inner-is k).parts)
          e.parts in
          let taken = use_taken notes n c.match-step.number steps i (step_of c.step-item.result) name _
          (passed_of w.in-Use.passed) c.loop-step.inner c.match-step.inner few (at ∙ ap step_of w.in-Use.is) w.number-is
          v.locals v.parts more made in
          record {
            name = ap (λ u. u.name) w.inner-is ∙ e.name ∙ v.name;
            few = omega (arith, v.few, w.number-is);
            locals = taken.0;
            parts = taken.1;
          }
    ]

pub returns : goal.returns
returns c =
    let notes = c.args.self.now in
    let steps = map step_of c.args.steps.now in
    let v = c.loop-step.invariant in
    let done : drop c.loop-step.step-index steps ≡ [] =
    drop_all c.loop-step.step-index steps
    (omega (arith, c.loop-step-test.false, length-map c.args.steps.now step_of)) in
    let locals = before_last (locals_from notes 0 steps) c.loop-step.inner.locals (subst (λ ss. AddsBefore
    (locals_from notes c.loop-step.number ss) (locals_from notes 0 steps) c.loop-step.inner.locals) done v.locals) in
    let parts = before_last (parts_from notes 0 steps) c.loop-step.inner.parts (subst (λ ss. AddsBefore
    (parts_from notes c.loop-step.number ss) (parts_from notes 0 steps) c.loop-step.inner.parts) done v.parts) in
    λ k. record { name = v.name k; locals = locals k; parts = parts k }
