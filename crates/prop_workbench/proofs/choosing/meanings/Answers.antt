use Rattle.std.proofs.Common.{◌≡◌, ◌∙◌, ◌++◌, ◌∷◌, [], sym, ap, map, take, inl, arith}
use Rattle.std.proofs.lemmas.List.{map_push}
use Rattle.prop_language.specs.Said.{value_of}
use Rattle.prop_vocabulary.specs.Said.{meant_of}
use Rattle.prop_workbench.proofs.ChoiceLemmas.{judged_none, judged_refused, judged_meant, first_values, all_judged}
use Rattle.prop_workbench.proofs.choosing.meanings.Goals as goal
use Rattle.prop_workbench.proofs.choosing.meanings.Goals.{in-Ok-meaning+in-Ok-push, in-Err}

pub loop-value-init : goal.loop-value-init
loop-value-init c =
    judged_none c.args.words.now c.args.kind c.args.is_taken c.then_some-first.result
    (map meant_of c.in-Ok.meants.items) c.then_some-first.ensures (ap (map meant_of) c.in-Ok.ensures.items)

pub loop-value-preserved : goal.loop-value-preserved
loop-value-preserved c =
    let words = c.args.words.now in
    let kind = c.args.kind in
    let taken = c.args.is_taken in
    let values = c.args.values.now in
    let k = c.loop-value.value-index in
    let value = c.value-item.result in
    let first = c.loop-value.first in
    let meants = c.loop-value.meants.items in
    let one_more = first_values values k value c.loop-value-test.true c.value-item.is in
    elim c.match-meaning.branch [
      | in-Ok-meaning+in-Ok-push w ↦ (
          let meant = w.in-Ok-meaning.meant in
          let told : map meant_of c.match-meaning.meants.items ≡ map meant_of meants ++ meant_of meant ∷ [] =
          ap (λ v. map meant_of v.items) w.meants-is ∙ ap (map meant_of) w.in-Ok-push.ensures.items
          ∙ map_push meant_of meants meant in
          rw (w.first-is, told, one_more)
          (judged_meant words kind taken (map value_of (take k values)) (value_of value) first (map meant_of meants)
          (meant_of meant) c.loop-value.invariant w.in-Ok-meaning.ensures.ok))
      | in-Err w ↦ rw (w.first-is, w.meants-is, one_more)
          (judged_refused words kind taken (map value_of (take k values)) (value_of value) first (map meant_of meants)
          w.in-Err.refusal w.earlier.result c.loop-value.invariant w.in-Err.ensures.err w.earlier.ensures)
    ]

pub returns-in-Some-clause-err : goal.returns-in-Some-clause-err
returns-in-Some-clause-err c =
    let judged = all_judged c.args.words.now c.args.kind c.args.is_taken c.args.values.now c.loop-value.first
    (map meant_of c.loop-value.meants.items) c.loop-value.value-index (omega (arith, c.loop-value-test.false))
    c.loop-value.invariant in
    inl (sym judged.first_is ∙ c.in-Some.is)

pub returns-clause-ok : goal.returns-clause-ok
returns-clause-ok c =
    (all_judged c.args.words.now c.args.kind c.args.is_taken c.args.values.now c.loop-value.first
    (map meant_of c.loop-value.meants.items) c.loop-value.value-index (omega (arith, c.loop-value-test.false))
    c.loop-value.invariant).meants_are c.in-None.is

pub returns-clause-none : goal.returns-clause-none
returns-clause-none c =
    let judged = all_judged c.args.words.now c.args.kind c.args.is_taken c.args.values.now c.loop-value.first
    (map meant_of c.loop-value.meants.items) c.loop-value.value-index (omega (arith, c.loop-value-test.false))
    c.loop-value.invariant in
    sym judged.first_is ∙ c.in-None.is
