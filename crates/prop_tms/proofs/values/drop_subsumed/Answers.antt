use Rattle.std.proofs.Common.{◌≡◌, ◌<◌, ◌∙◌, sym, refl, ap, get_or, length, arith}
use Rattle.std.proofs.lemmas.Bool.{or_parts}
use Rattle.std.proofs.lemmas.List.{set-get_or}
use Rattle.prop_tms.specs.Beliefs.{Subsumes}
use Rattle.prop_tms.specs.declared.values.Valued.{Valued}
use Rattle.prop_tms.proofs.ValueLemmas.{emptied_set, left_more, left_other, left_still, left_wider, rest_at, rest_next}
use Rattle.prop_tms.proofs.ValueLemmas.{rest_set, room_set, values_of-set}
use Rattle.prop_tms.proofs.values.drop_subsumed.Goals as goal
use Rattle.prop_tms.proofs.values.drop_subsumed.Goals.{then-implies, else-implies}

pub loop-valued-preserved : goal.loop-valued-preserved
loop-valued-preserved g c =
    let below = g.V.Partial.below in
    let e = c.args.entry.now in
    let xs = c.args.values.now in
    let ys = c.loop-valued.valued-items in
    let i = c.loop-valued.valued-index in
    let x = c.valued-item.result in
    let kept = c.loop-valued.invariant in
    let l = c.loop-valued-test.true in
    let m : i < length ys = omega (arith, l, c.loop-valued.auto.valued-items) in
    let at : get_or ys i x ≡ get_or xs i x = rest_at ys xs i x m kept.rest in
    let is : x ≡ get_or xs i x = c.valued-item.is ∙ at in
    elim c.if-implies.branch [
      | then-implies t ↦
          (let says : below x.value e.value = rw c.valued-item.is (c.implies.ensures.0 t.if-implies.true) in
          let y : Valued _ = record { value = (get_or ys i x).value; supports = t.drop_wider-emptied.new.supports } in
          rw t.valued-items-is (record {
            kept = left_more (Subsumes below e) xs ys i x y l m is
                (left_wider below e x y says (ap (λ v. v.value) (sym c.valued-item.is))
                (rw c.valued-item.is t.drop_wider-emptied.ensures.kept)) kept.kept;
            values = values_of-set ys i y x m refl ∙ kept.values;
            room = room_set xs ys i y x m (t.drop_wider-emptied.ensures.capacity, t.drop_wider-emptied.ensures.len)
                kept.room;
            emptied = λ none.
                let none = or_parts _ _ (sym t.emptied-is ∙ none) in
                emptied_set xs ys i y x m (t.drop_wider-emptied.ensures.emptied none.1) (kept.emptied none.0);
            rest = rest_set ys xs i y kept.rest;
          }))
      | else-implies t ↦
          (let other : ¬ (below x.value e.value) = λ h.
          cc (c.implies.ensures.1 (rw (← c.valued-item.is) h), t.if-implies.false) in
          rw (t.emptied-is, t.valued-items-is, set-get_or ys i x) (record {
            kept = left_still (Subsumes below e) xs ys i x x l m is c.valued-item.is
                (left_other below e x.value x.supports.items other) kept.kept;
            values = kept.values;
            room = kept.room;
            emptied = kept.emptied;
            rest = rest_next ys xs i kept.rest;
          }))
    ]
