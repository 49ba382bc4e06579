use Rattle.std.proofs.Common.{◌∙◌, rules, sym, to_z, of_z, SFits, w64}
use Rattle.std.proofs.lemmas.Int.{to_z-of_z}
use Rattle.prop_many.proofs.Intervals.{IsTold, before_step, crowded_step, never, past_step}
use Rattle.prop_many.proofs.differ.left.Goals as goal
use Rattle.prop_many.proofs.differ.left.Goals.{then-is_crowded, else-is_crowded}

pub loop-other-preserved : goal.loop-other-preserved
loop-other-preserved c =
    let others = c.args.others.now in
    let i = c.loop-other.other-index in
    let first_fits : SFits w64 c.low_of-first.result = search rules in
    let first = to_z-of_z w64 c.low_of-first.result first_fits in
    let behind_fits : SFits w64 c.hall_from-hall.result.behind = search rules in
    let there = to_z-of_z w64 c.hall_from-hall.result.behind behind_fits in
    let past_fits : SFits w64 c.past-earliest.result = search rules in
    let before_fits : SFits w64 c.before-latest.result = search rules in
    let told : IsTold others i c.other-item.result (to_z w64 (of_z w64 c.low_of-first.result))
    (to_z w64 (of_z w64 c.hall_from-hall.result.behind)) = record {
      here = c.loop-other-test.true;
      at = c.other-item.is;
      first_is = first ∙ c.low_of-first.ensures.value;
      behind_is = there ∙ c.hall_from-hall.ensures.behind;
    } in
    record {
      earliest = past_step others i c.other-item.result _ _ _ _ _ _ told
          (to_z-of_z w64 c.past-earliest.result past_fits ∙ c.past-earliest.ensures) c.loop-other.invariant.earliest;
      latest = before_step others i c.other-item.result _ _ _ _ _ _ told
          (to_z-of_z w64 c.before-latest.result before_fits ∙ c.before-latest.ensures) c.loop-other.invariant.latest;
      crowded = crowded_step others i c.other-item.result _ _ _ _ _ told
          (λ e. elim c.if-is_crowded.branch [
            | then-is_crowded w ↦ w.is_crowded-is ∙ w.if-is_crowded.true
            | else-is_crowded w ↦ absurd (never (sym e ∙ w.if-is_crowded.false))
          ])
          (λ e. elim c.if-is_crowded.branch [
            | then-is_crowded w ↦ absurd (never (sym w.if-is_crowded.true ∙ e))
            | else-is_crowded w ↦ w.is_crowded-is ∙ c.hall_from-hall.ensures.crowded
          ])
          c.loop-other.invariant.crowded;
    }
