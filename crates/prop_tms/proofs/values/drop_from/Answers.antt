use Rattle.std.proofs.Common.{◌≡◌, ◌<◌, ◌∙◌, sym, refl, ap, get_or, length, arith}
use Rattle.prop_numbers.specs.Sets.{is_below}
use Rattle.prop_tms.proofs.ValueLemmas.{filter_more, rest_at, rest_set, values_of-set}
use Rattle.prop_tms.proofs.values.drop_from.Goals as goal

pub loop-valued-preserved : goal.loop-valued-preserved
loop-valued-preserved g c =
    let xs = c.args.values.now in
    let ys = c.loop-valued.valued-items in
    let i = c.loop-valued.valued-index in
    let x = c.valued-item.result in
    let kept = c.loop-valued.invariant in
    let m : i < length ys = omega (arith, c.loop-valued-test.true, c.loop-valued.auto.valued-items) in
    let at : get_or ys i x ≡ get_or xs i x = rest_at ys xs i x m kept.rest in
    record {
      left = filter_more (is_below c.args.count) xs ys i x _ c.loop-valued-test.true m (c.valued-item.is ∙ at)
          (ap (λ v. v.value) (sym c.valued-item.is)) (rw c.valued-item.is c.drop_wanting.ensures) kept.left;
      values = values_of-set ys i _ x m refl ∙ kept.values;
      rest = rest_set ys xs i _ kept.rest;
    }
