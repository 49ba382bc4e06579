use Rattle.std.proofs.Common.{◌∙◌, refl}
use Rattle.std.specs.Int.{int_max, int_min}
use Rattle.prop_rows.proofs.CornerLemmas.{rest_room, small_room, sum_back, two_first}
use Rattle.prop_rows.proofs.sums.+ends.Goals as goal

pub returns-in-len2-up-clause-least : goal.returns-in-len2-up-clause-least
returns-in-len2-up-clause-least t c =
    let low = c.ends-low in
    let here = c.smallest in
    sum_back low.result.0 here.result low.result.0 here.result
    (rest_room c.args.pairs.now low.result.0 c.requires.few low.ensures.above low.ensures.low)
    (small_room here.result here.ensures.least here.ensures.greatest) refl refl
    ∙ two_first int_min c.args.pairs.now c.c-item.result c.x-item.result low.result.0 here.result
    c.in-len2-up.len_at_least c.c-item.is c.x-item.is low.ensures.least here.ensures.value

pub returns-in-len2-up-clause-greatest : goal.returns-in-len2-up-clause-greatest
returns-in-len2-up-clause-greatest t c =
    let low = c.ends-low in
    let here = c.largest in
    sum_back low.result.1 here.result low.result.1 here.result
    (rest_room c.args.pairs.now low.result.1 c.requires.few low.ensures.high low.ensures.below)
    (small_room here.result here.ensures.least here.ensures.greatest) refl refl
    ∙ two_first int_max c.args.pairs.now c.c-item.result c.x-item.result low.result.1 here.result
    c.in-len2-up.len_at_least c.c-item.is c.x-item.is low.ensures.greatest here.ensures.value
