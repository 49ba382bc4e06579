use Rattle.std.proofs.Common.{◌∙◌, ◌-◌, true, false, take, drop, length, rules, sym, ap}
use mir.Syntax.{w64}
use mir.Val.{SFits}
use Rattle.std.proofs.lemmas.Int.{to_z-of_z}
use Rattle.prop_many.specs.Cumulative.{first_of, is_sooner}
use Rattle.prop_many.proofs.Steps.{first_step}
use Rattle.prop_many.proofs.cumulative.+first.Goals as goal

pub returns-then-is_sooner : goal.returns-then-is_sooner
returns-then-is_sooner t c =
    let tail = take (length c.args.ending.now - 3) (drop 3 c.args.ending.now) in
    let low = to_z-of_z w64 c.args.low c.ranges.low in
    let fits : SFits w64 c.end_of-end.result = search rules in
    let end = to_z-of_z w64 c.end_of-end.result fits in
    let first_fits : SFits w64 c.first-first.result = search rules in
    let first = to_z-of_z w64 c.first-first.result first_fits in
    end ∙ first_step c.args.tasks.now c.args.ending.now c.args.wish.room c.args.wish.length c.args.low
    c.start-item.result c.length-item.result c.end_of-end.result c.first-first.result true c.in-len3-up.len_at_least
    c.start-item.is c.length-item.is c.end_of-end.ensures
    (c.first-first.ensures
    ∙ ap (first_of c.args.tasks.now tail c.args.wish.room c.args.wish.length) low)
    (sym c.if-is_sooner.true ∙ c.is_sooner.ensures
    ∙ (λ i. is_sooner c.args.tasks.now c.args.wish.room c.args.wish.length (low i) (end i) (first i)))

pub returns-else-is_sooner : goal.returns-else-is_sooner
returns-else-is_sooner t c =
    let tail = take (length c.args.ending.now - 3) (drop 3 c.args.ending.now) in
    let low = to_z-of_z w64 c.args.low c.ranges.low in
    let fits : SFits w64 c.end_of-end.result = search rules in
    let end = to_z-of_z w64 c.end_of-end.result fits in
    let first_fits : SFits w64 c.first-first.result = search rules in
    let first = to_z-of_z w64 c.first-first.result first_fits in
    first ∙ first_step c.args.tasks.now c.args.ending.now c.args.wish.room c.args.wish.length c.args.low
    c.start-item.result c.length-item.result c.end_of-end.result c.first-first.result false
    c.in-len3-up.len_at_least c.start-item.is c.length-item.is c.end_of-end.ensures
    (c.first-first.ensures
    ∙ ap (first_of c.args.tasks.now tail c.args.wish.room c.args.wish.length) low)
    (sym c.if-is_sooner.false ∙ c.is_sooner.ensures
    ∙ (λ i. is_sooner c.args.tasks.now c.args.wish.room c.args.wish.length (low i) (end i) (first i)))
