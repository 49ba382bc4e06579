use Rattle.std.proofs.Common.{◌≡◌, ◌∙◌, ◌-◌, ◌-ℤ◌, true, false, take, drop, length, rules, arith, sym, ap}
use mir.Syntax.{w64}
use mir.Val.{SFits, to_z, of_z}
use Rattle.std.proofs.lemmas.Int.{ints, to_z-of_z}
use Rattle.prop_many.specs.Cumulative.{is_later, last_of}
use Rattle.prop_many.proofs.Steps.{last_step}
use Rattle.prop_many.proofs.cumulative.+last.Goals as goal

pub returns-then-is_later : goal.returns-then-is_later
returns-then-is_later t c =
    let tail = take (length c.args.starting.now - 3) (drop 3 c.args.starting.now) in
    let high = to_z-of_z w64 c.args.high c.ranges.high in
    let before : to_z w64 (of_z w64 (to_z w64 (of_z w64 c.high_of.result) -ℤ to_z w64 (of_z w64 c.args.wish.length)))
    ≡ c.high_of.result -ℤ c.args.wish.length = omega (
      arith,
      ints,
      c.high_of.ensures.least,
      c.high_of.ensures.greatest,
      c.args.wish.least,
      c.args.wish.most,
    ) in
    let last_fits : SFits w64 c.last-last.result = search rules in
    let last = to_z-of_z w64 c.last-last.result last_fits in
    before ∙ last_step c.args.tasks.now c.args.starting.now c.args.wish.room c.args.wish.length c.args.high
    c.start-item.result (c.high_of.result -ℤ c.args.wish.length) c.last-last.result true c.in-len3-up.len_at_least
    c.start-item.is (ap (λ v. v -ℤ c.args.wish.length) c.high_of.ensures.value)
    (c.last-last.ensures ∙ ap (last_of c.args.tasks.now tail c.args.wish.room c.args.wish.length) high)
    (sym c.if-is_later.true ∙ c.is_later.ensures
    ∙ (λ i. is_later c.args.tasks.now c.args.wish.room c.args.wish.length (high i) (before i) (last i)))

pub returns-else-is_later : goal.returns-else-is_later
returns-else-is_later t c =
    let tail = take (length c.args.starting.now - 3) (drop 3 c.args.starting.now) in
    let high = to_z-of_z w64 c.args.high c.ranges.high in
    let before : to_z w64 (of_z w64 (to_z w64 (of_z w64 c.high_of.result) -ℤ to_z w64 (of_z w64 c.args.wish.length)))
    ≡ c.high_of.result -ℤ c.args.wish.length = omega (
      arith,
      ints,
      c.high_of.ensures.least,
      c.high_of.ensures.greatest,
      c.args.wish.least,
      c.args.wish.most,
    ) in
    let last_fits : SFits w64 c.last-last.result = search rules in
    let last = to_z-of_z w64 c.last-last.result last_fits in
    last ∙ last_step c.args.tasks.now c.args.starting.now c.args.wish.room c.args.wish.length c.args.high
    c.start-item.result (c.high_of.result -ℤ c.args.wish.length) c.last-last.result false c.in-len3-up.len_at_least
    c.start-item.is (ap (λ v. v -ℤ c.args.wish.length) c.high_of.ensures.value)
    (c.last-last.ensures ∙ ap (last_of c.args.tasks.now tail c.args.wish.room c.args.wish.length) high)
    (sym c.if-is_later.false ∙ c.is_later.ensures
    ∙ (λ i. is_later c.args.tasks.now c.args.wish.room c.args.wish.length (high i) (before i) (last i)))
