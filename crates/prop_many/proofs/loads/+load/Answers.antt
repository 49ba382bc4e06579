use Rattle.std.proofs.Common.{◌≡◌, ◌∙◌, ◌-◌, ◌+ℤ◌, take, drop, length, arith, ap, w64}
use Rattle.std.proofs.lemmas.Int.{ints, to_z-of_z}
use Rattle.prop_many.specs.Loads.{load_of, taken_of}
use Rattle.prop_many.proofs.Items.{three_and_rest}
use Rattle.prop_many.proofs.Steps.{both_sums}
use Rattle.prop_many.proofs.loads.+load.Goals as goal

pub returns-in-len3-up-clause-value : goal.returns-in-len3-up-clause-value
returns-in-len3-up-clause-value t c =
    let tail = take (length c.args.tasks.now - 3) (drop 3 c.args.tasks.now) in
    let sum = both_sums c.taken.result c.load.result _ _ c.taken.ensures.value c.load.ensures.value in
    let kept : _ ≡ c.taken.result +ℤ c.load.result = omega (
      arith,
      ints,
      c.taken.ensures.least,
      c.taken.ensures.most,
      c.load.ensures.least,
      c.load.ensures.most,
    ) in
    kept ∙ sum
    ∙ ap (λ time. taken_of c.start-item.result c.length-item.result c.demand-item.result time +ℤ load_of tail time)
    (to_z-of_z w64 c.args.time c.ranges.time)
    ∙ ap (λ tasks. load_of tasks c.args.time)
    (three_and_rest c.args.tasks.now c.start-item.result c.length-item.result c.demand-item.result
    c.in-len3-up.len_at_least c.start-item.is c.length-item.is c.demand-item.is)
