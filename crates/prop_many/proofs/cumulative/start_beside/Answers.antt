use Rattle.std.proofs.Common.{arith}
use Rattle.std.proofs.lemmas.Int.{ints}
use Rattle.prop_many.proofs.Steps.{start_step}
use Rattle.prop_many.proofs.cumulative.start_beside.Goals as goal

pub returns-in-len4-up : goal.returns-in-len4-up
returns-in-len4-up c =
    start_step c.args.args.now c.capacity-item.result c.start-item.result c.length-item.result c.demand-item.result
    _ _ c.starts.result c.in-len4-up.len_at_least c.capacity-item.is c.start-item.is c.length-item.is c.demand-item.is
    c.starts.ensures (omega (
      arith,
      ints,
      c.from.ensures,
      c.from-in-len4-up.ensures,
      c.high_of.ensures.value,
      c.high_of.ensures.least,
      c.high_of.ensures.greatest,
      c.demand_of.ensures.value,
      c.demand_of.ensures.least,
      c.demand_of.ensures.most,
    )) (omega (
      arith,
      ints,
      c.low_of.ensures.value,
      c.low_of.ensures.least,
      c.low_of.ensures.greatest,
    ))
