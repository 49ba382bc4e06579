use Rattle.std.proofs.Common.{◌+◌, arith}
use Rattle.prop_tms.proofs.ValueLemmas.{count_more, entries_of-take}
use Rattle.prop_tms.proofs.values.count.Goals as goal

pub overflow_add-count : goal.overflow_add-count
overflow_add-count g c =
    let i = c.loop-valued.valued-index in
    let more = count_more c.args.values.now i c.valued-item.result c.loop-valued-test.true c.valued-item.is in
    let all = entries_of-take c.args.values.now (i + 1) in
    omega (arith, more, all, c.loop-valued.invariant, c.requires, c.len-count.ensures)

pub loop-valued-preserved : goal.loop-valued-preserved
loop-valued-preserved g c =
    let more = count_more c.args.values.now c.loop-valued.valued-index c.valued-item.result c.loop-valued-test.true
    c.valued-item.is in
    omega (arith, more, c.loop-valued.invariant, c.len-count.ensures)
