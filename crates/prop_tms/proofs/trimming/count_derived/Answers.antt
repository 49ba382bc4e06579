use Rattle.std.proofs.Common.{◌+◌, List, ℕ, Bool, take, not, arith}
use Rattle.prop_numbers.specs.Sets.{set_of, is_at_most_one_of}
use Rattle.prop_tms.proofs.ValueLemmas.{entries_of-take, filter_length, filtered_more}
use Rattle.prop_tms.specs.Values.{entries_of}
use Rattle.prop_tms.proofs.trimming.count_derived.Goals as goal

pub overflow_add-count : goal.overflow_add-count
overflow_add-count g c =
    let xs = c.args.values.now in
    let i = c.loop-valued.valued-index in
    let u : List ℕ → Bool = λ s. not (is_at_most_one_of (set_of c.args.told.now) s) in
    let more = filtered_more u xs i c.valued-item.result c.loop-valued-test.true c.valued-item.is in
    let less = filter_length (λ e. u e.support) (entries_of (take (i + 1) xs)) in
    let all = entries_of-take xs (i + 1) in
    let one = rw c.deref.ensures at c.derived_in-count.ensures in
    omega (arith, more, less, all, one, c.loop-valued.invariant, c.requires)

pub loop-valued-preserved : goal.loop-valued-preserved
loop-valued-preserved g c =
    let u : List ℕ → Bool = λ s. not (is_at_most_one_of (set_of c.args.told.now) s) in
    let more = filtered_more u c.args.values.now c.loop-valued.valued-index c.valued-item.result c.loop-valued-test.true
    c.valued-item.is in
    let one = rw c.deref.ensures at c.derived_in-count.ensures in
    omega (arith, more, one, c.loop-valued.invariant)
