use Rattle.std.proofs.Common.{rules, nat_lt}
use Rattle.std.proofs.lemmas.List.Sorted.{IsPartitionedBy-ltb, IsPartitionPoint-from_clause}
use Rattle.prop_nogoods.specs.inner.Endings.{Group, end_of}
use Rattle.prop_nogoods.proofs.OrderLemmas.{non_decreasing, place_from}
use Rattle.prop_nogoods.proofs.ending.place_for.Goals as goal

pub returns-clause-between : goal.returns-clause-between
returns-clause-between c =
    let gs = c.args.endings.now in
    let end = end_of c.args.last in
    place_from c.args.last gs c.partition_point.result
    (IsPartitionPoint-from_clause (λ (g : Group). nat_lt (end_of g.last) end) gs c.partition_point.result
    c.partition_point.ensures.partitioned
    (IsPartitionedBy-ltb (λ (g : Group). end_of g.last) gs end (non_decreasing gs c.requires))
    (λ a r f k. search rules))
