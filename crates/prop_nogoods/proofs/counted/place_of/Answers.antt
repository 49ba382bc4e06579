use Rattle.std.proofs.Common.{rules, length}
use Rattle.std.proofs.lemmas.List.Sorted.{IsPartitionedBy-leb, IsPartitionPoint-from_clause}
use Rattle.prop_nogoods.proofs.PlaceLemmas.{place_from}
use Rattle.prop_nogoods.proofs.SizeLemmas.{is_small}
use Rattle.prop_nogoods.proofs.counted.place_of.Goals as goal

pub returns-clause-between : goal.returns-clause-between
returns-clause-between c =
    let counted = c.args.counted.now in
    let n = c.args.nogood.now in
    place_from counted n c.partition_point.result
    (IsPartitionPoint-from_clause (is_small n) counted c.partition_point.result c.partition_point.ensures.partitioned
    (IsPartitionedBy-leb length counted (length n) c.requires) (λ a r f k. search rules))
