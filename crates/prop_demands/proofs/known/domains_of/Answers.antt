use Rattle.std.proofs.Common.{arith}
use Rattle.prop_procedures.specs.Stored.{span_kind}
use Rattle.prop_demands.proofs.known.domains_of.Goals as goal

pub domain_after-requires : goal.domain_after-requires
domain_after-requires c = rw c.kind.ensures
    (c.requires c.loop-cell.cell span_kind (omega (arith, c.loop-cell-test.true, c.len-cell-end.ensures.count)))
