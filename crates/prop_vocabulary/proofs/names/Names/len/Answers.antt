use Rattle.std.proofs.Common.{arith}
use Rattle.prop_vocabulary.proofs.names.Names.len.Goals as goal

pub overflow_add-result : goal.overflow_add-result
overflow_add-result c = omega (arith, c.len.ensures.small, c.len-2.ensures.small)
