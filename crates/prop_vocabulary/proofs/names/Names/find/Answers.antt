use Rattle.std.proofs.Common.{None, Some, arith}
use Rattle.prop_vocabulary.proofs.Lookups.{found_first, found_behind}
use Rattle.prop_vocabulary.proofs.names.Names.find.Goals as goal

pub returns-in_err-number-in-None-clause-number : goal.returns-in_err-number-in-None-clause-number
returns-in_err-number-in-None-clause-number c = rw (c.from_residual.ensures, ← c.self.view_is)
    (found_behind c.self.inside.hashed.keys c.self.inside.sorted c.args.name.now c.get_index_of.result None
    c.get_index_of.ensures.index c.in-None.is c.in_err-number-in-None.ensures.number)

pub overflow_add-result : goal.overflow_add-result
overflow_add-result c = omega (
  arith,
  c.len.ensures.small,
  c.in_ok-number-in-None.ensures.within,
  c.find.ensures.small,
)

pub returns-in-Some-clause-number : goal.returns-in-Some-clause-number
returns-in-Some-clause-number c = rw (← c.self.view_is)
    (found_first c.self.inside.hashed.keys c.self.inside.sorted c.args.name.now c.get_index_of.result c.in-Some.number
    c.get_index_of.ensures.index c.in-Some.is)

pub returns-in_ok-number-in-None-clause-number : goal.returns-in_ok-number-in-None-clause-number
returns-in_ok-number-in-None-clause-number c = rw (← c.self.view_is, c.len.ensures.len)
    (found_behind c.self.inside.hashed.keys c.self.inside.sorted c.args.name.now c.get_index_of.result
    (Some c.in_ok-number-in-None.number) c.get_index_of.ensures.index c.in-None.is
    c.in_ok-number-in-None.ensures.number)
