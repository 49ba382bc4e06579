use Rattle.std.proofs.Common.{arith}
use Rattle.prop_requiring.proofs.DefineLemmas.{defined_is}
use Rattle.prop_requiring.proofs.asking.read_definition.Goals as goal

pub returns-in-Some-clause-ok : goal.returns-in-Some-clause-ok
returns-in-Some-clause-ok c =
    defined_is c.args.behind.now c.in-Some.parts.before.now c.trimmed.result.now c.in-Some.parts.text.now (omega arith)
    c.in-Some.ensures.0 c.in-Some.ensures.1 c.trimmed.ensures
