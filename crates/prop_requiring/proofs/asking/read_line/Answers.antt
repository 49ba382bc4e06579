use Rattle.std.proofs.Common.{arith, sym}
use Rattle.prop_requiring.proofs.AskLemmas.{no_name, plain, under_name}
use Rattle.prop_requiring.proofs.asking.read_line.Goals as goal

pub returns-in_default-clause-ok : goal.returns-in_default-clause-ok
returns-in_default-clause-ok c =
    plain c.args.behind.now _ (omega arith) (sym c.in_default.ensures) c.trimmed.ensures

pub returns-in-Ok-clause-ok : goal.returns-in-Ok-clause-ok
returns-in-Ok-clause-ok c =
    under_name c.args.behind.now _ _ _ (omega arith) (sym c.in-Some.ensures) c.in-Ok.ensures.ok.0
    c.in-Ok.ensures.ok.1

pub returns-in-Err-clause-err : goal.returns-in-Err-clause-err
returns-in-Err-clause-err c =
    no_name c.args.behind.now _ _ _ (omega arith) (sym c.in-Some.ensures) c.in-Err.ensures.err.0
    c.in-Err.ensures.err.1
