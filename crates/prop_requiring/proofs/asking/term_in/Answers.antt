use Rattle.prop_requiring.proofs.DefineLemmas.{read_refused}
use Rattle.prop_requiring.proofs.asking.term_in.Goals as goal

pub returns-in-Err-clause-err : goal.returns-in-Err-clause-err
returns-in-Err-clause-err c =
    read_refused c.args.sort c.args.text.now c.in-Err.fault.refusal c.in-Err.ensures.err
