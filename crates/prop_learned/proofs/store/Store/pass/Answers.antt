use Rattle.prop_learned.proofs.store.Store.pass.Goals as goal

pub returns-in_err-push_passing-clause-from : goal.returns-in_err-push_passing-clause-from
returns-in_err-push_passing-clause-from c = rw c.in_err-push_passing.ensures c.in_ok-number.ensures.from

pub returns-in_err-push_passing-clause-kept : goal.returns-in_err-push_passing-clause-kept
returns-in_err-push_passing-clause-kept c = rw c.in_err-push_passing.ensures c.in_ok-number.ensures.kept

pub returns-clause-from : goal.returns-clause-from
returns-clause-from c = rw c.in_ok-push_passing.ensures c.in_ok-number.ensures.from

pub returns-clause-kept : goal.returns-clause-kept
returns-clause-kept c = rw c.in_ok-push_passing.ensures c.in_ok-number.ensures.kept
