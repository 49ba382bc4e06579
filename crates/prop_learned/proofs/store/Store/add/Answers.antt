use Rattle.prop_learned.proofs.store.Store.add.Goals as goal

pub returns-in_err-watch_both-clause-from : goal.returns-in_err-watch_both-clause-from
returns-in_err-watch_both-clause-from c = rw c.in_err-watch_both.ensures c.in_ok-number.ensures.from

pub returns-in_err-watch_both-clause-kept : goal.returns-in_err-watch_both-clause-kept
returns-in_err-watch_both-clause-kept c = rw c.in_err-watch_both.ensures c.in_ok-number.ensures.kept

pub returns-clause-from : goal.returns-clause-from
returns-clause-from c = rw c.in_ok-watch_both.ensures c.in_ok-number.ensures.from

pub returns-clause-kept : goal.returns-clause-kept
returns-clause-kept c = rw c.in_ok-watch_both.ensures c.in_ok-number.ensures.kept
