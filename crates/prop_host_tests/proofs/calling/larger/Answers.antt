use Rattle.prop_host_tests.proofs.Calls.{spans_call}
use Rattle.prop_host_tests.proofs.calling.larger.Goals as goal

pub call-requires-clause-call : goal.call-requires-clause-call
call-requires-clause-call c = let e = c.in_ok-ins.ensures.ok in let i = c.new-maxer.ensures.ins in let n =
    c.new-maxer.ensures.need in rw (i, e, n) (spans_call c.args.x c.args.y)
