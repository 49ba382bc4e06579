use Rattle.std.proofs.Common.{◌∙◌, ap}
use Rattle.std.proofs.lemmas.Result.{IfOk-weaker}
use Rattle.prop_explain.proofs.reducing.reduce.Goals as goal

pub wake_all-requires : goal.wake_all-requires
wake_all-requires g c = record {
  ready = rw c.explained_least-reduced.ensures.same c.explained_least-reduced.ensures.left.ready;
}

pub returns-clause-ran : goal.returns-clause-ran
returns-clause-ran g c = record {
  library = ap (λ n. n.library) c.wake_all.ensures.network ∙ c.explained_least-reduced.ensures.same;
  rest = rw c.wake_all.ensures.network c.explained_least-reduced.ensures.left.rest;
}

pub returns-clause-tries : goal.returns-clause-tries
returns-clause-tries g c =
    let mid = c.explained_least-reduced.new.live in
    IfOk-weaker c.explained_least-reduced.result _ _
    (λ r tries. (mid.agenda.line, rw c.wake_all.ensures.network tries, c.wake_all.ensures.line))
    c.explained_least-reduced.ensures.tries
