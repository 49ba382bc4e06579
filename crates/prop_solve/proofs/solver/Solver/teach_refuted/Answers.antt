use Rattle.std.proofs.Common.{◌∙◌, ap, sym}
use Rattle.prop_solve.specs.Searches.{Search}
use Rattle.prop_solve.proofs.EarlierLemmas.{refuted_never, teaches_one}
use Rattle.prop_spread.proofs.Refusals.{on_ok_more}
use Rattle.prop_solve.proofs.solver.Solver.teach_refuted.Goals as goal

pub returns : goal.returns
returns c =
    let s = c.args.self.now in
    let some = ap (λ (x : Search). x.refuted) (sym c.self.view_is) ∙ c.in-Some.is in
    let is = c.new.ensures
    ∙ (λ i. record { literals = c.in_ok-literals.ensures.items i; premises = c.in_ok-copy.ensures i }) in
    on_ok_more c.add.result _ _
    (λ e. teaches_one s c.args.lessons.now c.add.new.self c.new.result e
    (refuted_never s c.args.more.now c.in-Some.premises c.new.result c.requires.unexcused some is)) c.add.ensures.ok
