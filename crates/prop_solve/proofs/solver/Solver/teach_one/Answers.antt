use Rattle.std.proofs.Common.{subst}
use Rattle.prop_learned.specs.Stores.{IsKeptIn}
use Rattle.prop_solve.specs.Searches.{Search}
use Rattle.prop_solve.proofs.EarlierLemmas.{kept_in, kept_never, teaches_one}
use Rattle.prop_spread.proofs.Refusals.{on_ok_more}
use Rattle.prop_solve.proofs.solver.Solver.teach_one.Goals as goal

pub returns-in_ok-with_more-in-Some : goal.returns-in_ok-with_more-in-Some
returns-in_ok-with_more-in-Some c =
    let s = c.args.self.now in
    let g = c.in-Some.nogood.now in
    let h = c.in_ok-with_more-in-Some.field-0 in
    let P : Search → Type 0 = λ x. IsKeptIn x.spread.nogoods g in
    let kept = subst P c.self.view_is (kept_in c.self.inside.spread.nogoods c.args.number g c.in-Some.ensures) in
    on_ok_more c.add.result _ _
    (λ is. teaches_one s c.args.lessons.now c.add.new.self h is
    (kept_never s c.args.more.now g h c.requires.unexcused kept c.in_ok-with_more-in-Some.ensures)) c.add.ensures.ok
