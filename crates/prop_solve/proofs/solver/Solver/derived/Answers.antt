use Rattle.std.proofs.Common.{◌∙◌, ap, subst, sym}
use Rattle.prop_premises.specs.Origins.{believed_in, choices_of}
use Rattle.prop_procedures.specs.Kept.{stored_of}
use Rattle.prop_plans.specs.Held.{attached_of}
use Rattle.prop_refuting.specs.Nogoods.{Nogood}
use Rattle.prop_deriving.proofs.StayLemmas.{follows_some}
use Rattle.prop_spread.specs.Spreads.{Spread}
use Rattle.prop_solve.proofs.SearchLemmas.{Known, stays_known}
use Rattle.prop_solve.proofs.solver.Solver.derived.Goals as goal

pub loop-init : goal.loop-init
loop-init g c =
    let library = stored_of g.R.Rule.value_of c.args.network.now.library in
    let premises = c.args.premises.now in
    let s = c.requires.search in
    let p = c.args.self.now.spread in
    let first = follows_some c.in_ok-learning.field-0 c.in-Some-2.learning c.in-Some-2.is c.in_ok-learning.ensures in
    (first library (attached_of c.args.network.now.cells) (choices_of premises) p.root p.nogoods).known
    (believed_in premises) c.args.self.now.excuses s.root s.nogoods

pub loop-preserved : goal.loop-preserved
loop-preserved g c =
    let library = stored_of g.R.Rule.value_of c.args.network.now.library in
    let d = c.args.network.now.cells in
    let premises = c.args.premises.now in
    let s = c.requires.search in
    let p = c.args.self.now.spread in
    let r = c.ground-ground.result in
    let e = c.ground-ground.ensures in
    stays_known library (attached_of d) (choices_of premises) (believed_in premises) c.args.self.now.excuses
    p.root p.nogoods s.root s.nogoods (stored_of g.R.Rule.value_of r.network.now.library)
    (attached_of r.network.now.cells) r.choices.now r.root.now r.store.now
    (ap (λ n. stored_of g.R.Rule.value_of n.library) e.network) (ap (λ n. attached_of n.cells) e.network) e.choices
    (e.root ∙ ap (λ (x : Spread). x.root) c.spread.ensures)
    (e.nogoods ∙ ap (λ (x : Spread). x.nogoods) c.spread.ensures)
    c.loop.learning c.step.new.self c.step.ensures c.loop.invariant

pub returns-in-Learned : goal.returns-in-Learned
returns-in-Learned g c =
    let library = stored_of g.R.Rule.value_of c.args.network.now.library in
    let d = c.args.network.now.cells in
    let premises = c.args.premises.now in
    let s = c.requires.search in
    let p = c.args.self.now.spread in
    let r = c.ground-ground.result in
    let e = c.ground-ground.ensures in
    let P : Nogood → Type 0 = Known library d premises c.args.self.now.excuses in
    subst P (sym c.into_nogood.ensures)
    (stays_known library (attached_of d) (choices_of premises) (believed_in premises) c.args.self.now.excuses
    p.root p.nogoods s.root s.nogoods (stored_of g.R.Rule.value_of r.network.now.library)
    (attached_of r.network.now.cells) r.choices.now r.root.now r.store.now
    (ap (λ n. stored_of g.R.Rule.value_of n.library) e.network) (ap (λ n. attached_of n.cells) e.network) e.choices
    (e.root ∙ ap (λ (x : Spread). x.root) c.spread.ensures)
    (e.nogoods ∙ ap (λ (x : Spread). x.nogoods) c.spread.ensures)
    c.loop.learning c.step.new.self c.step.ensures c.loop.invariant)
