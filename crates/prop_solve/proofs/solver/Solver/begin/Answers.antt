use Rattle.std.proofs.Common.{◌∙◌, ap, subst, sym}
use Rattle.prop_premises.specs.Origins.{believed_in, choices_of}
use Rattle.prop_procedures.specs.Kept.{stored_of}
use Rattle.prop_plans.specs.Held.{attached_of}
use Rattle.prop_solve.specs.Searches.{IsSearch}
use Rattle.prop_solve.proofs.SearchLemmas.{all_follow, with_learning, with_spread}
use Rattle.prop_solve.proofs.solver.Solver.begin.Goals as goal

pub returns-clause-search : goal.returns-clause-search
returns-clause-search g c =
    let library = stored_of g.R.Rule.value_of c.args.network.now.library in
    let d = c.args.network.now.cells in
    let premises = c.args.premises.now in
    let s = subst (IsSearch library d premises) (sym (c.self.view_is ∙ c.count_contradiction.ensures))
    c.requires.search in
    let p = c.take_clash.new.self in
    let s1 = with_spread library d premises _ p c.take_clash.ensures.same s in
    let r = c.ground-ground.result in
    let e = c.ground-ground.ensures in
    let o = c.in_ok-self-inside.field-0 in
    let k = all_follow library (attached_of d) (choices_of premises) (believed_in premises) _ p.root p.nogoods
    s1.root s1.nogoods (stored_of g.R.Rule.value_of r.network.now.library) (attached_of r.network.now.cells)
    r.choices.now r.root.now r.store.now (ap (λ n. stored_of g.R.Rule.value_of n.library) e.network)
    (ap (λ n. attached_of n.cells) e.network) e.choices e.root e.nogoods o c.in_ok-self-inside.ensures in
    let h = with_learning library d premises _ o k s1 in h
