use Rattle.std.proofs.Common.{Some, ap, subst, sym}
use Rattle.prop_premises.specs.Origins.{believed_in, choices_of}
use Rattle.prop_procedures.specs.Kept.{stored_of}
use Rattle.prop_plans.specs.Held.{attached_of}
use Rattle.prop_solve.specs.Searches.{IsSearch, Search}
use Rattle.prop_solve.proofs.SearchLemmas.{Known, stays_known, with_learning}
use Rattle.prop_solve.proofs.solver.Solver.learn.Goals.{in-Some-1, in-None-1}
use Rattle.prop_solve.proofs.solver.Solver.learn.Goals as goal

pub take_in-requires-clause-known : goal.take_in-requires-clause-known
take_in-requires-clause-known g c =
    let library = stored_of g.R.Rule.value_of c.args.network.now.library in
    let d = c.args.network.now.cells in
    let premises = c.args.premises.now in
    let s = subst (IsSearch library d premises) (sym c.self.view_is) c.requires.search in
    let r = c.ground-ground.result in
    let e = c.ground-ground.ensures in
    let P : Search → Type 0 = λ x. Known library d premises x.excuses c.args.learning in
    let p = c.self.inside.spread in
    let known = stays_known library (attached_of d) (choices_of premises) (believed_in premises) _ p.root p.nogoods
    s.root s.nogoods (stored_of g.R.Rule.value_of r.network.now.library)
    (attached_of r.network.now.cells) r.choices.now r.root.now r.store.now
    (ap (λ n. stored_of g.R.Rule.value_of n.library) e.network) (ap (λ n. attached_of n.cells) e.network) e.choices
    e.root e.nogoods c.args.learning c.step.new.self c.step.ensures
    (subst P (sym c.self.view_is) c.requires.known) in
    known

pub returns-in-Going-clause-search : goal.returns-in-Going-clause-search
returns-in-Going-clause-search g c =
    let library = stored_of g.R.Rule.value_of c.args.network.now.library in
    let d = c.args.network.now.cells in
    let premises = c.args.premises.now in
    let s = subst (IsSearch library d premises) (sym c.self.view_is) c.requires.search in
    let r = c.ground-ground.result in
    let e = c.ground-ground.ensures in
    let P : Search → Type 0 = λ x. Known library d premises x.excuses c.args.learning in
    let p = c.self.inside.spread in
    let known = stays_known library (attached_of d) (choices_of premises) (believed_in premises) _ p.root p.nogoods
    s.root s.nogoods (stored_of g.R.Rule.value_of r.network.now.library)
    (attached_of r.network.now.cells) r.choices.now r.root.now r.store.now
    (ap (λ n. stored_of g.R.Rule.value_of n.library) e.network) (ap (λ n. attached_of n.cells) e.network) e.choices
    e.root e.nogoods c.args.learning c.step.new.self c.step.ensures
    (subst P (sym c.self.view_is) c.requires.known) in
    let h = with_learning library d premises _ (Some c.step.new.self) known s in
    let Q : Search → Type 0 = IsSearch library d premises in
    elim c.match-self.branch [
      | in-Some-1 w ↦ subst Q (sym w.self-is) h
      | in-None-1 w ↦ subst Q (sym w.self-is) h
    ]
