use Rattle.std.proofs.Common.{Some, Contains, subst, sym}
use Rattle.prop_premises.specs.Origins.{believed_in, choices_of}
use Rattle.prop_procedures.specs.Kept.{stored_of}
use Rattle.prop_plans.specs.Held.{attached_of}
use Rattle.prop_solve.specs.Searches.{IsSearch, Search}
use Rattle.prop_solve.proofs.SearchLemmas.{excused_known, with_learning}
use Rattle.prop_solve.proofs.solver.Solver.begin_excused.Goals as goal

pub returns-clause-search : goal.returns-clause-search
returns-clause-search g c =
    let library = stored_of g.R.Rule.value_of c.args.network.now.library in
    let d = c.args.network.now.cells in
    let premises = c.args.premises.now in
    let s = subst (IsSearch library d premises) (sym c.self.view_is) c.requires.search in
    let facts = c.args.facts.items in
    let P : Search → Type 0 = λ x. Contains x.excuses facts in
    let p = c.self.inside.spread in
    let nogood = c.excused-nogood.result in
    let begun = c.in_ok-of_nogood.field-0 in
    let known = excused_known library d premises _ nogood facts (subst P (sym c.self.view_is) c.requires.excused)
    c.excused-nogood.ensures.facts c.excused-nogood.ensures.excused in
    let stays = c.in_ok-of_nogood.ensures library (attached_of d) (choices_of premises) p.root p.nogoods in
    let h = with_learning library d premises _ (Some begun)
    (stays.known (believed_in premises) _ s.root s.nogoods known) s in h
