use Rattle.std.proofs.Common.{Some, subst, sym}
use Rattle.prop_procedures.specs.Kept.{stored_of}
use Rattle.prop_solve.specs.Searches.{IsSearch}
use Rattle.prop_solve.proofs.SearchLemmas.{proposed_on, with_proposal}
use Rattle.prop_solve.proofs.solver.Solver.check.Goals as goal

pub returns-in-Cut-clause-search : goal.returns-in-Cut-clause-search
returns-in-Cut-clause-search g c =
    let library = stored_of g.R.Rule.value_of c.args.network.now.library in
    let d = c.args.network.now.cells in
    let premises = c.args.premises.now in
    let s = subst (IsSearch library d premises) (sym c.self.view_is) c.requires.search in
    let p = c.go_on-progress.new.self in
    let proposed = proposed_on library d premises c.args.proposal p c.go_on-progress.ensures.others
    c.go_on-progress.ensures.under_way c.requires.proposed in
    let h = with_proposal library d premises _ (Some p) proposed s in h
