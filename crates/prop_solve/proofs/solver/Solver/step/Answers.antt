use Rattle.std.proofs.Common.{subst, sym}
use Rattle.prop_procedures.specs.Kept.{stored_of}
use Rattle.prop_solve.specs.Searches.{IsSearch}
use Rattle.prop_solve.proofs.SearchLemmas.{if_none, with_learning, with_proposal}
use Rattle.prop_solve.proofs.solver.Solver.step.Goals as goal

pub learn-requires-clause-search : goal.learn-requires-clause-search
learn-requires-clause-search g c =
    let library = stored_of g.R.Rule.value_of c.args.network.now.library in
    let d = c.args.network.now.cells in
    let premises = c.args.premises.now in
    let s = subst (IsSearch library d premises) (sym c.self.view_is) c.requires.search in
    let h = with_learning library d premises _ c.take.new.self
    (if_none c.take.new.self _ c.take.ensures.after) s in h

pub check-requires-clause-search : goal.check-requires-clause-search
check-requires-clause-search g c =
    let library = stored_of g.R.Rule.value_of c.args.network.now.library in
    let d = c.args.network.now.cells in
    let premises = c.args.premises.now in
    let s = subst (IsSearch library d premises) (sym c.self.view_is) c.requires.search in
    let h = with_learning library d premises _ c.take.new.self
    (if_none c.take.new.self _ c.take.ensures.after) s in
    let k = with_proposal library d premises _ c.take-2.new.self
    (if_none c.take-2.new.self _ c.take-2.ensures.after) h in k
