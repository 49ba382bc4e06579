use Rattle.std.proofs.Common.{inl, subst, sym}
use Rattle.prop_procedures.specs.Kept.{stored_of}
use Rattle.prop_solve.specs.Searches.{IsSearch}
use Rattle.prop_spread.proofs.Refusals.{on_ok_more}
use Rattle.prop_solve.proofs.SearchLemmas.{all_proposed, with_nogoods, with_proposal}
use Rattle.prop_solve.proofs.solver.Solver.decide.Goals as goal

pub returns-then-level-gt0-clause-search : goal.returns-then-level-gt0-clause-search
returns-then-level-gt0-clause-search g c =
    let library = stored_of g.R.Rule.value_of c.args.network.now.library in
    let d = c.args.network.now.cells in
    let premises = c.args.premises.now in
    let s = subst (IsSearch library d premises) (sym c.self.view_is) c.requires.search in
    on_ok_more c.restart.result _ _ (λ kept. with_nogoods library d premises _ c.restart.new.self c.restart.ensures.root
    (λ x k. inl (kept x k)) s) c.restart.ensures.kept

pub returns-in_ok-self-inside-in-None-clause-search : goal.returns-in_ok-self-inside-in-None-clause-search
returns-in_ok-self-inside-in-None-clause-search g c =
    let library = stored_of g.R.Rule.value_of c.args.network.now.library in
    let d = c.args.network.now.cells in
    let premises = c.args.premises.now in
    let s = subst (IsSearch library d premises) (sym c.self.view_is) c.requires.search in
    let o = c.in_ok-self-inside-in-None.field-0 in
    let h = with_proposal library d premises _ o
    (all_proposed library d premises o c.in_ok-self-inside-in-None.ensures) s in h
