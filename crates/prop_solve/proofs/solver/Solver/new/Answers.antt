use Rattle.std.proofs.Common.{ℕ, List, subst, sym}
use Rattle.prop_numbers.specs.Sets.{IsPart, set_of}
use Rattle.prop_premises.specs.Origins.{believed_in}
use Rattle.prop_procedures.specs.Kept.{stored_of}
use Rattle.prop_solve.specs.Searches.{IsSearch}
use Rattle.prop_solve.proofs.solver.Solver.new.Goals as goal

pub start-requires-clause-search : goal.start-requires-clause-search
start-requires-clause-search g c =
    let P : List ℕ → Type 0 = λ r. IsPart (set_of r) (believed_in c.args.premises.now) in
    let network = c.args.network.now in
    subst (IsSearch (stored_of g.R.Rule.value_of network.library) network.cells c.args.premises.now)
    (sym c.in_ok-solver.ensures) (record {
      root = subst P (sym c.in_ok-spread.ensures.root) c.in_ok-root.ensures;
      nogoods = λ x k. absurd (c.in_ok-spread.ensures.nogoods x k);
      learning = tt;
      proposal = tt;
      refuted = tt;
    })
