use Rattle.std.proofs.Common.{◌∙◌, ap, refl, sym}
use Rattle.prop_procedures.specs.Kept.{stored_of}
use Rattle.prop_solve.specs.Searches.{Search}
use Rattle.prop_solve.proofs.SearchLemmas.{asks_along, found_along, refutes}
use Rattle.prop_solve.proofs.solver.Solver.advance.Goals as goal

pub loop-init : goal.loop-init
loop-init g c =
    (c.requires.search, record { goal = refl; named = refl }, refl)

pub returns-in-Some-clause-answer : goal.returns-in-Some-clause-answer
returns-in-Some-clause-answer g c =
    let library = stored_of g.R.Rule.value_of c.args.network.now.library in
    let d = c.args.network.now.cells in
    let premises = c.args.premises.now in
    let i = c.loop.invariant in
    refutes library d premises c.args.self.now c.loop.self i.0 i.2 c.in-Some.refuted c.in_ok-copy.field-0
    (ap (λ (x : Search). x.refuted) (sym c.self-in-loop.view_is) ∙ c.in-Some.is) c.in_ok-copy.ensures

pub returns-in-Some-2-clause-answer : goal.returns-in-Some-2-clause-answer
returns-in-Some-2-clause-answer g c =
    let library = stored_of g.R.Rule.value_of c.args.network.now.library in
    let d = c.args.network.now.cells in
    let premises = c.args.premises.now in
    let i = c.loop.invariant in
    let f = rw c.in-Some-2.is at c.in_ok-plan.ensures.found in
    let h = found_along library d premises c.args.self.now c.loop.self c.step.new.self c.in-Some-2.plan.values.items
    c.in-Some-2.plan.sides.items i.1 i.2 f in h

pub loop-preserved : goal.loop-preserved
loop-preserved g c =
    let library = stored_of g.R.Rule.value_of c.args.network.now.library in
    let d = c.args.network.now.cells in
    let premises = c.args.premises.now in
    let i = c.loop.invariant in
    let e = rw c.in_default-2.is at c.in_ok-plan.ensures.found in (
      c.in_ok-plan.ensures.search,
      asks_along c.args.self.now c.loop.self c.step.new.self i.1 c.in_ok-plan.ensures.asks,
      e ∙ i.2,
    )
