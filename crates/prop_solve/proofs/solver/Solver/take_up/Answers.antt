use Rattle.std.proofs.Common.{◌≡◌, ◌∙◌, All, Contains, IfSome, List, Option, ap, subst, sym}
use Rattle.std.proofs.lemmas.List.Elements.{All-contains, Contains-get_or}
use Rattle.prop_premises.specs.Origins.{believed_in, choices_of}
use Rattle.prop_procedures.specs.Kept.{stored_of}
use Rattle.prop_cells.specs.Data.{Data}
use Rattle.prop_plans.specs.Held.{attached_of}
use Rattle.prop_refuting.specs.Nogoods.{Nogood}
use Rattle.prop_lessons.specs.Lessons.{AreTaught, Stands, Taught}
use Rattle.prop_solve.specs.Searches.{IsSearch, Search}
use Rattle.prop_solve.proofs.EarlierLemmas.{recalls_search}
use Rattle.prop_solve.proofs.SearchLemmas.{asks_along}
use Rattle.prop_solve.proofs.solver.Solver.take_up.Goals as goal

pub loop-nogood-init : goal.loop-nogood-init
loop-nogood-init g c =
    let library = stored_of g.R.Rule.value_of c.args.network.now.library in
    let P : Search → Type 0 = IsSearch library c.args.network.now.cells c.args.premises.now in
    let e = c.expect.ensures in (
      subst P (sym e) c.requires.search,
      record { goal = ap (λ (s : Search). s.goal) e; named = ap (λ (s : Search). s.named) e },
      ap (λ (s : Search). s.excuses) e,
    )

pub loop-nogood-preserved : goal.loop-nogood-preserved
loop-nogood-preserved g c =
    let library = stored_of g.R.Rule.value_of c.args.network.now.library in
    let d = c.args.network.now.cells in
    let premises = c.args.premises.now in
    let xs = c.deref-nogood-items.result.now in
    let x = c.nogood-item.result in
    let old = c.loop-nogood.self in
    let new = c.recall-in-loop-nogood.new.self in
    let P : Option _ → Type 0 = λ o. IfSome o (λ e. AreTaught library e.now) in
    let Q : Taught → Type 0 = AreTaught library in
    let R : Data → Type 0 = λ e. All (Stands library (attached_of e) (choices_of premises) (believed_in premises))
    c.in_ok-recalled.recalled.items in
    let Stand : Nogood → Type 0 = Stands library (attached_of d) (choices_of premises) (believed_in premises) in
    let S : List Nogood → Type 0 = All Stand in
    let T : Nogood → Type 0 = Contains xs in
    let taught = subst Q (sym c.earlier.view_is) (subst P c.in-Some.is c.requires.taught) in
    let stand = subst S (sym c.deref-nogood-items.ensures.value)
    (subst R c.data.ensures (c.in_ok-recalled.ensures library taught)) in
    let there = subst T (sym c.nogood-item.is)
    (Contains-get_or xs c.loop-nogood.nogood-index x c.loop-nogood-test.true) in
    let r = c.in_ok-recall.ensures in
    let i = c.loop-nogood.invariant in (
      recalls_search library d premises old new x (All-contains Stand xs x stand there) r i.0,
      asks_along c.args.self.now old new i.1
          (record { goal = ap (λ (s : Search). s.goal) r.others; named = ap (λ (s : Search). s.named) r.others }),
      ap (λ (s : Search). s.excuses) r.others ∙ i.2,
    )

pub returns-clause-search : goal.returns-clause-search
returns-clause-search g c = c.loop-nogood.invariant.0

pub returns-clause-asks : goal.returns-clause-asks
returns-clause-asks g c = c.loop-nogood.invariant.1

pub returns-clause-excuses : goal.returns-clause-excuses
returns-clause-excuses g c = c.loop-nogood.invariant.2
