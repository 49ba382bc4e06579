use Rattle.std.proofs.Common.{◌≡◌, ◌∙◌, List, ℕ, Contains, ap, rules, sym, subst}
use Rattle.std.specs.List.Sorted.{IsStrictlyIncreasing}
use Rattle.prop_hitting.specs.Cheapest.{AreCheapest}
use Rattle.prop_conflicts.proofs.CheapestLemmas.{are_cheapest_in, have_one}
use Rattle.prop_conflicts.proofs.explorer.Explorer.cheapest.Goals.{then-listed, else-listed}
use Rattle.prop_conflicts.proofs.explorer.Explorer.cheapest.Goals as goal

pub returns-clause-repairs : goal.returns-clause-repairs
returns-clause-repairs c = λ g h.
    let e = c.args.self.now in
    let found = c.in_ok-listed.listed.sets.items in
    are_cheapest_in g e.conflicts.items e.repairs.items h.knows.conflicts_are h.knows.repairs_are c.args.weights.now
    c.bound.result found (c.bound.ensures g h)
    (subst (λ (all : List (List ℕ)). AreCheapest all c.args.weights.now c.bound.result found) c.deref.ensures.value
    c.in_ok-listed.ensures.cheapest)
    (subst (λ (all : List (List ℕ)). (r : List ℕ) → Contains all r → IsStrictlyIncreasing r) c.deref.ensures.value
    c.in_ok-listed.ensures.ordered)

pub returns-clause-all : goal.returns-clause-all
returns-clause-all c = elim c.if-listed.branch [
  | then-listed w ↦ λ t g h.
      let e = c.args.self.now in
      let found = c.in_ok-listed.listed.sets.items in
      have_one g e.conflicts.items e.repairs.items h.knows.conflicts_are h.knows.repairs_are found
      (h.knows.over (sym w.are_all-is ∙ t))
      (subst (λ (all : List (List ℕ)). (r : List ℕ) → Contains all r → Contains found r) c.deref.ensures.value
      (c.in_ok-listed.ensures.all w.if-listed.true))
  | else-listed w ↦ λ t. let none = w.are_all-is in cc (t, none)
]
