use Rattle.std.proofs.Common.{◌<◌, ◌∙◌, [], length, subst, sym}
use Rattle.prop_procedures.specs.Kept.{stored_of}
use Rattle.prop_plans.specs.Held.{attached_of}
use Rattle.prop_refuting.specs.Nogoods.{Nogood}
use Rattle.prop_deriving.proofs.StayLemmas.{stays_by, stays_from, stays_over, stays_under, stays_where}
use Rattle.prop_deriving.proofs.derivation.Derivation.by_root.Goals as goal

pub returns-then-by_kind : goal.returns-then-by_kind
returns-then-by_kind g c =
    let basis = c.args.basis.now in
    let library = stored_of g.R.Rule.value_of basis.network.now.library in
    let n = attached_of basis.network.now.cells in
    let choices = basis.choices.now in
    let root = basis.root.now in
    let slots = basis.store.now in
    let d = c.data.result.now in
    let old = c.self.inside.nogood in
    let new = c.by_kind.new.self in
    let step = c.by_kind.ensures in
    stays_from library n choices root slots c.args.self.now old new c.self.view_is
    (stays_over library d basis.network.now.cells choices root slots old new c.data.ensures
    (stays_where library (attached_of d) choices root slots c.by_kind.result c.args.at [] old new step.still step.step
    (step.narrows library)))

pub by_belief-requires-clause-at : goal.by_belief-requires-clause-at
by_belief-requires-clause-at g c = let P : Nogood → Type 0 = λ k. c.args.at < length k.literals in
    subst P (sym (c.if-by_kind.ensures.still ∙ c.self.view_is)) c.in-Some.ensures.within

pub returns : goal.returns
returns g c =
    let basis = c.args.basis.now in
    let library = stored_of g.R.Rule.value_of basis.network.now.library in
    let n = attached_of basis.network.now.cells in
    let choices = basis.choices.now in
    let root = basis.root.now in
    let slots = basis.store.now in
    let old = c.by_kind.new.self in
    let new = c.by_belief.new.self in
    let step = c.by_belief.ensures in
    stays_from library n choices root slots c.args.self.now old new (c.if-by_kind.ensures.still ∙ c.self.view_is)
    (stays_by library n choices root slots c.by_belief.result old new step.err step.still
    (λ t. let s = step.step t in
    stays_under library n choices root slots old new s.0 (step.narrows choices) s.1 s.2.premises))
