use Rattle.std.proofs.Common.{arith}
use Rattle.prop_procedures.specs.Kept.{stored_of}
use Rattle.prop_plans.specs.Held.{attached_of}
use Rattle.prop_deriving.proofs.StayLemmas.{literal_at, some_at, stays_by, stays_from, stays_narrowed, stays_over}
use Rattle.prop_deriving.proofs.derivation.Derivation.by_side.Goals as goal

pub returns-then-literal-sided : goal.returns-then-literal-sided
returns-then-literal-sided g c =
    let basis = c.args.basis.now in
    let library = stored_of g.R.Rule.value_of basis.network.now.library in
    let n = attached_of basis.network.now.cells in
    let choices = basis.choices.now in
    let root = basis.root.now in
    let slots = basis.store.now in
    let d = c.data-cells.result.now in
    let old = c.self.inside.nogood in
    let new = c.by_side.new.self in
    let step = c.by_side.ensures in
    let x = some_at d.statements c.in-Some.sided.now.statement (omega arith) in
    stays_from library n choices root slots c.args.self.now old new c.self.view_is
    (stays_over library d basis.network.now.cells choices root slots old new c.data-cells.ensures
    (stays_by library (attached_of d) choices root slots c.by_side.result old new step.err step.still
    (λ t. stays_narrowed library (attached_of d) choices root slots old new (step.narrows library)
    (step.step t x.0 x.1).2.premises)))

pub returns : goal.returns
returns g c =
    let basis = c.args.basis.now in
    let library = stored_of g.R.Rule.value_of basis.network.now.library in
    let n = attached_of basis.network.now.cells in
    let choices = basis.choices.now in
    let root = basis.root.now in
    let slots = basis.store.now in
    let d = c.data-cells.result.now in
    let old = c.self.inside.nogood in
    let new = c.by_barred_side.new.self in
    let step = c.by_barred_side.ensures in
    let x = some_at d.statements c.in-Some.sided.now.statement (omega arith) in
    let y = literal_at c.args.self.now old c.args.at c.self.view_is c.in-Some-literal.ensures.within in
    stays_from library n choices root slots c.args.self.now old new c.self.view_is
    (stays_over library d basis.network.now.cells choices root slots old new c.data-cells.ensures
    (stays_by library (attached_of d) choices root slots c.by_barred_side.result old new step.err step.still
    (λ t. stays_narrowed library (attached_of d) choices root slots old new (step.narrows library)
    (step.step t x.0 y.0 x.1 y.1).premises)))
