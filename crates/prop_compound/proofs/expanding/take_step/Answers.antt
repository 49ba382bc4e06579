use Rattle.std.proofs.Common.{length, ap, refl, subst, arith, ◌∙◌}
use Rattle.std.proofs.lemmas.List.{length-map}
use Rattle.std.specs.Prelude.{reverse}
use Rattle.prop_procedures.specs.Flats.{param_at}
use Rattle.prop_compound.specs.declared.definition.Used.TheVariants as uses
use Rattle.prop_compound.specs.declared.definition.NumberedStep.TheVariants.{Use}
use Rattle.prop_compound.specs.Expansion.{param_passed, cell_at, cells_at, use_expanded, definition_expanded}
use Rattle.prop_compound.specs.inner.Flattened.{walk_of}
use Rattle.prop_compound.specs.inner.Frames.{IsOnCells}
use Rattle.prop_compound.proofs.Walking.{use_goes}
use Rattle.prop_compound.proofs.Placing.{mid_same, pushed_means}
use Rattle.prop_compound.proofs.expanding.take_step.Goals as goal

pub placed-requires : goal.placed-requires
placed-requires c =
    let is = c.in-Use.is ∙ ap (λ u. Use u c.in-Use.places c.in-Use.passing) c.in-Procedure.is in
    let some = subst IsOnCells is c.requires.on_cells in
    let chosen = ap length (c.in_ok-cells-in-Use.ensures
    ∙ (λ i. cells_at (c.deref-in-Use.ensures.value i) (c.as_slice.ensures i)))
    ∙ length-map c.in-Use.places (cell_at c.args.frame.now.cells.items) in
    omega (arith, some, chosen)

pub returns-in_ok-push-in-Procedure-clause-steps : goal.returns-in_ok-push-in-Procedure-clause-steps
returns-in_ok-push-in-Procedure-clause-steps c = λ definitions.
    let words = c.args.words.now in
    let old = c.args.walk.now in
    let frame = c.args.frame.now in
    let mid = record old { params = c.param_place.new.params } in
    let new = record mid { instances = c.push.new.self } in
    let more = c.in_ok-given-in-Use.ensures.more in
    let place = c.in_ok-given-in-Use.given in
    let chosen = c.in_ok-cells-in-Use.cells.items in
    use_goes words (definition_expanded (param_passed words) (reverse definitions))
    (param_at old.params.items frame.given) frame.cells.items c.args.step.now (walk_of old) c.in-Use.used
    c.in-Use.places c.in-Use.passing c.in-Use.is _ c.in-Procedure.is chosen
    (c.in_ok-cells-in-Use.ensures ∙ (λ i. cells_at (c.deref-in-Use.ensures.value i) (c.as_slice.ensures i)))
    (param_at mid.params.items place) c.in_ok-given-in-Use.ensures.param (walk_of new)
    (pushed_means old mid more.0 more.1 refl refl refl c.requires.placed new c.placed.result refl
    c.in_ok-push-in-Procedure.ensures.items c.in-Procedure.procedure place chosen refl refl
    c.placed.ensures.procedure c.placed.ensures.param c.placed.ensures.cells)

pub returns-in-Definition-clause-steps : goal.returns-in-Definition-clause-steps
returns-in-Definition-clause-steps c = λ definitions.
    let words = c.args.words.now in
    let old = c.args.walk.now in
    let frame = c.args.frame.now in
    let mid = record old { params = c.param_place.new.params } in
    let more = c.in_ok-given-in-Use.ensures.more in
    let D = definition_expanded (param_passed words) (reverse definitions) in
    let p = param_at mid.params.items c.in_ok-given-in-Use.given in
    let chosen = c.in_ok-cells-in-Use.cells.items in
    use_goes words D (param_at old.params.items frame.given) frame.cells.items c.args.step.now (walk_of old)
    c.in-Use.used c.in-Use.places c.in-Use.passing c.in-Use.is _ c.in-Definition.is chosen
    (c.in_ok-cells-in-Use.ensures ∙ (λ i. cells_at (c.deref-in-Use.ensures.value i) (c.as_slice.ensures i))) p
    c.in_ok-given-in-Use.ensures.param
    (use_expanded D (uses.Definition c.in-Definition.number) chosen p (walk_of mid))
    (ap (use_expanded D (uses.Definition c.in-Definition.number) chosen p)
    (mid_same old mid more.0 more.1 refl refl refl c.requires.placed))
