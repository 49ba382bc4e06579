use Rattle.std.proofs.Common.{◌∙◌, [], ap, arith, get_or, map, subst, sym}
use Rattle.std.proofs.lemmas.Result.{err_from_is_err_and}
use Rattle.prop_language.specs.Said.{words}
use Rattle.prop_procedures.specs.inner.Kept.{AllMean-push}
use Rattle.prop_procedures.specs.Kept.{stored_as}
use Rattle.prop_requiring.specs.Answering.{IsRequired}
use Rattle.prop_requiring.proofs.Starting.{required_by_fault}
use Rattle.propwide.specs.Kits.{answer_of, lines_in_order, shown, wide}
use Rattle.propwide.proofs.Making.{stored_made, stored_is, more, all_stored, entry_formed, with_both}
use Rattle.prop_demands.specs.inner.Palettes.{IsPalette}
use Rattle.propwide.proofs.Palette.{wide_palette}
use Rattle.propwide.proofs.running.run.Goals as goal

pub wide-requires-clause-some_inputs : goal.wide-requires-clause-some_inputs
wide-requires-clause-some_inputs g c = rw c.in_ok-ins.ensures.ok
    (entry_formed _ _ _ (ap (map shown) c.deref-entry-items.ensures.value ∙ c.in_ok-made.ensures)
    c.loop-entry-test.true).some

pub wide-requires-clause-few_inputs : goal.wide-requires-clause-few_inputs
wide-requires-clause-few_inputs g c = rw c.in_ok-ins.ensures.ok
    (entry_formed _ _ _ (ap (map shown) c.deref-entry-items.ensures.value ∙ c.in_ok-made.ensures)
    c.loop-entry-test.true).few

pub wide-requires-clause-formed : goal.wide-requires-clause-formed
wide-requires-clause-formed g c = rw (c.in_ok-ins.ensures.ok, c.copied.ensures)
    (entry_formed _ _ _ (ap (map shown) c.deref-entry-items.ensures.value ∙ c.in_ok-made.ensures)
    c.loop-entry-test.true).formed

pub loop-entry-preserved : goal.loop-entry-preserved
loop-entry-preserved g c =
    let p = c.wide.ensures in
    record {
      means = AllMean-push answer_of _ _ _ c.in_ok-push.ensures.items c.loop-entry.invariant.means p.means;
      listed = more (stored_as answer_of) (λ e. stored_made (shown e)) _ _ _ _ _ _ [] c.in_ok-push.ensures.items
          c.loop-entry-test.true
          (stored_is c.wide.result (get_or c.deref-entry-items.result.now c.loop-entry.entry-index _)
          p.name (p.ins ∙ c.in_ok-ins.ensures.ok) p.out p.need (p.rule ∙ c.copied.ensures))
          c.loop-entry.invariant.listed;
    }

pub returns-in_err-prelude : goal.returns-in_err-prelude
returns-in_err-prelude g c =
    let p = err_from_is_err_and c.from_residual.result c.from_residual.ensures.1 in
    required_by_fault g.D.Devices.calls _ wide lines_in_order c.args.options.order c.args.options.seed
    c.args.options.limit _ p.0 p.1 p.2

pub returns-in_err-made : goal.returns-in_err-made
returns-in_err-made g c =
    let p = err_from_is_err_and c.from_residual-in_err-made.result c.from_residual-in_err-made.ensures.1 in
    required_by_fault g.D.Devices.calls _ wide lines_in_order c.args.options.order c.args.options.seed
    c.args.options.limit _ p.0 p.1 p.2

pub returns-in_err-ins : goal.returns-in_err-ins
returns-in_err-ins g c =
    let p = err_from_is_err_and c.from_residual-in_err-ins.result c.from_residual-in_err-ins.ensures.1 in
    required_by_fault g.D.Devices.calls _ wide lines_in_order c.args.options.order c.args.options.seed
    c.args.options.limit _ p.0 p.1 p.2

pub returns-in_err-call : goal.returns-in_err-call
returns-in_err-call g c =
    let p = err_from_is_err_and c.from_residual-in_err-call.result c.from_residual-in_err-call.ensures.1 in
    required_by_fault g.D.Devices.calls _ wide lines_in_order c.args.options.order c.args.options.seed
    c.args.options.limit _ p.0 p.1 p.2

pub returns-in_err-push : goal.returns-in_err-push
returns-in_err-push g c =
    let p = err_from_is_err_and c.from_residual-in_err-push.result c.from_residual-in_err-push.ensures.1 in
    required_by_fault g.D.Devices.calls _ wide lines_in_order c.args.options.order c.args.options.seed
    c.args.options.limit _ p.0 p.1 p.2

pub run-requires : goal.run-requires
run-requires g c =
    let listed = c.loop-entry.invariant.listed ∙ all_stored _ c.loop-entry.entry-index
    (omega (arith, c.loop-entry-test.false)) (ap (map shown) c.deref-entry-items.ensures.value ∙ c.in_ok-made.ensures)
    in
    record { means = c.loop-entry.invariant.means; palette = subst IsPalette (sym listed) wide_palette }

pub returns : goal.returns
returns g c =
    let listed = c.loop-entry.invariant.listed ∙ all_stored _ c.loop-entry.entry-index
    (omega (arith, c.loop-entry-test.false)) (ap (map shown) c.deref-entry-items.ensures.value ∙ c.in_ok-made.ensures)
    in
    with_both (λ library lines. IsRequired library lines c.args.options.order c.args.options.seed c.args.options.limit
    g.D.Devices.calls c.args.devices.now c.run.new.devices c.run.result) _ _ _ _ listed
    (ap words c.deref.ensures.value ∙ c.in_ok-prelude.ensures) c.run.ensures
