use Rattle.std.proofs.Common.{◌≡◌, ◌∙◌, ap, length, subst, sym}
use Rattle.prop_procedures.specs.Kept.{stored_of}
use Rattle.prop_cells.specs.Data.{Data, IsKept}
use Rattle.prop_cells.specs.Back.{taken_back}
use Rattle.prop_scheduler.proofs.making.make_all.Goals as goal

pub make_some-requires-clause-kept : goal.make_some-requires-clause-kept
make_some-requires-clause-kept g c = c.requires.kept

pub make_some-requires-clause-cell : goal.make_some-requires-clause-cell
make_some-requires-clause-cell g c = c.cells.ensures.count

pub make_some-requires-clause-param : goal.make_some-requires-clause-param
make_some-requires-clause-param g c = ap length c.params.ensures ∙ ap (λ (d : Data). length d.params) c.data.ensures

pub make_some-requires-clause-may : goal.make_some-requires-clause-may
make_some-requires-clause-may g c = c.requires.may

pub make_some-requires-clause-few_cells : goal.make_some-requires-clause-few_cells
make_some-requires-clause-few_cells g c = c.requires.few_cells

pub make_some-requires-clause-few_instances : goal.make_some-requires-clause-few_instances
make_some-requires-clause-few_instances g c = c.requires.few_instances

pub back-requires : goal.back-requires
back-requires g c =
    let d = c.args.network.now.cells in
    let new = c.make_some.new.network.cells in
    let count : length c.params.result.now ≡ length d.params = ap length c.params.ensures
    ∙ ap (λ (d : Data). length d.params) c.data.ensures in
    let back : taken_back c.cells.result (length c.params.result.now) c.instances.result new ≡ d =
    (λ i. taken_back (c.cells.ensures.count i) (count i) (c.instances.ensures.count i) new)
    ∙ c.make_some.ensures.back in
    record {
      kept = subst (IsKept (stored_of g.R.Rule.value_of c.make_some.new.network.library)) (sym back)
          (rw c.make_some.ensures.same c.requires.kept);
    }

pub returns-in-Ok-clause-same : goal.returns-in-Ok-clause-same
returns-in-Ok-clause-same g c = c.make_some.ensures.same

pub returns-in-Ok-clause-kept : goal.returns-in-Ok-clause-kept
returns-in-Ok-clause-kept g c = c.make_some.ensures.kept

pub returns-in-Ok-clause-ok : goal.returns-in-Ok-clause-ok
returns-in-Ok-clause-ok g c = c.in-Ok.ensures.ok

pub returns-in-Ok-clause-err : goal.returns-in-Ok-clause-err
returns-in-Ok-clause-err g c = tt

pub returns-in-Ok-clause-err_same : goal.returns-in-Ok-clause-err_same
returns-in-Ok-clause-err_same g c = tt

pub returns-in-Err-clause-same : goal.returns-in-Err-clause-same
returns-in-Err-clause-same g c = c.back.ensures.same ∙ c.make_some.ensures.same

pub returns-in-Err-clause-kept : goal.returns-in-Err-clause-kept
returns-in-Err-clause-kept g c = c.back.ensures.kept

pub returns-in-Err-clause-ok : goal.returns-in-Err-clause-ok
returns-in-Err-clause-ok g c = tt

pub returns-in-Err-clause-err : goal.returns-in-Err-clause-err
returns-in-Err-clause-err g c = c.in-Err.ensures.err

pub returns-in-Err-clause-err_same : goal.returns-in-Err-clause-err_same
returns-in-Err-clause-err_same g c =
    let d = c.args.network.now.cells in
    let new = c.make_some.new.network.cells in
    let count : length c.params.result.now ≡ length d.params = ap length c.params.ensures
    ∙ ap (λ (d : Data). length d.params) c.data.ensures in
    let back : taken_back c.cells.result (length c.params.result.now) c.instances.result new ≡ d =
    (λ i. taken_back (c.cells.ensures.count i) (count i) (c.instances.ensures.count i) new)
    ∙ c.make_some.ensures.back in
    c.back.ensures.back ∙ back
