use Rattle.std.proofs.Common.{◌≡◌, ◌∙◌, ap}
use Rattle.prop_numbers.specs.Sets.{set_of}
use Rattle.prop_procedures.specs.Kept.{stored_of}
use Rattle.prop_procedures.specs.inner.Kept.{all_lawful}
use Rattle.prop_contents.specs.Contents.{beliefs}
use Rattle.prop_contents.specs.Changes.{AddsAt, TrimsAt}
use Rattle.prop_cells.specs.Problems.{value_at}
use Rattle.prop_cells.specs.Instances.{constraint_of}
use Rattle.prop_cells.specs.Data.{AddsFrom, Data, told_of}
use Rattle.prop_cells.proofs.Keeping.{calls_new, kept_call, value_fits}
use Rattle.prop_cells.proofs.network.Network.grow.Goals as goal

pub add-requires-clause-of_kind : goal.add-requires-clause-of_kind
add-requires-clause-of_kind g c =
    let library = stored_of g.R.Rule.value_of c.args.self.now.library in
    let x = c.instance-x.result.now in
    let law = all_lawful g.R.Rule.value_of c.args.self.now.library c.requires.means in
    rw (c.output-output.ensures, c.requires.value x c.instance-x.ensures.at)
    (value_fits library c.args.self.now.cells (set_of c.args.worldview.now) c.args.i x law c.requires.kept
    c.instance-x.ensures.at)

pub returns-clause-ok : goal.returns-clause-ok
returns-clause-ok g c =
    let library = stored_of g.R.Rule.value_of c.args.self.now.library in
    let s = set_of c.args.worldview.now in
    let d = c.args.self.now.cells in
    let x = c.instance-x.result.now in
    let v = value_at (constraint_of library x) (beliefs s d.contents) in
    let value : c.args.value ≡ v = c.requires.value x c.instance-x.ensures.at in
    let adds : AddsAt d.contents c.add.new.self.contents x.output
    (record { value = v; support = c.in_ok-support.support }) =
    rw (value, c.output-output.ensures) at c.in_ok-add.ensures.ok in
    let trims : TrimsAt s (told_of d.statements x.output) c.add.new.self.contents c.trim.new.self.contents x.output =
    rw (c.output-output.ensures, ap (λ (e : Data). e.statements) c.in_ok-add.ensures.rest) at c.trim.ensures.trims
    in
    let rest : c.trim.new.self ≡ record d { contents = c.trim.new.self.contents } = c.trim.ensures.rest
    ∙ (λ i. record (c.in_ok-add.ensures.rest i) { contents = c.trim.new.self.contents }) in
    let from : AddsFrom s (told_of d.statements x.output) d.contents c.trim.new.self.contents x.inputs x.output v =
    record {
      support = c.in_ok-support.support;
      supports = c.in_ok-support.ensures;
      between = c.add.new.self.contents;
      adds = adds;
      trims = trims;
    } in
    calls_new library d c.trim.new.self s c.args.i x c.requires.kept c.instance-x.ensures.at rest from
    (rw value at c.requires.more x c.instance-x.ensures.at)

pub returns-clause-kept : goal.returns-clause-kept
returns-clause-kept g c =
    let library = stored_of g.R.Rule.value_of c.args.self.now.library in
    let s = set_of c.args.worldview.now in
    let d = c.args.self.now.cells in
    let x = c.instance-x.result.now in
    let law = all_lawful g.R.Rule.value_of c.args.self.now.library c.requires.means in
    let v = value_at (constraint_of library x) (beliefs s d.contents) in
    let value : c.args.value ≡ v = c.requires.value x c.instance-x.ensures.at in
    let adds : AddsAt d.contents c.add.new.self.contents x.output
    (record { value = v; support = c.in_ok-support.support }) =
    rw (value, c.output-output.ensures) at c.in_ok-add.ensures.ok in
    let trims : TrimsAt s (told_of d.statements x.output) c.add.new.self.contents c.trim.new.self.contents x.output =
    rw (c.output-output.ensures, ap (λ (e : Data). e.statements) c.in_ok-add.ensures.rest) at c.trim.ensures.trims
    in
    let rest : c.trim.new.self ≡ record d { contents = c.trim.new.self.contents } = c.trim.ensures.rest
    ∙ (λ i. record (c.in_ok-add.ensures.rest i) { contents = c.trim.new.self.contents }) in
    let from : AddsFrom s (told_of d.statements x.output) d.contents c.trim.new.self.contents x.inputs x.output v =
    record {
      support = c.in_ok-support.support;
      supports = c.in_ok-support.ensures;
      between = c.add.new.self.contents;
      adds = adds;
      trims = trims;
    } in
    kept_call library d c.trim.new.self s c.args.i x law c.requires.kept c.instance-x.ensures.at rest
    c.trim.ensures.made from
