use Rattle.std.proofs.Common.{[], ◌∙◌, sym, inl, inr}
use Rattle.std.proofs.lemmas.List.{get_or-set_same}
use Rattle.prop_numbers.specs.Sets.{set_of}
use Rattle.prop_contents.proofs.Trimming.{read_there, trims_at, trim_keeps}
use Rattle.prop_contents.proofs.contents.trim_at.Goals as goal

pub returns-then-has_many_derived-clause-trims : goal.returns-then-has_many_derived-clause-trims
returns-then-has_many_derived-clause-trims c =
    let read = read_there c.args.contents.now.items c.args.cell c.index.result.now [] c.requires c.index.ensures in
    let written = read_there c.args.contents.now.items c.args.cell _ [] c.requires c.index_mut.ensures.value in
    let same = read ∙ sym written in
    trims_at (set_of c.args.worldview.now) (set_of c.args.told.now) c.args.contents.now.items c.args.cell _ _ c.requires
    c.index_mut.ensures.value (rw same at (c.has_many_derived.ensures.many c.if-has_many_derived.true))
    c.trim.ensures.trims

pub returns-then-has_many_derived-clause-kept : goal.returns-then-has_many_derived-clause-kept
returns-then-has_many_derived-clause-kept c =
    trim_keeps (set_of c.args.worldview.now) (set_of c.args.told.now) c.args.contents.now.items c.args.cell _ _
    c.requires c.index_mut.ensures.value c.trim.ensures.trims

pub returns-else-has_many_derived-clause-bounded : goal.returns-else-has_many_derived-clause-bounded
returns-else-has_many_derived-clause-bounded c =
    let here = read_there c.args.contents.now.items c.args.cell c.index.result.now [] c.requires c.index.ensures in
    inl (rw (← here) (c.has_many_derived.ensures.few c.if-has_many_derived.false))

pub returns-then-has_many_derived-clause-bounded : goal.returns-then-has_many_derived-clause-bounded
returns-then-has_many_derived-clause-bounded c =
    inr (rw (get_or-set_same c.args.contents.now.items c.args.cell c.trim.new.self [] c.requires) c.trim.ensures.needed)
