use Rattle.std.proofs.Common.{length}
use Rattle.std.proofs.lemmas.List.Elements.{All-contains}
use Rattle.std.proofs.lemmas.Option.{slice_get_within}
use Rattle.prop_numbers.specs.Sets.{set_of}
use Rattle.prop_procedures.specs.Kept.{stored_of}
use Rattle.prop_contents.specs.Contents.{beliefs}
use Rattle.prop_cells.specs.Instances.{IsFitting, IsWithin}
use Rattle.prop_cells.proofs.Keeping.{call_fits}
use Rattle.prop_cells.proofs.network.Network.value_in.Goals as goal

pub gather-requires-clause-within : goal.gather-requires-clause-within
gather-requires-clause-within g c =
    let d = c.args.self.now.cells in
    All-contains (IsWithin (length d.kinds)) d.instances c.args.x.now c.requires.kept.made.within c.requires.instance

pub call-requires-clause-call : goal.call-requires-clause-call
call-requires-clause-call g c =
    let d = c.args.self.now.cells in
    let x = c.args.x.now in
    let library = stored_of g.R.Rule.value_of c.args.self.now.library in
    let f = All-contains (IsFitting library d.kinds) d.instances x c.requires.kept.fits c.requires.instance in
    let w = All-contains (IsWithin (length d.kinds)) d.instances x c.requires.kept.made.within c.requires.instance in
    rw (c.gather.ensures.args, c.param.ensures, c.procedure.ensures)
    (call_fits library d.kinds x (beliefs (set_of c.args.worldview.now) d.contents) f w c.gather.ensures.of_kinds
    (let a = c.gather.ensures.clash in let b = c.if-gather.false in let e = c.gather.ensures.args in cc))

pub call-requires-clause-in_range : goal.call-requires-clause-in_range
call-requires-clause-in_range g c =
    let d = c.args.self.now.cells in
    let x = c.args.x.now in
    let library = stored_of g.R.Rule.value_of c.args.self.now.library in
    let f = All-contains (IsFitting library d.kinds) d.instances x c.requires.kept.fits c.requires.instance in
    rw c.procedure.ensures (slice_get_within library x.procedure f.procedure f.at)
