use Rattle.std.proofs.Common.{arith, ◌∙◌, ap, sym, length}
use Rattle.prop_premises.specs.Origins.{with_belief_at}
use Rattle.prop_premises.proofs.OriginLemmas.{in_range}
use Rattle.prop_premises.proofs.TableLemmas.{length-places}
use Rattle.prop_premises.proofs.EntryLemmas.{written_at, entry_at}
use Rattle.prop_premises.proofs.table.Table.set_belief.Goals as goal

pub index-requires : goal.index-requires
index-requires c =
    omega (
      arith,
      in_range c.args.self.now c.args.premise c.requires,
      c.from.ensures,
      c.self.inside.places.ok.0,
      ap length c.self.invariant.2,
      length-places 0 c.self.inside.names.entries,
      ap length c.self.view_is,
    )

pub index_mut-requires : goal.index_mut-requires
index_mut-requires c =
    let inv = c.self.invariant in
    entry_at c.self.inside.names.entries c.self.inside.places.items c.from.result c.from-place.result c.index.result.now
    inv.1 inv.2
    (omega (
      arith,
      in_range c.args.self.now c.args.premise c.requires,
      c.from.ensures,
      ap length inv.2,
      length-places 0 c.self.inside.names.entries,
      ap length c.self.view_is,
    )) c.index.ensures c.from-place.ensures

pub invariant_of-self : goal.invariant_of-self
invariant_of-self c =
    let inv = c.self.invariant in
    let w = written_at c.self.inside.names.entries c.self.inside.places.items c.args.self.now c.args.premise
    c.from-place.result c.index.result.now c.args.believed inv.1 inv.2 c.self.view_is c.requires
    (omega (
      arith,
      in_range c.args.self.now c.args.premise c.requires,
      ap length inv.2,
      length-places 0 c.self.inside.names.entries,
      ap length c.self.view_is,
    )) (rw c.from.ensures at c.index.ensures)
    c.from-place.ensures in
    (inv.0, w.numbered, inv.2 ∙ sym w.places)

pub returns : goal.returns
returns c =
    let inv = c.self.invariant in
    let w = written_at c.self.inside.names.entries c.self.inside.places.items c.args.self.now c.args.premise
    c.from-place.result c.index.result.now c.args.believed inv.1 inv.2 c.self.view_is c.requires
    (omega (
      arith,
      in_range c.args.self.now c.args.premise c.requires,
      ap length inv.2,
      length-places 0 c.self.inside.names.entries,
      ap length c.self.view_is,
    )) (rw c.from.ensures at c.index.ensures)
    c.from-place.ensures in
    w.origins ∙ ap (λ (os : _). with_belief_at os c.args.premise c.args.believed) c.self.view_is
