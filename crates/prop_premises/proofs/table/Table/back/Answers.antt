use Rattle.std.proofs.Common.{arith, ◌∙◌, ap, sym, length, take}
use Rattle.std.proofs.lemmas.List.{length-take, take_all}
use Rattle.prop_premises.specs.inner.Named.{places_from, origins_of}
use Rattle.prop_premises.proofs.TableLemmas.{length-places}
use Rattle.prop_premises.proofs.EntryLemmas.{dropped_at}
use Rattle.prop_premises.proofs.table.Table.back.Goals as goal

pub invariant_of-self : goal.invariant_of-self
invariant_of-self c =
    let inv = c.self.invariant in
    let l = c.if-count-len.true in
    let d = dropped_at c.self.inside.names.entries c.self.inside.places.items c.args.self.now c.args.count c.from.result
    c.index.result.now inv.1 inv.2 c.self.view_is c.requires
    (omega (arith, l, c.len.ensures, c.self.inside.places.ok.0)) c.index.ensures c.from.ensures in (
      omega (
        arith,
        ap length c.truncate-then-count-len.ensures.items,
        length-take c.args.count c.self.inside.places.items,
        inv.0,
      ),
      rw c.truncate.ensures.entries d.numbered,
      c.truncate-then-count-len.ensures.items ∙ ap (take c.args.count) inv.2 ∙ d.places
          ∙ ap (places_from 0) (sym c.truncate.ensures.entries),
    )

pub returns-then-count-len : goal.returns-then-count-len
returns-then-count-len c =
    let inv = c.self.invariant in
    let l = c.if-count-len.true in
    let d = dropped_at c.self.inside.names.entries c.self.inside.places.items c.args.self.now c.args.count c.from.result
    c.index.result.now inv.1 inv.2 c.self.view_is c.requires
    (omega (arith, l, c.len.ensures, c.self.inside.places.ok.0)) c.index.ensures c.from.ensures in
    ap origins_of c.truncate.ensures.entries ∙ d.origins ∙ ap (take c.args.count) c.self.view_is

pub returns-else-count-len : goal.returns-else-count-len
returns-else-count-len c =
    let inv = c.self.invariant in
    sym (take_all c.args.count c.args.self.now
    (omega (
      arith,
      c.if-count-len.false,
      c.len.ensures,
      c.self.inside.places.ok.0,
      ap length inv.2,
      length-places 0 c.self.inside.names.entries,
      ap length c.self.view_is,
    )))
