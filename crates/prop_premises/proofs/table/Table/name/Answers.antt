use Rattle.std.proofs.Common.{arith, ◌∙◌, ◌<◌, ap, sym, subst, length, slice_get, Some, IsTrue}
use Rattle.std.specs.Option.{option_map}
use Rattle.prop_premises.specs.Origins.{name_of, is_user_at, premise_number}
use Rattle.prop_premises.specs.inner.Named.{origins_of}
use Rattle.prop_premises.proofs.TableLemmas.{length-places}
use Rattle.prop_premises.proofs.EntryLemmas.{told_at, entry_at, name_told, number_told}
use Rattle.prop_premises.proofs.table.Table.name.Goals as goal

pub index-requires : goal.index-requires
index-requires c =
    omega (
      arith,
      c.requires,
      c.from.ensures,
      c.self.inside.places.ok.0,
      ap length c.self.invariant.2,
      length-places 0 c.self.inside.names.entries,
      ap length c.self.view_is,
    )

pub prove-unreachable-requires : goal.prove-unreachable-requires
prove-unreachable-requires c =
    let inv = c.self.invariant in
    let l : c.from.result < length c.self.inside.places.items =
    omega (
      arith,
      c.requires,
      c.from.ensures,
      ap length inv.2,
      length-places 0 c.self.inside.names.entries,
      ap length c.self.view_is,
    ) in
    let within : c.from-place.result < length c.self.inside.names.entries =
    entry_at c.self.inside.names.entries c.self.inside.places.items c.from.result c.from-place.result
    c.index.result.now inv.1 inv.2 l c.index.ensures c.from-place.ensures in
    omega (arith, c.if-prove.true, c.len.ensures.len, within)

pub returns-clause-name : goal.returns-clause-name
returns-clause-name c =
    let inv = c.self.invariant in
    let l : c.args.premise < length c.self.inside.places.items =
    omega (
      arith,
      c.requires,
      ap length inv.2,
      length-places 0 c.self.inside.names.entries,
      ap length c.self.view_is,
    ) in
    let told = told_at c.self.inside.names.entries c.self.inside.places.items c.args.premise c.from-place.result
    c.index.result.now (c.in-Some.name.now, c.in-Some.field-0-1.now) inv.1 inv.2 l
    (rw c.from.ensures at c.index.ensures) c.from-place.ensures c.in-Some.ensures.entry in
    ap (λ os. option_map name_of (slice_get os c.args.premise)) (sym c.self.view_is)
    ∙ name_told c.self.inside.names.entries c.args.premise c.from-place.result
    (c.in-Some.name.now, c.in-Some.field-0-1.now) told ∙ ap Some (sym c.as_str.ensures.value)

pub returns-clause-found : goal.returns-clause-found
returns-clause-found c user =
    let inv = c.self.invariant in
    let l : c.args.premise < length c.self.inside.places.items =
    omega (
      arith,
      c.requires,
      ap length inv.2,
      length-places 0 c.self.inside.names.entries,
      ap length c.self.view_is,
    ) in
    let told = told_at c.self.inside.names.entries c.self.inside.places.items c.args.premise c.from-place.result
    c.index.result.now (c.in-Some.name.now, c.in-Some.field-0-1.now) inv.1 inv.2 l
    (rw c.from.ensures at c.index.ensures) c.from-place.ensures c.in-Some.ensures.entry in
    ap (λ os. premise_number os c.as_str.result.now) (sym c.self.view_is)
    ∙ ap (λ n. premise_number (origins_of c.self.inside.names.entries) n) c.as_str.ensures.value
    ∙ number_told c.self.inside.names.entries c.args.premise c.from-place.result
    (c.in-Some.name.now, c.in-Some.field-0-1.now) inv.1 c.len.ensures.unique told c.in-Some.ensures.value
    (subst (λ os. IsTrue (is_user_at os c.args.premise)) (sym c.self.view_is) user)
