use Rattle.std.proofs.Common.{arith, ◌∙◌, ◌+◌, ◌-◌, ◌<◌, ap, sym, length, slice_get, Some}
use Rattle.prop_premises.specs.Origins.{User, Side}
use Rattle.prop_premises.proofs.TableLemmas.{length-places}
use Rattle.prop_premises.proofs.EntryLemmas.{told_at, entry_at, premise_at, choice_at, side_bounds, no_item, some_item}
use Rattle.prop_premises.proofs.table.Table.source.Goals as goal

pub returns-in_err-place : goal.returns-in_err-place
returns-in_err-place c =
    let f = c.in_err-place.ensures.lookup in
    rw c.from_residual.ensures (sym (no_item c.args.self.now c.args.premise
    (omega (
      arith,
      f.3,
      c.from.ensures,
      ap length c.deref.ensures.value,
      ap length c.self.invariant.2,
      length-places 0 c.self.inside.names.entries,
      ap length c.self.view_is,
    ))))

pub returns-in_err-name : goal.returns-in_err-name
returns-in_err-name c =
    let inv = c.self.invariant in
    let a = c.in_ok-place.ensures.lookup in
    let l : c.args.premise < length c.self.inside.places.items =
    omega (arith, a.3.0, c.from.ensures, ap length c.deref.ensures.value) in
    absurd (some_item c.self.inside.names.entries c.from-2.result
    (entry_at c.self.inside.names.entries c.self.inside.places.items c.args.premise c.from-2.result
    c.in_ok-place.field-0.now inv.1 inv.2 l (rw (c.deref.ensures.value, c.from.ensures) at a.1) c.from-2.ensures)
    c.in_err-name.ensures.entry)

pub overflow_sub-side : goal.overflow_sub-side
overflow_sub-side c =
    let inv = c.self.invariant in
    let a = c.in_ok-place.ensures.lookup in
    let l : c.args.premise < length c.self.inside.places.items =
    omega (arith, a.3.0, c.from.ensures, ap length c.deref.ensures.value) in
    (side_bounds c.self.inside.names.entries c.args.premise c.from-2.result
    (c.in_ok-name.name.now, c.in_ok-name.named.now) c.in-Choice.sides
    (told_at c.self.inside.names.entries c.self.inside.places.items c.args.premise c.from-2.result
    c.in_ok-place.field-0.now (c.in_ok-name.name.now, c.in_ok-name.named.now) inv.1 inv.2 l
    (rw (c.deref.ensures.value, c.from.ensures) at a.1) c.from-2.ensures c.in_ok-name.ensures.entry)
    c.in-Choice.is).low

pub returns-in-User : goal.returns-in-User
returns-in-User c =
    let inv = c.self.invariant in
    let a = c.in_ok-place.ensures.lookup in
    let l : c.args.premise < length c.self.inside.places.items =
    omega (arith, a.3.0, c.from.ensures, ap length c.deref.ensures.value) in
    let told = told_at c.self.inside.names.entries c.self.inside.places.items c.args.premise c.from-2.result
    c.in_ok-place.field-0.now (c.in_ok-name.name.now, c.in_ok-name.named.now) inv.1 inv.2 l
    (rw (c.deref.ensures.value, c.from.ensures) at a.1) c.from-2.ensures c.in_ok-name.ensures.entry in
    ap (λ n. Some (User n c.in-User.believed)) c.deref-in-User.ensures
    ∙ sym (premise_at c.self.inside.names.entries c.args.premise c.from-2.result
    (c.in_ok-name.name.now, c.in_ok-name.named.now) c.in-User.believed told c.in-User.is)
    ∙ ap (λ os. slice_get os c.args.premise) c.self.view_is

pub overflow_cast-side : goal.overflow_cast-side
overflow_cast-side c =
    let inv = c.self.invariant in
    let a = c.in_ok-place.ensures.lookup in
    let l : c.args.premise < length c.self.inside.places.items =
    omega (arith, a.3.0, c.from.ensures, ap length c.deref.ensures.value) in
    let told = told_at c.self.inside.names.entries c.self.inside.places.items c.args.premise c.from-2.result
    c.in_ok-place.field-0.now (c.in_ok-name.name.now, c.in_ok-name.named.now) inv.1 inv.2 l
    (rw (c.deref.ensures.value, c.from.ensures) at a.1) c.from-2.ensures c.in_ok-name.ensures.entry in
    let bounds = side_bounds c.self.inside.names.entries c.args.premise c.from-2.result
    (c.in_ok-name.name.now, c.in_ok-name.named.now) c.in-Choice.sides told c.in-Choice.is in
    omega (arith, bounds.low, bounds.high, bounds.few)

pub returns-in-Choice : goal.returns-in-Choice
returns-in-Choice c =
    let inv = c.self.invariant in
    let a = c.in_ok-place.ensures.lookup in
    let l : c.args.premise < length c.self.inside.places.items =
    omega (arith, a.3.0, c.from.ensures, ap length c.deref.ensures.value) in
    let told = told_at c.self.inside.names.entries c.self.inside.places.items c.args.premise c.from-2.result
    c.in_ok-place.field-0.now (c.in_ok-name.name.now, c.in_ok-name.named.now) inv.1 inv.2 l
    (rw (c.deref.ensures.value, c.from.ensures) at a.1) c.from-2.ensures c.in_ok-name.ensures.entry in
    ap (λ n. Some (Side n (c.args.premise - c.in_ok-name.named.now.first + 1) c.in-Choice.sides))
    c.deref-in-Choice.ensures
    ∙ sym (choice_at c.self.inside.names.entries c.args.premise c.from-2.result
    (c.in_ok-name.name.now, c.in_ok-name.named.now) c.in-Choice.sides told c.in-Choice.is)
    ∙ ap (λ os. slice_get os c.args.premise) c.self.view_is
