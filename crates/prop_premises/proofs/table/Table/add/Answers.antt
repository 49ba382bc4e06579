use Rattle.std.proofs.Common.{arith, ◌∙◌, ◌++◌, ◌+◌, ap, sym, length, replicate}
use Rattle.std.specs.Vec.{vec_len}
use Rattle.prop_premises.specs.inner.Named.{places_from, width}
use Rattle.prop_premises.proofs.TableLemmas.{length-places, names_within, resized}
use Rattle.prop_premises.proofs.table.Table.add.Goals as goal

pub overflow_cast-place : goal.overflow_cast-place
overflow_cast-place c =
    let inv = c.self.invariant in
    omega (
      arith,
      c.len-place.ensures.len,
      names_within 0 c.self.inside.names.entries inv.1,
      inv.0,
      ap length inv.2,
      length-places 0 c.self.inside.names.entries,
    )

pub push_name-requires-clause-next : goal.push_name-requires-clause-next
push_name-requires-clause-next c =
    let inv = c.self.invariant in
    omega (
      arith,
      c.len-count.ensures,
      c.self.inside.places.ok.0,
      ap length inv.2,
      length-places 0 c.self.inside.names.entries,
    )

pub invariant_of-self-in-Ok : goal.invariant_of-self-in-Ok
invariant_of-self-in-Ok c =
    let inv = c.self.invariant in
    let e = c.in-Ok.ensures in (
      omega (
        arith,
        c.in_ok-resize.ensures.len,
        c.requires.room,
        c.width.ensures,
        c.len-count.ensures,
        c.self.inside.places.ok.0,
        c.resize.new.self.ok.0,
        ap length inv.2,
        length-places 0 c.self.inside.names.entries,
        ap length c.self.view_is,
      ),
      e.numbered,
      c.in_ok-resize.ensures.items
          ∙ resized c.self.inside.places.items (c.len-count.result + c.width.result) (vec_len c.self.inside.places)
          c.width.result c.len-place.result (omega (arith, c.len-count.ensures)) c.self.inside.places.ok.0
          ∙ ap (λ l. l ++ replicate c.width.result c.len-place.result) inv.2
          ∙ ap (λ w. places_from 0 c.self.inside.names.entries ++ replicate w c.len-place.result) c.width.ensures
          ∙ ap (λ p. places_from 0 c.self.inside.names.entries ++ replicate (width c.args.kind) p)
          c.len-place.ensures.len
          ∙ sym e.places,
    )
