use Rattle.std.proofs.Common.{◌+◌, ◌∙◌, length, get_or, refl, ap, arith}
use Rattle.std.proofs.lemmas.List.{length-append}
use Rattle.prop_compound.proofs.Zips.{places_more, places_all}
use Rattle.prop_compound.proofs.fitting.places.Goals as goal

pub loop-i-preserved : goal.loop-i-preserved
loop-i-preserved g c =
    let same = c.deref-cell-items.ensures.value in
    let h = c.loop-i.invariant in
    let longer = ap length c.push_reserved.ensures.items in
    record {
      items = places_more c.args.ins.now c.args.kinds.now c.args.instance.now.inputs.items c.requires.count
          c.loop-i.places.items c.push_reserved.new.self.items c.loop-i.i _ _ _ c.kind_at.result
          (omega (arith, c.loop-i-test.true, ap length same)) (ap (λ cells. get_or cells c.loop-i.i 0) same) refl
          c.kind_at.ensures h.items c.push_reserved.ensures.items;
      count = longer ∙ length-append c.loop-i.places.items _ ∙ ap (λ n. n + 1) h.count;
      room = c.push_reserved.ensures.capacity ∙ h.room;
    }

pub returns : goal.returns
returns g c =
    let same = c.deref-cell-items.ensures.value in
    places_all c.args.ins.now c.args.kinds.now c.args.instance.now.inputs.items c.requires.count c.loop-i.places.items
    c.push_reserved-2.new.self.items c.loop-i.i c.args.instance.now.output c.args.out c.kind_at-2.result
    (omega (arith, c.loop-i-test.false, ap length same)) c.kind_at-2.ensures c.loop-i.invariant.items
    c.push_reserved-2.ensures.items
