use Rattle.std.proofs.Common.{◌∙◌, ap, Some}
use Rattle.std.proofs.Math.Seq.{map-set_same}
use Rattle.prop_learned.specs.declared.slot.Slot.{Slot}
use Rattle.prop_learned.proofs.store.Store.set_watched.Goals as goal

pub returns-then-number-len : goal.returns-then-number-len
returns-then-number-len c =
    let was = c.index_mut.result.now in
    let held = λ (s : Slot). s.nogood in
    map-set_same held c.self.inside.slots.items c.args.number
    (record { nogood = was.nogood; watched = Some c.args.watched; stays = was.stays }) was
    (ap held c.index_mut.ensures.value) ∙ c.self.view_is
