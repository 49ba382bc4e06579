use Rattle.std.proofs.Common.{◌∙◌, ap, arith}
use Rattle.prop_nogoods.specs.inner.Endings.{Group}
use Rattle.prop_nogoods.proofs.EndingLemmas.{sets_of-set_same, sets_of-insert_empty}
use Rattle.prop_nogoods.proofs.OrderLemmas.{IsPlaceFor, in_order_set_same, in_order_insert}
use Rattle.prop_nogoods.proofs.ending.room_for.Goals as goal

pub returns-in_err-make_room-clause-same : goal.returns-in_err-make_room-clause-same
returns-in_err-make_room-clause-same c =
    sets_of-set_same c.args.endings.now.items c.place_for-place.result c.make_room.new.self c.index_mut.result.now
    (c.in_err-make_room.ensures.same ∙ ap (λ (g : Group). g.sets) c.index_mut.ensures.value)

pub returns-in_ok-make_room-clause-same : goal.returns-in_ok-make_room-clause-same
returns-in_ok-make_room-clause-same c =
    sets_of-set_same c.args.endings.now.items c.place_for-place.result c.make_room.new.self c.index_mut.result.now
    (c.in_ok-make_room.ensures.same ∙ ap (λ (g : Group). g.sets) c.index_mut.ensures.value)

pub returns-in_ok-insert-clause-same : goal.returns-in_ok-insert-clause-same
returns-in_ok-insert-clause-same c =
    rw c.in_ok-insert.ensures.items (sets_of-insert_empty c.args.endings.now.items c.place_for-place.result
    c.in_ok-ending.ending c.in_ok-ending.ensures.empty)

pub returns-in_err-make_room-clause-in_order : goal.returns-in_err-make_room-clause-in_order
returns-in_err-make_room-clause-in_order c =
    in_order_set_same c.args.endings.now.items c.place_for-place.result c.make_room.new.self c.index_mut.result.now
    (omega arith)
    (c.in_err-make_room.ensures.last ∙ ap (λ (g : Group). g.last) c.index_mut.ensures.value)
    (c.in_err-make_room.ensures.same ∙ ap (λ (g : Group). g.sets) c.index_mut.ensures.value) c.requires

pub returns-in_ok-make_room-clause-in_order : goal.returns-in_ok-make_room-clause-in_order
returns-in_ok-make_room-clause-in_order c =
    in_order_set_same c.args.endings.now.items c.place_for-place.result c.make_room.new.self c.index_mut.result.now
    (omega arith)
    (c.in_ok-make_room.ensures.last ∙ ap (λ (g : Group). g.last) c.index_mut.ensures.value)
    (c.in_ok-make_room.ensures.same ∙ ap (λ (g : Group). g.sets) c.index_mut.ensures.value) c.requires

pub returns-in_ok-insert-clause-in_order : goal.returns-in_ok-insert-clause-in_order
returns-in_ok-insert-clause-in_order c =
    let gs = c.args.endings.now.items in
    let place : IsPlaceFor c.args.last gs c.place_for-place.result =
    rw c.deref.ensures.value at c.place_for-place.ensures.between in
    rw c.in_ok-insert.ensures.items
    (in_order_insert gs c.place_for-place.result c.in_ok-ending.ending c.args.last
    (rw c.deref.ensures.value at c.place_for-place.ensures.bound)
    c.in_ok-ending.ensures.last c.in_ok-ending.ensures.empty place c.requires)
