use Rattle.std.proofs.Common.{◌≡◌, ◌∙◌, ap, get_or, map}
use Rattle.prop_nogoods.specs.inner.Endings.{Group, sets_of, left_of}
use Rattle.prop_nogoods.proofs.EndingLemmas.{got_left, left_at, left_room, left_written, sets_of-joined}
use Rattle.prop_nogoods.proofs.OrderLemmas.{in_order_joined}
use Rattle.prop_nogoods.proofs.ending.join.Goals as goal

pub drop_any_larger_everywhere-requires : goal.drop_any_larger_everywhere-requires
drop_any_larger_everywhere-requires c = record {
  none = λ e. rw (ap sets_of c.deref_mut.ensures.value ∙ c.in_ok-place.ensures.same) (c.requires.none e);
}

-- the group that the set goes to
is : (c : goal.After-index_mut) → let x = c.index_mut.result.now in
    x ≡ get_or (map (left_of c.args.nogood) c.room_for.new.endings.items) c.in_ok-place.place x
is c =
    let n = c.args.nogood in
    let left = c.drop_any_larger_everywhere.ensures ∙ ap (map (left_of n)) c.deref_mut.ensures.value in
    got_left n c.room_for.new.endings.items c.drop_any_larger_everywhere.new.endings c.room_for.new.endings.len
    c.in_ok-place.place c.index_mut.result.now left
    c.room_for.new.endings.ok.0 c.index_mut.ensures.value

pub add-requires-clause-ends_so : goal.add-requires-clause-ends_so
add-requires-clause-ends_so c =
    let x = c.index_mut.result.now in
    let same = left_at c.args.nogood c.room_for.new.endings.items c.in_ok-place.place x c.in_ok-place.ensures.place
    (is c) in
    rw (ap (λ (g : Group). g.last) same ∙ c.in_ok-place.ensures.last x) c.last.ensures

pub add-requires-clause-room : goal.add-requires-clause-room
add-requires-clause-room c =
    let x = c.index_mut.result.now in
    left_room c.args.nogood c.room_for.new.endings.items c.in_ok-place.place x c.in_ok-place.ensures.place (is c)
    (c.in_ok-place.ensures.room x)

pub returns-clause-ok : goal.returns-clause-ok
returns-clause-ok c =
    let n = c.args.nogood in
    let gs = c.room_for.new.endings.items in
    let mid = c.drop_any_larger_everywhere.new.endings in
    let x = c.index_mut.result.now in
    let left = c.drop_any_larger_everywhere.ensures ∙ ap (map (left_of n)) c.deref_mut.ensures.value in
    let is = got_left n gs mid c.room_for.new.endings.len c.in_ok-place.place x left c.room_for.new.endings.ok.0
    c.index_mut.ensures.value in
    let more = c.add.ensures.sets in
    rw (left_written n gs mid c.room_for.new.endings.len left c.room_for.new.endings.ok.0)
    (sets_of-joined _ gs n c.in_ok-place.place x c.add.new.self c.in_ok-place.ensures.same c.in_ok-place.ensures.place
    is more)

pub returns-clause-in_order : goal.returns-clause-in_order
returns-clause-in_order c =
    let n = c.args.nogood in
    let gs = c.room_for.new.endings.items in
    let mid = c.drop_any_larger_everywhere.new.endings in
    let x = c.index_mut.result.now in
    let left = c.drop_any_larger_everywhere.ensures ∙ ap (map (left_of n)) c.deref_mut.ensures.value in
    let is = got_left n gs mid c.room_for.new.endings.len c.in_ok-place.place x left c.room_for.new.endings.ok.0
    c.index_mut.ensures.value in
    let more = c.add.ensures.sets in
    rw (left_written n gs mid c.room_for.new.endings.len left c.room_for.new.endings.ok.0)
    (in_order_joined gs n c.in_ok-place.place x c.add.new.self c.last.result c.in_ok-place.ensures.place is
    (c.in_ok-place.ensures.last x) c.last.ensures
    c.add.ensures.last more c.in_ok-place.ensures.in_order)
