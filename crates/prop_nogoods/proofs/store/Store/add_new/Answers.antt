use Rattle.std.proofs.Common.{◌≡◌, ◌≤◌, refl, false, length}
use Rattle.std.specs.List.Sorted.{IsStrictlyIncreasing}
use Rattle.prop_numbers.specs.Sets.{set_of}
use Rattle.prop_nogoods.specs.Stores.{has_part, staying}
use Rattle.prop_nogoods.specs.inner.Stores.{HaveSame, IsPartOfNone}
use Rattle.prop_nogoods.specs.inner.Endings.{sets_of}
use Rattle.prop_nogoods.proofs.PlaceLemmas.{IsPlace}
use Rattle.prop_nogoods.proofs.StoreLemmas.{joined, joined_behind, adds_joined, minimal_joined, in_order_joined}
use Rattle.prop_nogoods.proofs.StoreLemmas.{by_size_kept, by_size_joined, HaveSame-joined, part_of_none-same}
use Rattle.prop_nogoods.proofs.store.Store.add_new.Goals as goal

pub has_larger-has_larger-requires : goal.has_larger-has_larger-requires
has_larger-has_larger-requires c = record {
  in_order = rw (← c.nogood.view_is) c.nogood.invariant.0;
  no_part = rw c.in_ok-nogood.ensures c.requires;
}

pub join-requires : goal.join-requires
join-requires c = record {
  in_order = c.self.invariant.4;
  none = λ e.
      let of_none : IsPartOfNone c.self.inside.nogoods.items c.args.nogood =
      rw (← c.self.view_is, c.in_ok-nogood.ensures) at (c.has_larger-has_larger.ensures e) in
      rw c.in_ok-nogood.ensures (part_of_none-same c.self.inside.nogoods.items (sets_of c.self.inside.by_last.items)
      c.args.nogood c.self.invariant.3 of_none);
}

pub drop_any_larger-requires : goal.drop_any_larger-requires
drop_any_larger-requires c = record {
  none = λ e.
      rw (c.in_ok-reserve.ensures.items, c.self.view_is, c.in_ok-counted.ensures) (c.has_larger-has_larger.ensures e);
}

pub place_of-place-requires : goal.place_of-place-requires
place_of-place-requires c =
    let left : c.deref.result.now ≡ staying c.self.inside.nogoods.items c.args.nogood =
    rw (
      c.deref.ensures.value,
      c.drop_any_larger.ensures.left,
      c.in_ok-reserve.ensures.items,
      c.in_ok-counted.ensures,
      c.in_ok-nogood.ensures,
    ) refl in
    rw left (by_size_kept c.self.inside.nogoods.items c.args.nogood c.self.invariant.2)

left : (c : goal.In_ok-insert) → c.deref.result.now ≡ staying c.self.inside.nogoods.items c.args.nogood
left c = rw (
  c.deref.ensures.value,
  c.drop_any_larger.ensures.left,
  c.in_ok-reserve.ensures.items,
  c.in_ok-counted.ensures,
  c.in_ok-nogood.ensures,
) refl

now : (c : goal.In_ok-insert) → c.insert.new.self.items ≡ joined c.self.inside.nogoods.items c.args.nogood
    c.place_of-place.result
now c = rw (
  c.in_ok-insert.ensures.items,
  c.drop_any_larger.ensures.left,
  c.in_ok-reserve.ensures.items,
  c.in_ok-counted.ensures,
  c.in_ok-nogood.ensures,
) refl

inside : (c : goal.In_ok-insert) → c.place_of-place.result ≤ length (staying c.self.inside.nogoods.items c.args.nogood)
inside c = rw (left c) at c.place_of-place.ensures.bound

pub returns-clause-adds : goal.returns-clause-adds
returns-clause-adds c = rw (now c, ← c.self.view_is)
    (adds_joined c.self.inside.nogoods.items c.args.nogood c.place_of-place.result)

pub returns-clause-minimal : goal.returns-clause-minimal
returns-clause-minimal c =
    let old = c.self.inside.nogoods.items in
    let none : has_part old (set_of c.args.nogood) ≡ false = rw (← c.self.view_is) at c.requires in
    rw (now c) (minimal_joined old c.args.nogood c.place_of-place.result (inside c) none c.self.invariant.0)

pub returns-clause-in_order : goal.returns-clause-in_order
returns-clause-in_order c =
    let in_order : IsStrictlyIncreasing c.args.nogood =
    rw (c.nogood.view_is, c.in_ok-nogood.ensures) at c.nogood.invariant.0 in
    rw (now c) (in_order_joined c.self.inside.nogoods.items c.args.nogood c.place_of-place.result in_order
    c.self.invariant.1)

place : (c : goal.In_ok-insert) → IsPlace (staying c.self.inside.nogoods.items c.args.nogood) c.args.nogood
    c.place_of-place.result
place c = rw (left c, c.in_ok-counted.ensures, c.in_ok-nogood.ensures) at c.place_of-place.ensures.between

pub returns-clause-by_size : goal.returns-clause-by_size
returns-clause-by_size c =
    rw (now c) (by_size_joined c.self.inside.nogoods.items c.args.nogood c.place_of-place.result (inside c) (place c)
    c.self.invariant.2)

same : (c : goal.In_ok-insert) → HaveSame c.insert.new.self.items (sets_of c.join.new.endings.items)
same c =
    let joins = c.in_ok-join.ensures.ok in
    let again : sets_of c.join.new.endings.items ≡ joined (sets_of c.self.inside.by_last.items) c.args.nogood joins.0 =
    rw c.in_ok-nogood.ensures at joins.1 in
    rw (now c, again) (HaveSame-joined c.self.inside.nogoods.items (sets_of c.self.inside.by_last.items) c.args.nogood
    c.place_of-place.result joins.0 c.self.invariant.3)

pub invariant_of-self-2 : goal.invariant_of-self-2
invariant_of-self-2 c = (
  returns-clause-minimal c,
  returns-clause-in_order c,
  returns-clause-by_size c,
  same c,
  c.in_ok-join.ensures.in_order,
)

pub returns-clause-joins : goal.returns-clause-joins
returns-clause-joins c =
    rw (now c, ← c.self.view_is) (joined_behind c.self.inside.nogoods.items c.args.nogood c.place_of-place.result
    (place c))
