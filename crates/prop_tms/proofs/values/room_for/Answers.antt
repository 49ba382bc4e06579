use Rattle.std.proofs.Common.{arith, ◌≡◌, ◌≢◌, ◌∙◌, ◌<◌, sym, refl, ap, subst, length, AllPairs, Result, Ok, Err, OnErr}
use Rattle.prop_tms.proofs.ValueLemmas.{apart_more, entries_of-new, length_values, value_at, written_values}
use Rattle.prop_tms.specs.Values.{entries_of}
use Rattle.prop_tms.specs.inner.Values.{values_of}
use Rattle.prop_tms.proofs.values.room_for.Goals as goal

on_err : {A E P : Type 0} (r : Result A E) → P → OnErr r P
on_err (Ok a) p = tt
on_err (Err e) p = p

pub make_room-requires : goal.make_room-requires
make_room-requires g c = rw c.deref_mut.ensures.value (rw c.deref.ensures at c.in-Some.ensures.at.0)

pub returns-in_err-make_room-clause-same : goal.returns-in_err-make_room-clause-same
returns-in_err-make_room-clause-same g c =
    rw (written_values (length c.args.values.now.items) c.args.values.now.items c.make_room.new.values refl
    (c.make_room.ensures.values ∙ ap values_of c.deref_mut.ensures.value))
    (c.make_room.ensures.same ∙ ap entries_of c.deref_mut.ensures.value)

pub returns-in_err-make_room-clause-apart : goal.returns-in_err-make_room-clause-apart
returns-in_err-make_room-clause-apart g c =
    rw (written_values (length c.args.values.now.items) c.args.values.now.items c.make_room.new.values refl
    (c.make_room.ensures.values ∙ ap values_of c.deref_mut.ensures.value))
    (subst (AllPairs (λ a b. a ≢ b)) (sym (c.make_room.ensures.values ∙ ap values_of c.deref_mut.ensures.value))
    c.requires.apart)

pub returns-in_err-make_room-clause-err : goal.returns-in_err-make_room-clause-err
returns-in_err-make_room-clause-err g c = on_err c.from_residual.result (λ none.
    rw (written_values (length c.args.values.now.items) c.args.values.now.items c.make_room.new.values refl
    (c.make_room.ensures.values ∙ ap values_of c.deref_mut.ensures.value))
    (c.make_room.ensures.bare (rw c.deref_mut.ensures.value none)))

pub returns-in-Some-clause-same : goal.returns-in-Some-clause-same
returns-in-Some-clause-same g c =
    rw (written_values (length c.args.values.now.items) c.args.values.now.items c.make_room.new.values refl
    (c.make_room.ensures.values ∙ ap values_of c.deref_mut.ensures.value))
    (c.make_room.ensures.same ∙ ap entries_of c.deref_mut.ensures.value)

pub returns-in-Some-clause-apart : goal.returns-in-Some-clause-apart
returns-in-Some-clause-apart g c =
    rw (written_values (length c.args.values.now.items) c.args.values.now.items c.make_room.new.values refl
    (c.make_room.ensures.values ∙ ap values_of c.deref_mut.ensures.value))
    (subst (AllPairs (λ a b. a ≢ b)) (sym (c.make_room.ensures.values ∙ ap values_of c.deref_mut.ensures.value))
    c.requires.apart)

pub returns-in-Some-clause-place : goal.returns-in-Some-clause-place
returns-in-Some-clause-place g c =
    let xs = c.args.values.now.items in
    let new = c.make_room.new.values in
    let values : values_of new ≡ values_of xs = c.make_room.ensures.values ∙ ap values_of c.deref_mut.ensures.value in
    let n = length_values new xs values in
    let l : c.in-Some.place < length xs = rw c.deref.ensures at c.in-Some.ensures.at.0 in
    rw (written_values (length c.args.values.now.items) c.args.values.now.items c.make_room.new.values refl
    (c.make_room.ensures.values ∙ ap values_of c.deref_mut.ensures.value)) (
      omega (arith, n, l),
      λ d. value_at new xs c.in-Some.place d values
          ∙ (rw c.deref.ensures at (c.in-Some.ensures.at.1 d)),
    )

pub returns-in-Some-clause-room : goal.returns-in-Some-clause-room
returns-in-Some-clause-room g c = rw (written_values (length c.args.values.now.items) c.args.values.now.items
    c.make_room.new.values refl (c.make_room.ensures.values ∙ ap values_of c.deref_mut.ensures.value))
    c.in_ok-make_room.ensures.room

pub returns-in_err-push-clause-err : goal.returns-in_err-push-clause-err
returns-in_err-push-clause-err g c =
    on_err c.from_residual-in_err-push.result (λ none. rw c.in_err-push.ensures.err none)

pub returns-clause-same : goal.returns-clause-same
returns-clause-same g c = rw c.in_ok-push.ensures.ok
    (entries_of-new c.args.values.now.items _ c.new-supports.ensures.items)

pub returns-clause-apart : goal.returns-clause-apart
returns-clause-apart g c = rw c.in_ok-push.ensures.ok
    (apart_more c.args.values.now.items _ c.args.value refl (rw c.deref.ensures at c.in_default.ensures.new)
    c.requires.apart)
