use Rattle.std.proofs.Common.{◌≡◌, ◌∙◌, ◌≤◌, ap, arith, length, slice_index_or}
use Rattle.std.proofs.Math.Nat.{min-le_left, min-le_right}
use Rattle.prop_premises.specs.Origins.{choices_of}
use Rattle.prop_premises.specs.declared.choice.Choice.{Choice}
use Rattle.prop_numbers.specs.Sets.{set_of}
use Rattle.prop_amb.specs.Moving.{advanced, reasons_advanced}
use Rattle.prop_amb.specs.Resolving.{MayAdvance, IsReason}
use Rattle.prop_amb.specs.Search.{IsSearch, users_of}
use Rattle.prop_amb.specs.contracts.search.Search.{the_view}
use Rattle.prop_amb.proofs.ZipLemmas.{index_at}
use Rattle.prop_amb.proofs.PlaceLemmas.{get_below_length}
use Rattle.prop_amb.proofs.AdvancingLaws.{few_sides, next_small, moved_believes, written, stand_moved, search_moved_to}
use Rattle.prop_amb.proofs.LookingLaws.{reasons_count}
use Rattle.prop_amb.proofs.ReasonLaws.{length-advanced}
use Rattle.prop_amb.proofs.StandLaws.{users_no_sides}
use Rattle.prop_amb.proofs.FromLaws.{none_below_moved}
use Rattle.prop_amb.proofs.search.Search.advance.Goals as goal

pub overflow_add-next : goal.overflow_add-next
overflow_add-next c =
    let may : MayAdvance (the_view c.self.inside) c.args.place = rw (← c.self.view_is) at c.requires.may in
    let choice_is : slice_index_or c.choices-choices.result.now c.args.place
    (record { first = 0; sides = 0 }) ≡ may.choice =
    rw c.choices-choices.ensures (index_at (choices_of c.self.inside.premises) c.args.place may.choice
    (record { first = 0; sides = 0 }) may.choice_at) in
    let side_is : c.index.result.now ≡ may.side = c.index.ensures
    ∙ index_at c.self.inside.list.items c.args.place may.side c.index.result.now may.side_at in
    let first = ap (λ (x : Choice). x.first) choice_is in
    let small = next_small (the_view c.self.inside) c.args.place may c.self.invariant.0 in
    omega (arith, small, first, side_is, c.from.ensures, c.self.invariant.0.few)

pub advance_reasons-requires : goal.advance_reasons-requires
advance_reasons-requires c =
    let may : MayAdvance (the_view c.self.inside) c.args.place = rw (← c.self.view_is) at c.requires.may in
    let count = reasons_count (the_view c.self.inside) c.self.invariant.0 in
    let below = get_below_length c.self.inside.list.items c.args.place may.side may.side_at in
    rw c.deref_mut.ensures.value (omega (arith, count, below))

pub move_on-requires-clause-more : goal.move_on-requires-clause-more
move_on-requires-clause-more c =
    let may : MayAdvance (the_view c.self.inside) c.args.place = rw (← c.self.view_is) at c.requires.may in
    let few = few_sides (choices_of c.self.inside.premises) c.args.place may.choice c.self.invariant.0.numbered.of_sides
    may.choice_at in
    let side_is = index_at c.self.inside.list.items c.args.place may.side 0 may.side_at in
    rw c.deref_mut-2.ensures.value (omega (arith, few, may.more, side_is))

pub invariant_of-self-2 : goal.invariant_of-self-2
invariant_of-self-2 c =
    let may : MayAdvance (the_view c.self.inside) c.args.place = rw (← c.self.view_is) at c.requires.may in
    let choice_is : slice_index_or c.choices-choices.result.now c.args.place
    (record { first = 0; sides = 0 }) ≡ may.choice =
    rw c.choices-choices.ensures (index_at (choices_of c.self.inside.premises) c.args.place may.choice
    (record { first = 0; sides = 0 }) may.choice_at) in
    let side_is : c.index.result.now ≡ may.side = c.index.ensures
    ∙ index_at c.self.inside.list.items c.args.place may.side c.index.result.now may.side_at in
    let list_is : c.move_on.new.list ≡ advanced c.self.inside.list.items c.args.place =
    rw c.deref_mut-2.ensures.value at c.move_on.ensures in
    let reasons_are : c.advance_reasons.new.reasons ≡ reasons_advanced c.self.inside.reasons.items c.args.place
    c.args.reason = rw c.deref_mut.ensures.value at c.in_ok-advance_reasons.ensures.ok in
    let listed = written c.self.inside.list.items c.move_on.new.list c.self.inside.list.len
    (omega (arith, ap length list_is, length-advanced c.self.inside.list.items c.args.place, c.self.inside.list.ok))
    in
    let first = ap (λ (x : Choice). x.first) choice_is in
    let left = rw (c.choices-choices.ensures, c.deref.ensures.value, c.in_ok-worldview.ensures) at c.leave.ensures in
    let users = users_of (the_view c.self.inside) in
    let is = left users (users_no_sides (the_view c.self.inside) c.self.invariant.0) c.self.invariant.0.believes in
    let less : c.args.place ≤ c.self.inside.level = rw (← c.self.view_is) at c.requires.below in
    let moved = slice_index_or c.choices-choices.result.now c.args.place (record { first = 0; sides = 0 }) in
    let few = min-le_left c.self.inside.from moved.first in
    let low = min-le_right c.self.inside.from moved.first in (
      rw listed
          (stand_moved (the_view c.self.inside) c.args.place c.args.reason c.replace.new.dest c.move_on.new.list
          c.advance_reasons.new.reasons c.self.inside.reasons.len c.self.invariant.0 may list_is reasons_are
          (omega (arith, c.advance_reasons.auto.reasons, c.deref_mut.ensures.len))
          (rw (c.replace.ensures.after, list_is)
          (moved_believes (the_view c.self.inside) c.args.place c.believe.new.self c.leave.new.believed _ may
          (omega (arith, first, side_is, c.from.ensures))
          is c.in_ok-believe.ensures.has))),
      rw c.replace.ensures.after
          (none_below_moved c.self.inside.store users (choices_of c.self.inside.premises) c.self.inside.list.items
          c.self.inside.worldview c.leave.new.believed c.believe.new.self
          c.args.place c.self.inside.level _ c.self.inside.from _ (omega (arith, less)) c.self.invariant.0.believes is
          c.in_ok-believe.ensures.has
          (omega (arith, few, c.min-self-inside.ensures)) (omega (arith, low, c.min-self-inside.ensures))
          c.self.invariant.1),
      tt,
    )

pub returns-clause-search : goal.returns-clause-search
returns-clause-search c problem reason h =
    let may : MayAdvance (the_view c.self.inside) c.args.place = rw (← c.self.view_is) at c.requires.may in
    let list_is : c.move_on.new.list ≡ advanced c.self.inside.list.items c.args.place =
    rw c.deref_mut-2.ensures.value at c.move_on.ensures in
    let reasons_are : c.advance_reasons.new.reasons ≡ reasons_advanced c.self.inside.reasons.items c.args.place
    c.args.reason = rw c.deref_mut.ensures.value at c.in_ok-advance_reasons.ensures.ok in
    let listed = written c.self.inside.list.items c.move_on.new.list c.self.inside.list.len
    (omega (arith, ap length list_is, length-advanced c.self.inside.list.items c.args.place, c.self.inside.list.ok))
    in
    let reason_was : IsReason problem (the_view c.self.inside) c.args.place (set_of c.args.reason) =
    rw (← c.self.view_is) at reason in
    let search_was : IsSearch problem (the_view c.self.inside) = rw (← c.self.view_is) at h in
    rw listed
    (search_moved_to (the_view c.self.inside) c.args.place c.args.reason c.replace.new.dest c.move_on.new.list
    c.advance_reasons.new.reasons c.self.inside.reasons.len c.self.invariant.0 may list_is reasons_are
    (omega (arith, c.advance_reasons.auto.reasons, c.deref_mut.ensures.len))
    problem reason_was search_was)
