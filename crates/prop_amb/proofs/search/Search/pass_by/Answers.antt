use Rattle.std.proofs.Common.{◌≡◌, ap, arith, length}
use Rattle.prop_premises.specs.Origins.{choices_of}
use Rattle.prop_numbers.specs.Sets.{set_of}
use Rattle.prop_amb.specs.Moving.{advanced, reasons_advanced}
use Rattle.prop_amb.specs.Resolving.{MayAdvance, IsReason}
use Rattle.prop_amb.specs.Search.{IsSearch}
use Rattle.prop_amb.specs.contracts.search.Search.{the_view}
use Rattle.prop_amb.proofs.ZipLemmas.{index_at}
use Rattle.prop_amb.proofs.PlaceLemmas.{get_below_length}
use Rattle.prop_amb.proofs.AdvancingLaws.{few_sides, written, stand_passed, search_passed}
use Rattle.prop_amb.proofs.LookingLaws.{reasons_count}
use Rattle.prop_amb.proofs.ReasonLaws.{length-advanced}
use Rattle.prop_amb.proofs.search.Search.pass_by.Goals as goal

pub advance_reasons-requires : goal.advance_reasons-requires
advance_reasons-requires c =
    let may : MayAdvance (the_view c.self.inside) c.self.inside.level = rw (← c.self.view_is) at c.requires.may in
    let count = reasons_count (the_view c.self.inside) c.self.invariant.0 in
    let below = get_below_length c.self.inside.list.items c.self.inside.level may.side may.side_at in
    rw c.deref_mut.ensures.value (omega (arith, count, below))

pub move_on-requires-clause-place : goal.move_on-requires-clause-place
move_on-requires-clause-place c =
    let may : MayAdvance (the_view c.self.inside) c.self.inside.level = rw (← c.self.view_is) at c.requires.may in
    rw c.deref_mut-2.ensures.value (get_below_length c.self.inside.list.items c.self.inside.level may.side may.side_at)

pub move_on-requires-clause-more : goal.move_on-requires-clause-more
move_on-requires-clause-more c =
    let may : MayAdvance (the_view c.self.inside) c.self.inside.level = rw (← c.self.view_is) at c.requires.may in
    let few = few_sides (choices_of c.self.inside.premises) c.self.inside.level may.choice
    c.self.invariant.0.numbered.of_sides may.choice_at in
    let side_is = index_at c.self.inside.list.items c.self.inside.level may.side 0 may.side_at in
    rw c.deref_mut-2.ensures.value (omega (arith, few, may.more, side_is))

pub invariant_of-self-2 : goal.invariant_of-self-2
invariant_of-self-2 c =
    let may : MayAdvance (the_view c.self.inside) c.self.inside.level = rw (← c.self.view_is) at c.requires.may in
    let list_is : c.move_on.new.list ≡ advanced c.self.inside.list.items c.self.inside.level =
    rw c.deref_mut-2.ensures.value at c.move_on.ensures in
    let reasons_are : c.advance_reasons.new.reasons ≡ reasons_advanced c.self.inside.reasons.items c.self.inside.level
    c.args.reason = rw c.deref_mut.ensures.value at c.in_ok-advance_reasons.ensures.ok in
    let listed = written c.self.inside.list.items c.move_on.new.list c.self.inside.list.len
    (omega (
      arith,
      ap length list_is,
      length-advanced c.self.inside.list.items c.self.inside.level,
      c.self.inside.list.ok,
    )) in (
      rw listed
          (stand_passed (the_view c.self.inside) c.args.reason c.move_on.new.list c.advance_reasons.new.reasons
          c.self.inside.reasons.len c.self.invariant.0 may list_is reasons_are
          (omega (arith, c.advance_reasons.auto.reasons, c.deref_mut.ensures.len))),
      c.self.invariant.1,
      tt,
    )

pub returns-clause-stand : goal.returns-clause-stand
returns-clause-stand c = (invariant_of-self-2 c).0

pub returns-clause-search : goal.returns-clause-search
returns-clause-search c problem reason h =
    let may : MayAdvance (the_view c.self.inside) c.self.inside.level = rw (← c.self.view_is) at c.requires.may in
    let list_is : c.move_on.new.list ≡ advanced c.self.inside.list.items c.self.inside.level =
    rw c.deref_mut-2.ensures.value at c.move_on.ensures in
    let reasons_are : c.advance_reasons.new.reasons ≡ reasons_advanced c.self.inside.reasons.items c.self.inside.level
    c.args.reason = rw c.deref_mut.ensures.value at c.in_ok-advance_reasons.ensures.ok in
    let listed = written c.self.inside.list.items c.move_on.new.list c.self.inside.list.len
    (omega (
      arith,
      ap length list_is,
      length-advanced c.self.inside.list.items c.self.inside.level,
      c.self.inside.list.ok,
    )) in
    let reason_was : IsReason problem (the_view c.self.inside) c.self.inside.level (set_of c.args.reason) =
    rw (← c.self.view_is) at reason in
    let search_was : IsSearch problem (the_view c.self.inside) = rw (← c.self.view_is) at h in
    rw listed
    (search_passed (the_view c.self.inside) c.args.reason c.move_on.new.list c.advance_reasons.new.reasons
    c.self.inside.reasons.len c.self.invariant.0 may list_is reasons_are
    (omega (arith, c.advance_reasons.auto.reasons, c.deref_mut.ensures.len)) problem reason_was search_was)
