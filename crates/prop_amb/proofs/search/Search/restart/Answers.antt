use Rattle.std.proofs.Common.{◌≡◌, ◌∙◌, ap, refl, arith, length}
use Rattle.prop_numbers.specs.Sets.{set_of}
use Rattle.prop_amb.specs.Moving.{first_sides, level_first, no_reasons}
use Rattle.prop_amb.specs.Search.{users_of}
use Rattle.prop_amb.specs.contracts.search.Search.{the_view}
use Rattle.prop_amb.proofs.AdvancingLaws.{written}
use Rattle.prop_amb.proofs.KeepingLaws.{search_restarted}
use Rattle.prop_amb.proofs.LevelLaws.{level_first_few, firsts_length}
use Rattle.prop_amb.proofs.BelievingLaws.{stand_restarted, reasons_forgotten}
use Rattle.prop_amb.proofs.StandLaws.{users_no_sides}
use Rattle.prop_amb.proofs.FromLaws.{none_below_zero}
use Rattle.prop_amb.proofs.search.Search.restart.Goals as goal

pub leave-requires-clause-from : goal.leave-requires-clause-from
leave-requires-clause-from c =
    let few = (level_first_few c.self.inside.level c.deref.result.now).0 in
    omega (arith, few, c.level_first-level.ensures)

pub invariant_of-self : goal.invariant_of-self
invariant_of-self c =
    let level_is : c.level_first-level.result ≡ level_first c.self.inside.level c.self.inside.list.items =
    rw c.deref.ensures.value at c.level_first-level.ensures in
    let list_is : c.put_first.new.list ≡ first_sides c.self.inside.list.items =
    rw c.deref_mut.ensures.value at c.put_first.ensures in
    let listed = written c.self.inside.list.items c.put_first.new.list c.self.inside.list.len
    (omega (arith, ap length list_is, firsts_length c.self.inside.list.items, c.self.inside.list.ok)) ∙ list_is in
    let forgotten = reasons_forgotten c.self.inside.reasons.items c.forget.new.reasons c.self.inside.reasons.len
    c.self.inside.reasons.ok.0 (c.forget.ensures ∙ ap no_reasons c.deref_mut-2.ensures.value) in
    let left = rw (c.choices-choices.ensures, c.deref-2.ensures.value, level_is) at c.leave.ensures in (
      rw (listed, forgotten, level_is)
          (stand_restarted (the_view c.self.inside) c.self.inside.premises c.leave.new.believed c.self.invariant.0
          c.self.invariant.0.numbered c.self.invariant.0.few refl
          (left (users_of (the_view c.self.inside)) (users_no_sides (the_view c.self.inside) c.self.invariant.0)
          c.self.invariant.0.believes)),
      none_below_zero c.self.inside.store (set_of c.leave.new.believed),
      tt,
    )

pub returns-clause-search : goal.returns-clause-search
returns-clause-search c problem h =
    let level_is : c.level_first-level.result ≡ level_first c.self.inside.level c.self.inside.list.items =
    rw c.deref.ensures.value at c.level_first-level.ensures in
    let list_is : c.put_first.new.list ≡ first_sides c.self.inside.list.items =
    rw c.deref_mut.ensures.value at c.put_first.ensures in
    let listed = written c.self.inside.list.items c.put_first.new.list c.self.inside.list.len
    (omega (arith, ap length list_is, firsts_length c.self.inside.list.items, c.self.inside.list.ok)) ∙ list_is in
    let forgotten = reasons_forgotten c.self.inside.reasons.items c.forget.new.reasons c.self.inside.reasons.len
    c.self.inside.reasons.ok.0 (c.forget.ensures ∙ ap no_reasons c.deref_mut-2.ensures.value) in
    rw (listed, forgotten, level_is) (search_restarted problem (the_view c.self.inside) c.self.inside.premises
    c.leave.new.believed refl (rw (← c.self.view_is) at h))
