use Rattle.std.proofs.Common.{◌≡◌, ◌<◌, ◌∙◌, is_some, length, refl, sym, true, arith}
use Rattle.prop_amb.specs.contracts.search.Search.{the_view}
use Rattle.prop_amb.proofs.AheadLaws.{left_there, some_ahead, none_last, ahead_next, none_next, next_refuted}
use Rattle.prop_amb.proofs.FromLaws.{none_below_deeper}
use Rattle.prop_amb.proofs.LookingLaws.{choices_count}
use Rattle.prop_amb.proofs.SkippingLaws.{not_whole}
use Rattle.prop_amb.proofs.search.Search.refuted_next.Goals as goal
use Rattle.prop_amb.proofs.search.Search.refuted_next.Goals.{then-is_some-via-then-is_some}
use Rattle.prop_amb.proofs.search.Search.refuted_next.Goals.{then-is_some-via-else-is_some+then-is_whole}

pub returns-then-is_some-clause-none : goal.returns-then-is_some-clause-none
returns-then-is_some-clause-none c = λ _. elim c.then-is_some.branch [
  | then-is_some-via-then-is_some w ↦
      let some : is_some c.self.inside.ahead ≡ true = sym c.is_some.ensures ∙ w.if-is_some.true in
      rw (← c.self.view_is) (some_ahead (the_view c.self.inside) c.self.inside.ahead some c.self.invariant.2)
  | then-is_some-via-else-is_some+then-is_whole w ↦
      not_whole c.args.self.now (w.is_whole.ensures.whole.0 w.if-is_whole.true)
]

pub bounds-choices-self-inside : goal.bounds-choices-self-inside
bounds-choices-self-inside c =
    let left = left_there c.args.self.now c.is_whole.result c.is_whole.ensures.stand c.is_whole.ensures.whole
    c.if-is_whole.false in
    let below : c.self.inside.level < length c.self.inside.list.items = rw (← c.self.view_is) at left in
    rw c.choices.ensures (omega (arith, below, choices_count (the_view c.self.inside) c.self.invariant.0))

pub offset_bounds-choices-self-inside : goal.offset_bounds-choices-self-inside
offset_bounds-choices-self-inside c =
    let below : c.self.inside.level < length c.choices.result.now = bounds-choices-self-inside c in
    omega (arith, below, c.choices.type_inv)

pub returns-then-index-choice-clause-none : goal.returns-then-index-choice-clause-none
returns-then-index-choice-clause-none c = λ _.
    let left = left_there c.args.self.now c.is_whole.result c.is_whole.ensures.stand c.is_whole.ensures.whole
    c.if-is_whole.false in
    let below : c.self.inside.level < length c.self.inside.list.items = rw (← c.self.view_is) at left in
    rw (← c.self.view_is) (none_last (the_view c.self.inside) c.choices.result.now (record { first = 0; sides = 0 })
    c.index.result.now c.self.invariant.0 c.choices.ensures below
    (omega (arith, c.if-index-choice.true, c.index.ensures)))

pub blocks_from-requires : goal.blocks_from-requires
blocks_from-requires c = none_below_deeper c.self.inside.store c.self.inside.worldview c.in_ok-deeper.deeper _
    (rw (← c.self.view_is) at c.requires) c.in_ok-deeper.ensures

pub returns-in-Some-clause-next : goal.returns-in-Some-clause-next
returns-in-Some-clause-next c =
    let left = left_there c.args.self.now c.is_whole.result c.is_whole.ensures.stand c.is_whole.ensures.whole
    c.if-is_whole.false in
    let below : c.self.inside.level < length c.self.inside.list.items = rw (← c.self.view_is) at left in
    rw (← c.self.view_is, c.in_ok-copy.ensures)
    (next_refuted (the_view c.self.inside) c.choices.result.now (record { first = 0; sides = 0 }) c.index.result.now
    c.side_at-side.result c.in_ok-deeper.deeper c.self.invariant.0 c.choices.ensures below
    (rw (← c.self.view_is) at c.side_at-side.ensures.side) c.in_ok-deeper.ensures c.in-Some.nogood.now
    c.in-Some.ensures.listed c.in-Some.ensures.believed (omega (arith, c.if-index-choice.false, c.index.ensures))
    (rw (← c.self.view_is) at c.requires))

pub invariant_of-self : goal.invariant_of-self
invariant_of-self c =
    let left = left_there c.args.self.now c.is_whole.result c.is_whole.ensures.stand c.is_whole.ensures.whole
    c.if-is_whole.false in
    let below : c.self.inside.level < length c.self.inside.list.items = rw (← c.self.view_is) at left in (
      c.self.invariant.0,
      c.self.invariant.1,
      ahead_next (the_view c.self.inside) c.choices.result.now (record { first = 0; sides = 0 }) 0 c.side_at-side.result
          c.in_ok-deeper.deeper c.self.invariant.0 c.choices.ensures below
          (rw (← c.self.view_is) at c.side_at-side.ensures.side) c.in_ok-deeper.ensures
          (c.in_default.ensures.none refl),
    )

pub returns-clause-none : goal.returns-clause-none
returns-clause-none c = λ _.
    let left = left_there c.args.self.now c.is_whole.result c.is_whole.ensures.stand c.is_whole.ensures.whole
    c.if-is_whole.false in
    let below : c.self.inside.level < length c.self.inside.list.items = rw (← c.self.view_is) at left in
    rw (← c.self.view_is) (none_next (the_view c.self.inside) c.choices.result.now (record { first = 0; sides = 0 }) 0
    c.side_at-side.result c.in_ok-deeper.deeper c.self.invariant.0 c.choices.ensures below
    (rw (← c.self.view_is) at c.side_at-side.ensures.side) c.in_ok-deeper.ensures (c.in_default.ensures.none refl))
