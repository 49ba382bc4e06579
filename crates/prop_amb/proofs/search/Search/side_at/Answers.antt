use Rattle.std.proofs.Common.{◌∙◌, ◌<◌, ap, arith, length, sym}
use Rattle.std.proofs.lemmas.Option.{same_Some}
use Rattle.prop_amb.specs.contracts.search.Search.{the_view}
use Rattle.prop_amb.proofs.LookingLaws.{choices_count, stands_here, is_its_side, side_small}
use Rattle.prop_amb.proofs.SteppingLaws.{same_side}
use Rattle.prop_amb.proofs.search.Search.side_at.Goals as goal

pub offset_bounds-choices-place : goal.offset_bounds-choices-place
offset_bounds-choices-place c =
    let l : c.args.place < length c.self.inside.list.items = rw (← c.self.view_is) at c.requires in
    omega (
      arith,
      l,
      choices_count (the_view c.self.inside) c.self.invariant.0,
      c.choices.type_inv,
      ap length c.choices.ensures,
    )

pub bounds-choices-place : goal.bounds-choices-place
bounds-choices-place c =
    let l : c.args.place < length c.self.inside.list.items = rw (← c.self.view_is) at c.requires in
    omega (arith, l, choices_count (the_view c.self.inside) c.self.invariant.0, ap length c.choices.ensures)

pub overflow_sub-index : goal.overflow_sub-index
overflow_sub-index c =
    let here = stands_here (the_view c.self.inside) c.args.self.now c.args.place c.choices.result.now
    (record { first = 0; sides = 0 }) c.index.result.now c.self.view_is c.self.invariant.0 c.requires c.choices.ensures
    c.index.ensures in
    (is_its_side c.args.self.now c.args.place _ c.index.result.now here).0

pub overflow_add-result : goal.overflow_add-result
overflow_add-result c =
    let here = stands_here (the_view c.self.inside) c.args.self.now c.args.place c.choices.result.now
    (record { first = 0; sides = 0 }) c.index.result.now c.self.view_is c.self.invariant.0 c.requires c.choices.ensures
    c.index.ensures in
    let small = side_small c.args.self.now c.args.place _ c.index.result.now here
    (length c.self.inside.premises) (rw (← c.self.view_is) c.self.invariant.0.numbered.below) in
    omega (arith, small, c.from.ensures, c.self.invariant.0.few)

pub returns : goal.returns
returns c =
    let here = stands_here (the_view c.self.inside) c.args.self.now c.args.place c.choices.result.now
    (record { first = 0; sides = 0 }) c.index.result.now c.self.view_is c.self.invariant.0 c.requires c.choices.ensures
    c.index.ensures in
    record {
      side = λ choice side choice_at side_at.
          same_side _ choice c.index.result.now side c.from.result c.from.ensures
          (same_Some _ _ (sym here.choice_at ∙ choice_at)) (same_Some _ _ (sym here.side_at ∙ side_at));
    }
