use Rattle.std.proofs.Common.{◌≡◌, ◌-◌, ◌<◌, length, take, subst, arith}
use Rattle.prop_numbers.specs.Sets.{set_of, IsSame}
use Rattle.prop_premises.specs.ChoiceLists.{worldview, IsSide}
use Rattle.prop_amb.proofs.ZipLemmas.{zip_length}
use Rattle.prop_amb.proofs.LeavingLaws.{taken_there, left_one}
use Rattle.prop_amb.proofs.levels.leave.Goals as goal

pub loop-place-init : goal.loop-place-init
loop-place-init c = record { least = c.requires.from; kept = λ users apart same. same }

pub overflow_sub-list : goal.overflow_sub-list
overflow_sub-list c =
    let below : c.loop-place.place - 1 < length c.args.list.now =
    omega (arith, c.loop-place-test.true, c.loop-place.auto.place, c.requires.level) in
    let taken = taken_there c.args.choices.now c.args.list.now (c.loop-place.place - 1)
    (record { first = 0; sides = 0 }) 0 c.requires.list below in
    taken.is_side.0

pub offset_bounds-choices-place : goal.offset_bounds-choices-place
offset_bounds-choices-place c =
    let below : c.loop-place.place - 1 < length c.args.list.now =
    omega (arith, c.loop-place-test.true, c.loop-place.auto.place, c.requires.level) in
    let same = zip_length IsSide c.args.choices.now c.args.list.now c.requires.list in
    omega (arith, below, same, c.requires.room)

pub bounds-choices-place : goal.bounds-choices-place
bounds-choices-place c =
    let below : c.loop-place.place - 1 < length c.args.list.now =
    omega (arith, c.loop-place-test.true, c.loop-place.auto.place, c.requires.level) in
    let same = zip_length IsSide c.args.choices.now c.args.list.now c.requires.list in
    omega (arith, below, same)

pub overflow_add-choices : goal.overflow_add-choices
overflow_add-choices c =
    let below : c.loop-place.place - 1 < length c.args.list.now =
    omega (arith, c.loop-place-test.true, c.loop-place.auto.place, c.requires.level) in
    let taken = taken_there c.args.choices.now c.args.list.now (c.loop-place.place - 1)
    (record { first = 0; sides = 0 }) 0 c.requires.list below in
    let small = c.requires.small _ taken.its in
    omega (arith, small, c.from-side.ensures)

pub loop-place-preserved : goal.loop-place-preserved
loop-place-preserved c =
    let below : c.loop-place.place - 1 < length c.args.list.now =
    omega (arith, c.loop-place-test.true, c.loop-place.auto.place, c.requires.level) in
    let taken = taken_there c.args.choices.now c.args.list.now (c.loop-place.place - 1)
    (record { first = 0; sides = 0 }) 0 c.requires.list below in
    record {
      least = omega (arith, c.loop-place-test.true);
      kept = λ users apart same.
          left_one (set_of c.loop-place.believed) (set_of c.disbelieve.new.self) users c.args.choices.now
          c.args.list.now c.loop-place.place (c.loop-place.place - 1) _ _ (omega (arith, c.loop-place-test.true))
          c.requires.order c.requires.list taken apart
          (rw c.from-side.ensures at c.disbelieve.ensures) (c.loop-place.invariant.kept users apart same);
    }

pub returns : goal.returns
returns c users apart same =
    let end : c.loop-place.place ≡ c.args.from = omega (arith, c.loop-place.invariant.least, c.loop-place-test.false) in
    subst (λ n. IsSame (set_of c.loop-place.believed) (worldview users c.args.choices.now (take n c.args.list.now))) end
    (c.loop-place.invariant.kept users apart same)
