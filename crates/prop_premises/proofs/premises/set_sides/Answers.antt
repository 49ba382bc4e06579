use Rattle.std.proofs.Common.{◌≡◌, ◌+◌, ◌-◌, ◌∙◌, arith, get_or, ◌||◌, Bool, true, false, drop, sym, ap, refl}
use Rattle.std.proofs.lemmas.List.{drop_all}
use Rattle.prop_premises.specs.ChoiceLists.{hypotheticals_of}
use Rattle.prop_numbers.specs.Words.{has_bit}
use Rattle.prop_premises.specs.declared.choice.Choice.{Choice}
use Rattle.prop_premises.proofs.SideLemmas.{taken, taken_is_hypothetical, with_side}
use Rattle.prop_premises.proofs.premises.set_sides.Goals as goal

none : Choice
none = record { first = 0; sides = 0 }

pub bounds-sides-place : goal.bounds-sides-place
bounds-sides-place c = (taken c.args.choices.now c.args.sides.now c.loop-place.place none 0 c.requires.list
    c.loop-place-test.true).within

pub overflow_sub-side : goal.overflow_sub-side
overflow_sub-side c =
    let t = taken c.args.choices.now c.args.sides.now c.loop-place.place none 0 c.requires.list c.loop-place-test.true
    in
    omega (arith, c.from-side.ensures, t.least)

pub overflow_add-choices : goal.overflow_add-choices
unfolding none
overflow_add-choices c =
    let room = c.requires.room _ (taken_is_hypothetical c.args.choices.now c.args.sides.now c.loop-place.place none 0
    c.requires.list c.loop-place-test.true) in
    omega (arith, room, c.requires.bound, c.from-side.ensures)

pub set_bit-requires : goal.set_bit-requires
unfolding none
set_bit-requires c =
    let room = c.requires.room _ (taken_is_hypothetical c.args.choices.now c.args.sides.now c.loop-place.place none 0
    c.requires.list c.loop-place-test.true) in
    omega (arith, room, c.loop-place.invariant.len, c.from-side.ensures)

pub returns-clause-bits : goal.returns-clause-bits
returns-clause-bits c p =
    let none_left = drop_all c.loop-place.place c.args.choices.now (omega (arith, c.loop-place-test.false)) in
    sym (or_none (has_bit c.loop-place.words p))
    ∙ ap (λ l. has_bit c.loop-place.words p || hypotheticals_of l (drop c.loop-place.place c.args.sides.now) p)
    (sym none_left) ∙ c.loop-place.invariant.bits p
  where
    or_none : (b : Bool) → (b || false) ≡ b
    or_none true = refl
    or_none false = refl

pub loop-place-preserved : goal.loop-place-preserved
unfolding none
loop-place-preserved c =
    let k = c.loop-place.place in
    let number = (get_or c.args.choices.now k none).first + (c.from-side.result - 1) in
    let at : number ≡ (get_or c.args.choices.now k none).first + (get_or c.args.sides.now k 0 - 1) =
    omega (arith, c.from-side.ensures) in
    record {
      len = c.set_bit.ensures.len ∙ c.loop-place.invariant.len;
      bits = λ p. with_side (has_bit c.loop-place.words) (has_bit c.set_bit.new.words) c.args.choices.now
          c.args.sides.now k none 0 number c.requires.list c.loop-place-test.true at c.set_bit.ensures.bits p
          ∙ c.loop-place.invariant.bits p;
    }
