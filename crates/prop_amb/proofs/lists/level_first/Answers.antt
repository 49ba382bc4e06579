use Rattle.std.proofs.Common.{◌≡◌, sym, arith, inl, inr, slice_index_or}
use Rattle.std.proofs.lemmas.Bool.{cases_eq}
use Rattle.prop_amb.proofs.LevelLaws.{first_up_to, first_to_there}
use Rattle.prop_amb.proofs.lists.level_first.Goals as goal

pub loop-place-init : goal.loop-place-init
loop-place-init c = record { firsts = λ i below. absurd (omega (arith, below)) }

pub returns-then-list-place-ne1 : goal.returns-then-list-place-ne1
returns-then-list-place-ne1 c = sym (first_to_there c.args.level c.args.list.now c.loop-place.place
    c.loop-place-test.true c.requires c.loop-place.invariant.firsts c.if-list-place-ne1.true)

pub loop-place-preserved : goal.loop-place-preserved
loop-place-preserved c = record {
  firsts = λ i below. elim (cases_eq i c.loop-place.place) as (λ _. slice_index_or c.args.list.now i 0 ≡ 1) [
    | inl same ↦ rw same c.if-list-place-ne1.false
    | inr apart ↦ c.loop-place.invariant.firsts i (omega (arith, below, apart))
  ];
}

pub returns : goal.returns
returns c =
    let end : c.loop-place.place ≡ c.args.level = omega (arith, c.loop-place-test.false, c.loop-place.auto.place-end) in
    sym (first_up_to c.args.level c.args.list.now c.requires (rw end at c.loop-place.invariant.firsts))
