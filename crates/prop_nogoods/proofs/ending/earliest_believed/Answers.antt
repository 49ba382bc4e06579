use Rattle.std.proofs.Common.{◌≡◌, ◌∙◌, ◌-◌, length, take, drop, All, Contains, arith, ap, subst, refl}
use Rattle.std.proofs.Math.Seq.{take-length}
use Rattle.std.proofs.lemmas.List.Elements.{All-more}
use Rattle.prop_numbers.specs.Sets.{set_of}
use Rattle.prop_nogoods.specs.inner.Endings.{Group, sets_of}
use Rattle.prop_nogoods.proofs.EndingLemmas.{EndsBelow, group_contains}
use Rattle.prop_nogoods.proofs.OrderLemmas.{all_end_below_place, behind_contains, rest_is}
use Rattle.prop_nogoods.proofs.ending.earliest_believed.Goals as goal

pub returns-in-Some-clause-listed : goal.returns-in-Some-clause-listed
returns-in-Some-clause-listed c =
    let n = c.in-Some.nogood.now in
    let gs = c.args.endings.now in
    let place = c.place_for-place.result in
    let rest = take (length gs - place) (drop place gs) in
    behind_contains gs place n (subst (λ hs. Contains (sets_of hs) n) (rest_is gs place)
    (group_contains rest c.loop-ending.ending-index c.ending-item.result n c.loop-ending-test.true
    (subst (λ (g : Group). Contains g.sets n) c.ending-item.is c.in-Some.ensures.listed)))

pub loop-ending-preserved : goal.loop-ending-preserved
loop-ending-preserved c =
    let below = EndsBelow (set_of c.args.worldview.now) c.args.from in
    let gs = c.args.endings.now in
    let place = c.place_for-place.result in
    All-more below (take (length gs - place) (drop place gs)) c.loop-ending.ending-index c.ending-item.result
    c.loop-ending-test.true c.loop-ending.invariant
    (subst below c.ending-item.is (c.in_default.ensures.none refl))

pub returns-clause-none : goal.returns-clause-none
returns-clause-none c none =
    let gs = c.args.endings.now in
    let place = c.place_for-place.result in
    let rest = take (length gs - place) (drop place gs) in
    let w = set_of c.args.worldview.now in
    let end : c.loop-ending.ending-index ≡ length rest =
    omega (arith, c.loop-ending-test.false, c.loop-ending.auto.ending-index-end) in
    all_end_below_place w c.args.from place gs c.place_for-place.ensures.bound c.place_for-place.ensures.between
    c.requires
    (subst (All (EndsBelow w c.args.from)) (ap (λ n. take n rest) end ∙ take-length rest ∙ rest_is gs place)
    c.loop-ending.invariant)
