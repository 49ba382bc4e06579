use Rattle.std.proofs.Common.{◌≡◌, ◌∙◌, ◌<◌, ◌-◌, false, length, get_or, take, drop, All, arith, ap, subst, sym, refl}
use Rattle.std.proofs.Math.Seq.{take-length}
use Rattle.std.proofs.lemmas.List.Elements.{All-more}
use Rattle.prop_numbers.specs.Sets.{set_of}
use Rattle.prop_nogoods.specs.Stores.{has_part}
use Rattle.prop_nogoods.specs.inner.Endings.{Group}
use Rattle.prop_nogoods.specs.inner.Stores.{IsPartOfNone}
use Rattle.prop_nogoods.proofs.AmongLemmas.{no_part_behind, part_of_none_behind}
use Rattle.prop_nogoods.proofs.OrderLemmas.{rest_is}
use Rattle.prop_nogoods.proofs.ending.has_larger_among.Goals as goal

pub has_larger-requires-clause-no_part : goal.has_larger-requires-clause-no_part
has_larger-requires-clause-no_part c =
    let gs = c.args.endings.now in
    let place = c.place_for-place.result in
    let w = set_of c.args.nogood.now in
    let i = c.loop-ending.ending-index in
    let it = c.ending-item.result in
    let at : it ≡ get_or (drop place gs) i it = c.ending-item.is ∙ ap (λ hs. get_or hs i it) (rest_is gs place) in
    let within : i < length (drop place gs) = subst (λ hs. i < length hs) (rest_is gs place) c.loop-ending-test.true in
    subst (λ (g : Group). has_part g.sets w ≡ false) (sym at) (no_part_behind gs place i it w within c.requires.no_part)

pub loop-ending-preserved : goal.loop-ending-preserved
loop-ending-preserved c =
    let of_none = λ (g : Group). IsPartOfNone g.sets c.args.nogood.now in
    let gs = c.args.endings.now in
    let place = c.place_for-place.result in
    All-more of_none (take (length gs - place) (drop place gs)) c.loop-ending.ending-index c.ending-item.result
    c.loop-ending-test.true c.loop-ending.invariant
    (subst of_none c.ending-item.is (c.if-has_larger.ensures refl))

pub returns : goal.returns
returns c none =
    let of_none = λ (g : Group). IsPartOfNone g.sets c.args.nogood.now in
    let gs = c.args.endings.now in
    let place = c.place_for-place.result in
    let rest = take (length gs - place) (drop place gs) in
    let end : c.loop-ending.ending-index ≡ length rest =
    omega (arith, c.loop-ending-test.false, c.loop-ending.auto.ending-index-end) in
    part_of_none_behind c.last.result gs place c.args.nogood.now c.last.ensures c.place_for-place.ensures.between
    c.requires.groups
    (subst (All of_none) (ap (λ n. take n rest) end ∙ take-length rest ∙ rest_is gs place) c.loop-ending.invariant)
