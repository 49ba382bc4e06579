use Rattle.std.proofs.Common.{◌-◌, ◌/◌, arith, inl, inr}
use Rattle.std.proofs.lemmas.Bool.{cases_lt}
use Rattle.prop_numbers.proofs.PlaceLemmas.{united_before, united_here, united_past}
use Rattle.prop_numbers.proofs.bits.unite.Goals as goal

pub returns-clause-bits : goal.returns-clause-bits
returns-clause-bits c p = elim (cases_lt (p / 64) c.args.at) [
  | inl before ↦ united_before c.args.at p c.args.words.now c.args.more.now c.loop-place.words before
      (c.loop-place.invariant.left (p / 64) (inl before))
  | inr from ↦ elim (cases_lt (p / 64 - c.args.at) c.loop-place.place) [
    | inl below ↦ united_here c.args.at p c.args.words.now c.args.more.now c.loop-place.words from
        (c.loop-place.invariant.done (p / 64 - c.args.at) below)
    | inr above ↦ united_past c.args.at p c.args.words.now c.args.more.now c.loop-place.words from
        (omega (arith, above, c.loop-place-test.false))
        (c.loop-place.invariant.left (p / 64) (inr (omega (arith, above, from))))
  ]
]
