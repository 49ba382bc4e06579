use Rattle.std.proofs.Common.{◌≡◌, ◌-◌, ◌*◌, ◌+◌, ◌/◌, ◌%◌, ◌∙◌, true, sym, ap, arith, subst, inl, inr, get_or}
use Rattle.std.specs.Int.{w64}
use Rattle.std.proofs.Math.Facts.{Fits-lt-pow}
use Rattle.std.proofs.lemmas.Bool.{cases_lt}
use Rattle.prop_numbers.specs.Sets.{set_of}
use Rattle.prop_numbers.specs.Words.{is_set, has_bit, numbers_from}
use Rattle.prop_numbers.proofs.BitLemmas.{is_set-part, is_set-apart}
use Rattle.prop_numbers.proofs.PlaceLemmas.{from_in, own_bit, word_bit}
use Rattle.prop_numbers.proofs.WordLemmas.{within_words}
use Rattle.prop_numbers.proofs.bits.is_part.Goals as goal

pub returns-then-words-place-ne0-clause-apart : goal.returns-then-words-place-ne0-clause-apart
returns-then-words-place-ne0-clause-apart c = λ _.
    let place = c.loop-place.place in
    let out = is_set-apart (get_or c.args.words.now place 0) c.word_from.result
    (Fits-lt-pow {w = w64} (c.type_inv.words place))
    (omega arith) c.if-words-place-ne0.true in (
      64 * (c.args.first + place) + out.0,
      own_bit c.args.first place out.0 c.args.words.now out.1 ∙ out.2,
      word_bit c.args.others_first (c.args.first + place) c.word_from.result out.0 c.args.others.now
          c.word_from.ensures.before c.word_from.ensures.from out.1 ∙ out.3,
    )

pub loop-place-preserved : goal.loop-place-preserved
loop-place-preserved c k i l m h = elim (cases_lt k c.loop-place.place) [
  | inl below ↦ c.loop-place.invariant k i below m h
  | inr above ↦ (
      let here : k ≡ c.loop-place.place = omega (arith, l, above) in
      ap (λ n. set_of (numbers_from (64 * c.args.others_first) c.args.others.now) (64 * (c.args.first + n) + i)) here
      ∙ word_bit c.args.others_first (c.args.first + c.loop-place.place) c.word_from.result i c.args.others.now
      c.word_from.ensures.before c.word_from.ensures.from m
      ∙ is_set-part (get_or c.args.words.now c.loop-place.place 0) c.word_from.result i (omega arith) m
      c.if-words-place-ne0.false
      (ap (λ n. is_set (get_or c.args.words.now n 0) i) (sym here) ∙ h))
]

pub returns-clause-part : goal.returns-clause-part
unfolding has_bit
returns-clause-part c = λ _ p h.
    let there = from_in (64 * c.args.first) p c.args.words.now h in
    let q = p - 64 * c.args.first in
    let within = within_words c.args.words.now q there.1 in
    let at : 64 * (c.args.first + q / 64) + q % 64 ≡ p = omega (arith, there.0) in
    subst (λ n. set_of (numbers_from (64 * c.args.others_first) c.args.others.now) n ≡ true) at
    (c.loop-place.invariant (q / 64) (q % 64) (omega (arith, within, c.loop-place-test.false)) (omega arith) there.1)
