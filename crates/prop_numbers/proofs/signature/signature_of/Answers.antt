use Rattle.std.proofs.Common.{arith}
use Rattle.prop_numbers.specs.Signatures.{remainders}
use Rattle.prop_numbers.proofs.SignatureLemmas.{of_no_word, of_one_more, of_words}
use Rattle.prop_numbers.proofs.signature.signature_of.Goals as goal

pub loop-place-init : goal.loop-place-init
loop-place-init c = of_no_word c.args.first c.args.words.now _ c.none-signature.ensures

pub loop-place-preserved : goal.loop-place-preserved
loop-place-preserved c =
    of_one_more c.args.first c.args.words.now c.loop-place.place (remainders c.loop-place.signature) _
    c.loop-place.invariant c.with_word-signature.ensures

pub returns : goal.returns
returns c =
    of_words c.args.first c.args.words.now c.loop-place.place (remainders c.loop-place.signature)
    (omega (arith, c.loop-place-test.false)) c.loop-place.invariant
