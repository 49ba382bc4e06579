use Rattle.prop_numbers.specs.Signatures.{remainders}
use Rattle.prop_numbers.proofs.SignatureLemmas.{AreOfFirst}
use Rattle.prop_numbers.proofs.signature.signature_of.Given as goal

abbrev pub invariant-loop-place : goal.invariant-loop-place
invariant-loop-place l = AreOfFirst l.first l.words l.place (remainders l.signature)
