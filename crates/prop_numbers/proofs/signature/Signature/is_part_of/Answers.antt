use Rattle.std.proofs.Common.{◌≡◌, arith, bit_and}
use Rattle.std.specs.Int.{bit_not, w64}
use Rattle.std.proofs.lemmas.Bool.Decides.{nat_tests}
use Rattle.prop_numbers.proofs.SignatureLemmas.{part_of_both, first_part, second_part}
use Rattle.prop_numbers.proofs.signature.Signature.is_part_of.Goals as goal

pub returns-then-self-other-eq0 : goal.returns-then-self-other-eq0
returns-then-self-other-eq0 c =
    let s = c.args.self in
    let o = c.args.other in
    let even = c.if-self-other-eq0.true in (
      λ t.
          let odd : bit_and s.odd (bit_not w64 o.odd) ≡ 0 = grind (arith, nat_tests) in
          part_of_both s.even s.odd o.even o.odd (omega arith) (omega arith) (omega arith) (omega arith) even odd,
      λ part.
          let odd = second_part s.even s.odd o.even o.odd (omega arith) (omega arith) (omega arith) (omega arith)
          part in
          grind (arith, nat_tests),
    )

pub returns-else-self-other-eq0 : goal.returns-else-self-other-eq0
returns-else-self-other-eq0 c =
    let s = c.args.self in
    let o = c.args.other in
    let some = c.if-self-other-eq0.false in (
      λ t.
          let even : bit_and s.even (bit_not w64 o.even) ≡ 0 = grind (arith, nat_tests) in
          absurd (some even),
      λ part.
          let even = first_part s.even s.odd o.even o.odd (omega arith) (omega arith) (omega arith) (omega arith)
          part in
          absurd (some even),
    )
