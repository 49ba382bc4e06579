use Rattle.std.proofs.Common.{arith, ◌≡◌, ◌∙◌, sym, false, to_z, of_z, w64}
use Rattle.std.proofs.lemmas.Int.{ints, clamps}
use Rattle.prop_wide.specs.Ends.{low_of, high_of}
use Rattle.prop_wide.specs.Quotients.{is_zero}
use Rattle.prop_wide.proofs.SameEnds.{known_is}
use Rattle.prop_wide.proofs.quotients.remainderer.Goals as goal

pub returns : goal.returns
returns c =
    let y = c.args.y in
    let lows : to_z w64 (of_z w64 c.low_of-low.result) ≡ low_of y = omega (arith, ints) in
    let highs : to_z w64 (of_z w64 c.high_of-high.result) ≡ high_of y = omega (arith, ints) in
    let apart : is_zero (low_of y) (high_of y) ≡ false =
    (λ i. is_zero (sym lows i) (sym highs i)) ∙ sym c.is_zero.ensures ∙ c.if-is_zero.false in
    rw apart
    (known_is _ _ _ _ _ c.known.ensures (omega (arith, ints, clamps)) (omega (arith, ints, clamps)))
