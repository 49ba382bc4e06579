use Rattle.std.proofs.Common.{arith, ◌≡◌, ◌-ℤ◌, neg_ℤ, pos}
use Rattle.std.specs.Int.{int_min}
use Rattle.prop_lattice.specs.declared.span.TheConstants.{B}
use Rattle.prop_lattice.specs.declared.info.Info.TheVariants.{Contradiction}
use Rattle.prop_wide.specs.Ends.{low_of, high_of, part_of}
use Rattle.std.proofs.lemmas.Int.{ints, clamps}
use Rattle.prop_wide.proofs.SameEnds.{part_is, not_less}
use Rattle.prop_wide.proofs.quotients.divisors_below.Goals as goal

pub returns : goal.returns
returns c =
    let y = c.args.y in
    let part : c.part_of.result ≡ part_of y (neg_ℤ B) (int_min (high_of c.args.r) (pos 0) -ℤ pos 1) =
    part_is y _ _ _ _ _ c.part_of.ensures (omega (arith, ints, clamps)) (omega (arith, ints, clamps)) in
    not_less (pos 0) (low_of c.args.r) Contradiction (part_of y (neg_ℤ B) (int_min (high_of c.args.r) (pos 0) -ℤ pos 1))
    c.part_of.result (omega (arith, ints)) part
