use Rattle.std.proofs.Common.{arith, ◌≡◌, ◌∙◌, neg_ℤ, to_z, w64}
use Rattle.std.specs.Prelude.{int_le, if◌then◌else◌}
use Rattle.std.specs.Int.{int_max, int_min}
use Rattle.std.proofs.lemmas.Int.{ints, clamps}
use Rattle.prop_lattice.specs.Ends.{span_from}
use Rattle.prop_intervals.proofs.RootLemmas.{chosen, not_chosen}
use Rattle.prop_intervals.proofs.roots.at_distance.Goals as goal
use Rattle.prop_intervals.proofs.roots.at_distance.Goals.{then-below_first-below_last, else-below_first-below_last}
use Rattle.prop_intervals.proofs.roots.at_distance.Goals.{then-above_first-above_last, else-above_first-above_last}

pub returns : goal.returns
returns c =
    let a = int_max c.args.lo (neg_ℤ c.args.greatest) in
    let b = int_min c.args.hi (neg_ℤ c.args.least) in
    let d = int_max c.args.lo c.args.least in
    let e = int_min c.args.hi c.args.greatest in
    let x = to_z w64 c.if-below_first-below_last.first-bits in
    let y = to_z w64 c.if-above_first-above_last.last-bits in
    let first : x ≡ (if int_le a b then a else d) = elim c.if-below_first-below_last.branch [
      | then-below_first-below_last w ↦ chosen a b a d x (omega (arith, ints, clamps)) (omega (arith, ints, clamps))
      | else-below_first-below_last w ↦ not_chosen a b a d x (omega (arith, ints, clamps)) (omega (arith, ints, clamps))
    ]
    in
    let last : y ≡ (if int_le d e then e else b) = elim c.if-above_first-above_last.branch [
      | then-above_first-above_last w ↦ chosen d e e b y (omega (arith, ints, clamps)) (omega (arith, ints, clamps))
      | else-above_first-above_last w ↦ not_chosen d e e b y (omega (arith, ints, clamps)) (omega (arith, ints, clamps))
    ]
    in
    c.between.ensures ∙ (λ i. span_from (first i) (last i))
