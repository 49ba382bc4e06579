use Rattle.std.proofs.Common.{◌∙◌, arith, ℤ, neg_ℤ, pos, ◌^◌, ◌≤ℤ◌}
use Rattle.std.proofs.lemmas.Int.{ints}
use Rattle.prop_lattice.specs.declared.span.TheConstants.{B}
use Rattle.prop_rows.specs.Sums.{shares_of}
use Rattle.prop_rows.proofs.CornerLemmas.{opposite_back, parts_under}
use Rattle.prop_rows.proofs.sums.parts.Goals as goal

pub returns-then-c-lt0 : goal.returns-then-c-lt0
returns-then-c-lt0 c =
    let a = c.args.a in
    let b = c.args.b in
    let d = c.args.c in
    let m = opposite_back a c.requires.least.0 c.requires.greatest.0 in
    let n = opposite_back b c.requires.least.1 c.requires.greatest.1 in
    let o = opposite_back d (wide d c.requires.factor.0) (narrow d c.requires.factor.1) in
    c.shares-then-c-lt0.ensures ∙ (λ i. shares_of (n i) (m i) (o i)) ∙ parts_under a b d (omega (arith, ints))
  where
    wide : (z : ℤ) → neg_ℤ B ≤ℤ z → neg_ℤ (pos (2 ^ 126)) ≤ℤ z
    wide z h = omega (arith, ints)

    narrow : (z : ℤ) → z ≤ℤ B → z ≤ℤ pos (2 ^ 126)
    narrow z h = omega (arith, ints)
