use Rattle.std.proofs.Common.{arith, refl, ◌≡◌, ◌*ℤ◌, ◌-ℤ◌, ◌≤ℤ◌, ◌^◌, pos, neg_ℤ, to_z, of_z, w64}
use Rattle.std.proofs.lemmas.Int.{ints}
use Rattle.prop_intervals.proofs.WideLemmas.{scaled_parts}
use Rattle.prop_intervals.proofs.quotients.smallest_dividend.Goals as goal

parts : (c : goal.After-product) → (c.product.result ≡ c.args.k *ℤ (c.args.z.lo -ℤ pos 1))
    × (neg_ℤ (pos (2 ^ 90)) ≤ℤ c.product.result) × (c.product.result ≤ℤ pos (2 ^ 90))
parts c = scaled_parts c.args.k (to_z w64 (of_z w64 c.lo.result) -ℤ pos 1) c.args.k (c.args.z.lo -ℤ pos 1)
    c.product.result c.product.ensures.value refl (omega (arith, ints)) c.requires.0 c.requires.1 (omega (arith, ints))
    (omega (arith, ints))

pub returns-clause-value : goal.returns-clause-value
returns-clause-value c = omega (arith, ints, parts c)

pub returns-clause-least : goal.returns-clause-least
returns-clause-least c = omega (arith, ints, parts c)

pub returns-clause-greatest : goal.returns-clause-greatest
returns-clause-greatest c = omega (arith, ints, parts c)
