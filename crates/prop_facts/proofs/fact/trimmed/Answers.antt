use Rattle.std.proofs.Common.{arith, pos, ◌+ℤ◌, ◌-ℤ◌}
use Rattle.std.proofs.lemmas.Int.{ints}
use Rattle.prop_facts.proofs.FactLemmas.{high_end_goes, holds_within, low_end_goes}
use Rattle.prop_facts.proofs.fact.trimmed.Goals as goal

pub returns-then-n-lo-clause-left : goal.returns-then-n-lo-clause-left
returns-then-n-lo-clause-left c = low_end_goes _ c.args.n _ _ c.args.span c.between.ensures (omega (arith, ints))
    (omega (arith, ints)) (omega (arith, ints))

pub returns-then-n-lo-clause-within : goal.returns-then-n-lo-clause-within
returns-then-n-lo-clause-within c = holds_within _ (c.args.n +ℤ pos 1) c.args.span.hi _ _ c.args.span c.between.ensures
    (omega (arith, ints)) (omega (arith, ints)) (omega (arith, ints)) (omega (arith, ints))

pub returns-then-n-hi-clause-left : goal.returns-then-n-hi-clause-left
returns-then-n-hi-clause-left c = high_end_goes _ c.args.n _ _ c.args.span c.between-then-n-hi.ensures
    (omega (arith, ints)) (omega (arith, ints)) (omega (arith, ints))

pub returns-then-n-hi-clause-within : goal.returns-then-n-hi-clause-within
returns-then-n-hi-clause-within c = holds_within _ c.args.span.lo (c.args.n -ℤ pos 1) _ _ c.args.span
    c.between-then-n-hi.ensures (omega (arith, ints)) (omega (arith, ints)) (omega (arith, ints)) (omega (arith, ints))
