use Rattle.std.proofs.Common.{arith, ◌≡◌}
use Rattle.std.proofs.lemmas.Int.{ints}
use Rattle.prop_intervals.specs.laws.ClipLaws.{clip_is}
use Rattle.prop_intervals.specs.Spans.{difference_of}
use Rattle.prop_intervals.specs.laws.SumLaws.{difference_narrowest}
use Rattle.prop_intervals.proofs.sums.sub.Goals as goal

value : (c : goal.After-clipped) → c.clipped.result ≡ difference_of c.args.z c.args.x
value c = clip_is _ _ _ _ _ c.clipped.ensures (omega (arith, ints)) (omega (arith, ints))

pub returns-clause-value : goal.returns-clause-value
returns-clause-value c = value c

pub returns-clause-narrowest : goal.returns-clause-narrowest
returns-clause-narrowest c e = rw (value c) (difference_narrowest c.args.z c.args.x e)
