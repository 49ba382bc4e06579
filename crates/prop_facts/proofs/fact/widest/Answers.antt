use Rattle.std.proofs.Common.{arith}
use Rattle.std.proofs.lemmas.Int.{ints}
use Rattle.prop_facts.proofs.FactLemmas.{widest_set, widest_span}
use Rattle.prop_facts.proofs.fact.widest.Goals as goal

pub returns-in-Span : goal.returns-in-Span
returns-in-Span c = rw c.in-Span.is
    (widest_span _ _ _ c.between.ensures (omega (arith, ints)) (omega (arith, ints)) c.args.size)

pub returns-in-Set : goal.returns-in-Set
returns-in-Set c = rw c.in-Set.is
    (widest_set _ c.below.result c.args.size c.in-Set.field-0 c.from_bits.ensures c.below.type_inv c.below.ensures)
