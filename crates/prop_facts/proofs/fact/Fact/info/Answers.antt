use Rattle.std.proofs.Common.{arith}
use Rattle.std.proofs.lemmas.Int.{ints, clamps}
use Rattle.prop_facts.proofs.FactLemmas.{at_least_holds, at_most_holds, holds_at_least, holds_at_most, holds_is}
use Rattle.prop_facts.proofs.FactLemmas.{is_holds}
use Rattle.prop_facts.proofs.fact.Fact.info.Goals as goal

pub returns-in-AtLeast-clause-holds : goal.returns-in-AtLeast-clause-holds
returns-in-AtLeast-clause-holds c = rw c.in-AtLeast.is
    (at_least_holds _ c.in-AtLeast.n _ _ c.between.ensures (omega (arith, ints, clamps)) (omega (arith, ints)))

pub returns-in-AtLeast-clause-says : goal.returns-in-AtLeast-clause-says
returns-in-AtLeast-clause-says c = rw c.in-AtLeast.is
    (λ _. holds_at_least _ c.in-AtLeast.n _ _ c.between.ensures (omega (arith, ints, clamps)) (omega (arith, ints)))

pub returns-in-AtMost-clause-holds : goal.returns-in-AtMost-clause-holds
returns-in-AtMost-clause-holds c = rw c.in-AtMost.is
    (at_most_holds _ c.in-AtMost.n _ _ c.between-in-AtMost.ensures (omega (arith, ints)) (omega (arith, ints, clamps)))

pub returns-in-AtMost-clause-says : goal.returns-in-AtMost-clause-says
returns-in-AtMost-clause-says c = rw c.in-AtMost.is
    (λ _. holds_at_most _ c.in-AtMost.n _ _ c.between-in-AtMost.ensures (omega (arith, ints))
    (omega (arith, ints, clamps)))

pub returns-in-Is-clause-holds : goal.returns-in-Is-clause-holds
returns-in-Is-clause-holds c = rw c.in-Is.is
    (is_holds _ c.in-Is.n _ _ c.between-in-Is.ensures (omega (arith, ints)) (omega (arith, ints)))

pub returns-in-Is-clause-says : goal.returns-in-Is-clause-says
returns-in-Is-clause-says c = rw c.in-Is.is
    (λ _. holds_is _ c.in-Is.n _ _ c.between-in-Is.ensures (omega (arith, ints)) (omega (arith, ints)))
