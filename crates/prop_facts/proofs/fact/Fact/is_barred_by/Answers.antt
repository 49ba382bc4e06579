use Rattle.std.proofs.Common.{arith}
use Rattle.std.proofs.lemmas.Int.{ints}
use Rattle.std.proofs.lemmas.Bool.Decides.{nat_tests}
use Rattle.prop_facts.proofs.FactLemmas.{among_barred, at_least_barred, at_most_barred, is_barred, nothing_bars}
use Rattle.prop_facts.proofs.FactLemmas.{other_barred, same_barred}
use Rattle.prop_facts.proofs.fact.Fact.is_barred_by.Goals as goal

pub returns-in_default-Nothing : goal.returns-in_default-Nothing
returns-in_default-Nothing c = rw c.in_default-Nothing.is-1 (nothing_bars c.args.self)

pub returns-in-AtLeast-Span : goal.returns-in-AtLeast-Span
returns-in-AtLeast-Span c = rw (c.in-AtLeast-Span.is-0, c.in-AtLeast-Span.is-1)
    (at_least_barred _ c.in-AtLeast-Span.n c.in-AtLeast-Span.span (grind (arith, ints)))

pub returns-in-AtMost-Span : goal.returns-in-AtMost-Span
returns-in-AtMost-Span c = rw (c.in-AtMost-Span.is-0, c.in-AtMost-Span.is-1)
    (at_most_barred _ c.in-AtMost-Span.n c.in-AtMost-Span.span (grind (arith, ints)))

pub returns-else-n-lo : goal.returns-else-n-lo
returns-else-n-lo c = rw (c.in-Is-Span.is-0, c.in-Is-Span.is-1)
    (is_barred _ c.in-Is-Span.n c.in-Is-Span.span (grind (arith, ints)))

pub returns-then-n-lo-2 : goal.returns-then-n-lo-2
returns-then-n-lo-2 c = rw (c.in-Other-Span.is-0, c.in-Other-Span.is-1)
    (other_barred _ c.in-Other-Span.n c.in-Other-Span.span (grind (arith, ints, nat_tests)))

pub returns-else-n-lo-2 : goal.returns-else-n-lo-2
returns-else-n-lo-2 c = rw (c.in-Other-Span.is-0, c.in-Other-Span.is-1)
    (other_barred _ c.in-Other-Span.n c.in-Other-Span.span (grind (arith, ints, nat_tests)))

pub returns-in-Among-Set : goal.returns-in-Among-Set
returns-in-Among-Set c = rw (c.in-Among-Set.is-0, c.in-Among-Set.is-1)
    (among_barred _ c.in-Among-Set.elements c.in-Among-Set.left (grind (arith, nat_tests)))

pub returns-in-Same-Sym : goal.returns-in-Same-Sym
returns-in-Same-Sym c = rw (c.in-Same-Sym.is-0, c.in-Same-Sym.is-1)
    (same_barred _ c.in-Same-Sym.a c.in-Same-Sym.b (grind (arith, nat_tests)))
