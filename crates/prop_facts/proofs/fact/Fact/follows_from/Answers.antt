use Rattle.std.proofs.Common.{rules, arith}
use Rattle.std.proofs.lemmas.Int.{ints}
use Rattle.std.proofs.lemmas.Bool.Decides.{nat_tests}
use Rattle.prop_lattice.proofs.PartLemmas.{part_test}
use Rattle.prop_facts.proofs.FactLemmas.{among_follows, at_least_follows, at_most_follows, foreign_to_set}
use Rattle.prop_facts.proofs.FactLemmas.{foreign_to_span, foreign_to_symbol, is_follows, nothing_tells}
use Rattle.prop_facts.proofs.FactLemmas.{other_follows, same_follows}
use Rattle.prop_facts.proofs.fact.Fact.follows_from.Goals as goal

pub returns-in-AtLeast-Span : goal.returns-in-AtLeast-Span
returns-in-AtLeast-Span c = rw (c.in-AtLeast-Span.is-0, c.in-AtLeast-Span.is-1)
    (at_least_follows _ c.in-AtLeast-Span.n c.in-AtLeast-Span.span (grind (arith, ints)))

pub returns-in-AtMost-Span : goal.returns-in-AtMost-Span
returns-in-AtMost-Span c = rw (c.in-AtMost-Span.is-0, c.in-AtMost-Span.is-1)
    (at_most_follows _ c.in-AtMost-Span.n c.in-AtMost-Span.span (grind (arith, ints)))

pub returns-then-n-lo : goal.returns-then-n-lo
returns-then-n-lo c = rw (c.in-Is-Span.is-0, c.in-Is-Span.is-1)
    (is_follows _ c.in-Is-Span.n c.in-Is-Span.span (grind (arith, ints, nat_tests)))

pub returns-else-n-lo : goal.returns-else-n-lo
returns-else-n-lo c = rw (c.in-Is-Span.is-0, c.in-Is-Span.is-1)
    (is_follows _ c.in-Is-Span.n c.in-Is-Span.span (grind (arith, ints, nat_tests)))

pub returns-else-n-lo-2 : goal.returns-else-n-lo-2
returns-else-n-lo-2 c = rw (c.in-Other-Span.is-0, c.in-Other-Span.is-1)
    (other_follows _ c.in-Other-Span.n c.in-Other-Span.span (grind (arith, ints)))

pub returns-in-Among-Set : goal.returns-in-Among-Set
returns-in-Among-Set c = rw (c.in-Among-Set.is-0, c.in-Among-Set.is-1)
    (among_follows _ c.in-Among-Set.elements c.in-Among-Set.left (search (rules, part_test)))

pub returns-in-Same-Sym : goal.returns-in-Same-Sym
returns-in-Same-Sym c = rw (c.in-Same-Sym.is-0, c.in-Same-Sym.is-1)
    (same_follows _ c.in-Same-Sym.a c.in-Same-Sym.b (search rules))

pub returns-in_default : goal.returns-in_default
returns-in_default c = rw c.in_default.is-1
    (foreign_to_span c.args.self c.in_default.field-0-1 c.in_default.not-AtLeast-0 c.in_default.not-AtMost-0
    c.in_default.not-Is-0 c.in_default.not-Other-0)

pub returns-in_default-2 : goal.returns-in_default-2
returns-in_default-2 c = rw c.in_default.is-1
    (foreign_to_set c.args.self c.in_default.field-0-1 c.in_default.not-Among-0)

pub returns-in_default-3 : goal.returns-in_default-3
returns-in_default-3 c = rw c.in_default.is-1
    (foreign_to_symbol c.args.self c.in_default.field-0-1 c.in_default.not-Same-0)

pub returns-in_default-4 : goal.returns-in_default-4
returns-in_default-4 c = rw c.in_default.is-1 (nothing_tells c.args.self)
