use Rattle.std.proofs.Common.{arith}
use Rattle.std.proofs.lemmas.Int.{ints}
use Rattle.prop_terms.specs.Terms.{term_of}
use Rattle.prop_meaning.proofs.TableLemmas.{each_element, each_number}
use Rattle.prop_meaning.proofs.tables.has_each.Goals as goal

pub returns-in-Set : goal.returns-in-Set
returns-in-Set g c = λ all law p within.
    each_element (g.W.Words.lexicon c.args.words.now) (term_of c.args.rows.now) c.args.known.kinded.kind
    c.args.known.kinded.size c.in-Set.domain c.in-Set.is (c.has_elements.ensures all law) p within.0

pub returns-in-Span : goal.returns-in-Span
returns-in-Span g c = λ all law p within.
    each_number (g.W.Words.lexicon c.args.words.now) (term_of c.args.rows.now) c.args.known.kinded.kind
    c.args.known.kinded.size c.count.result c.args.known.span c.in-Span.is c.count.ensures
    (λ z low high. c.has_numbers.ensures all z (omega (arith, ints, c.lo.ensures, low))
    (omega (arith, ints, c.lo.ensures, high))) p within.0 within.1
