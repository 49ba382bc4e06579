use Rattle.std.proofs.Common.{arith}
use Rattle.std.proofs.lemmas.Int.{ints}
use Rattle.std.proofs.lemmas.Result.{IfOk-weaker}
use Rattle.prop_terms.specs.Terms.{term_of}
use Rattle.prop_meaning.proofs.BraceLemmas.{labels_number}
use Rattle.prop_meaning.proofs.braces.labelled.Goals as goal

pub returns-in-Some-clause-labels : goal.returns-in-Some-clause-labels
returns-in-Some-clause-labels g c =
    let lexicon = g.W.Words.lexicon c.args.words.now in
    IfOk-weaker c.number.result _ _ (λ place m.
    labels_number lexicon c.number.new.made.items c.args.kinded (term_of c.args.term.now) c.in-Some.z _ place
    (c.is_same_kind.ensures c.if-not-is_same_kind.false) c.in-Some.ensures.is
    (omega (arith, ints, c.in-Some.ensures.low, c.in-Some.ensures.high)) m)
    c.number.ensures.makes
