use Rattle.std.proofs.lemmas.Result.{IfOk-weaker}
use Rattle.prop_terms.specs.Terms.{term_of}
use Rattle.prop_meaning.proofs.PostingLemmas.{says_same}
use Rattle.prop_meaning.proofs.posting.post.Goals as goal

pub returns : goal.returns
returns g c = IfOk-weaker c.compute.result _ _
    (λ posted v. says_same (g.W.Words.lexicon c.args.words.now) posted (term_of c.args.term.now) v)
    c.compute.ensures.value
