use Rattle.std.proofs.Common.{arith}
use Rattle.prop_sets.proofs.UnionLemmas.{first_in, cleared-lt, joined}
use Rattle.prop_sets.proofs.words.union_of.Goals as goal

pub loop-rest-smaller : goal.loop-rest-smaller
loop-rest-smaller c =
    let first = first_in c.loop-rest.rest c.loop-rest-test.true (omega arith) in
    cleared-lt c.loop-rest.rest _ first.0 first.1

pub loop-rest-preserved : goal.loop-rest-preserved
loop-rest-preserved c =
    let first = first_in c.loop-rest.rest c.loop-rest-test.true (omega arith) in
    joined c.args.words.now c.args.chosen c.loop-rest.union c.loop-rest.rest _ c.word_at-union.result (omega arith)
    first.0 first.1 c.word_at-union.ensures c.loop-rest.invariant
