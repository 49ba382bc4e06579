use Rattle.std.proofs.Common.{arith, ◌+◌}
use Rattle.prop_meaning.proofs.Growing.{grown_push, pushed}
use Rattle.prop_meaning.proofs.draft.placed.Goals as goal

pub returns-in-Ok-clause-grown : goal.returns-in-Ok-clause-grown
returns-in-Ok-clause-grown g c = rw c.in-Ok.ensures.items
    (grown_push (g.W.Words.lexicon c.args.words.now) c.args.made.now.items c.args.new c.requires.sound c.requires.good)

pub returns-in-Ok-clause-makes : goal.returns-in-Ok-clause-makes
returns-in-Ok-clause-makes g c = rw c.in-Ok.ensures.items
    (pushed (g.W.Words.lexicon c.args.words.now) c.args.made.now.items c.args.new
    (c.count-count.result + c.len-k.result)
    (omega (arith, c.count-count.ensures.value, c.len-k.ensures)))
