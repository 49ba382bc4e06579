use Rattle.std.proofs.Common.{arith}
use Rattle.prop_numbers.proofs.PlaceLemmas.{cleared_from, not_there_from}
use Rattle.prop_numbers.proofs.words.Words.remove.Goals as goal

pub returns-then-from-start : goal.returns-then-from-start
returns-then-from-start c =
    rw (← c.self.view_is) (λ p. cleared_from c.self.inside.first c.args.number c.self.inside.words.items
    c.unset.new.words.items (omega (arith, c.if-from-start.true, c.from.ensures)) c.unset.ensures.bits p)

pub returns-else-from-start : goal.returns-else-from-start
returns-else-from-start c =
    rw (← c.self.view_is) (λ p. not_there_from c.self.inside.first c.args.number c.self.inside.words.items
    (omega (arith, c.if-from-start.false, c.from.ensures)) p)
