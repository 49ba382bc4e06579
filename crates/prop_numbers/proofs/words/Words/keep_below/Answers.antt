use Rattle.std.proofs.Common.{◌∙◌, ◌*◌, ap, arith}
use Rattle.prop_numbers.specs.Words.{numbers_from}
use Rattle.prop_numbers.proofs.PlaceLemmas.{none_from, cut_from}
use Rattle.prop_numbers.proofs.words.Words.keep_below.Goals as goal

pub returns-then-from-start : goal.returns-then-from-start
returns-then-from-start c =
    rw (← c.self.view_is) (ap (λ ws. numbers_from (64 * c.self.inside.first) ws) c.truncate.ensures.items
    ∙ none_from c.self.inside.first c.args.bound c.self.inside.words.items (omega (arith, c.if-from-start.true)))

pub returns-else-from-start : goal.returns-else-from-start
returns-else-from-start c =
    rw (← c.self.view_is) (cut_from c.self.inside.first c.args.bound c.self.inside.words.items c.cut.new.words.items
    (omega (arith, c.if-from-start.false))
    c.cut.ensures.bits)
