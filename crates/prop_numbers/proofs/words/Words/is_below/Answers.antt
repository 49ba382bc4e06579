use Rattle.std.proofs.Common.{◌∙◌, ◌*◌, sym, ap, arith, length, ◌<◌}
use Rattle.std.proofs.lemmas.Bool.Decides.{nat_tests}
use Rattle.prop_numbers.specs.Words.{has_bit}
use Rattle.prop_numbers.proofs.PlaceLemmas.{below_none, below_from_end}
use Rattle.prop_numbers.proofs.words.Words.is_below.Goals as goal

pub end_of-requires-clause-trimmed : goal.end_of-requires-clause-trimmed
end_of-requires-clause-trimmed c = rw c.deref.ensures c.self.invariant.trimmed

pub returns-then-is_empty : goal.returns-then-is_empty
returns-then-is_empty c =
    rw (← c.self.view_is)
    (c.if-is_empty.true ∙ below_none (64 * c.self.inside.first) c.args.bound c.self.inside.words.items
    (sym c.is_empty.ensures ∙ c.if-is_empty.true))

pub returns-else-is_empty : goal.returns-else-is_empty
returns-else-is_empty c =
    let words = c.deref.ensures in
    let tested = sym c.is_empty.ensures ∙ c.if-is_empty.false in
    let some : 0 < length c.self.inside.words.items = grind (arith, nat_tests) in
    rw (← c.self.view_is) (below_from_end c.self.inside.first c.self.inside.words.items c.end_of.result c.args.bound
    c.self.invariant.trimmed some
    (λ p h. c.end_of.ensures.above p (ap (λ ws. has_bit ws p) words ∙ h))
    (λ p e. ap (λ ws. has_bit ws p) (sym words) ∙ c.end_of.ensures.last p e))
