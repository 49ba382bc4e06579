use Rattle.std.proofs.Common.{IfSome, subst}
use Rattle.prop_meaning.specs.inner.Spans.{HoldsLeft}
use Rattle.prop_meaning.proofs.Products.{holds_multiples}
use Rattle.prop_meaning.proofs.spans.multiple.Goals as goal

pub returns-in-Some : goal.returns-in-Some
returns-in-Some c = holds_multiples c.args.x c.args.y c.in-Some.left c.difference.result
    (subst (λ o. IfSome o (HoldsLeft c.args.y)) c.in-Some.is c.left_by.ensures) c.difference.ensures
