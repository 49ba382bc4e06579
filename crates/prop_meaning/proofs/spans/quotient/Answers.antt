use Rattle.std.proofs.Common.{◌∙◌, sym}
use Rattle.prop_meaning.proofs.Products.{holds_quotients}
use Rattle.prop_meaning.proofs.spans.quotient.Goals as goal

pub returns-in-Span : goal.returns-in-Span
returns-in-Span c = holds_quotients c.args.x c.args.y c.in-Span.span (sym c.quotienter.ensures ∙ c.in-Span.is)
