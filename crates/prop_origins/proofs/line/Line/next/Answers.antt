use Rattle.std.proofs.Common.{◌∙◌, ◌<◌, ap, arith, sym}
use Rattle.prop_origins.specs.inner.Lines.{Lined}
use Rattle.prop_origins.proofs.LineLaws.{next_fresh}
use Rattle.prop_origins.proofs.line.Line.next.Goals as goal

pub returns-clause-first : goal.returns-clause-first
returns-clause-first c =
    let n = c.self.inside in
    let waiting = c.waiting.ensures.waiting in
    let idle = c.if-waiting-gt0.false in
    let left : n.fresh < n.count = omega (arith, c.if-self.false) in
    sym (ap (λ (q : Lined). q.line) c.self.view_is)
    ∙ next_fresh n.agenda.line n.fresh n.count (omega (arith, waiting, idle)) left
