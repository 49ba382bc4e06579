use Rattle.prop_terms.proofs.Splitting.{in_quotes, in_no_quotes}
use Rattle.prop_terms.proofs.tokens.unquoted.Goals as goal

pub returns-then-last-eq39 : goal.returns-then-last-eq39
returns-then-last-eq39 c =
    in_quotes c.args.piece.now c.in_ok-first.rest.now c.in_ok-last.word.now c.in_ok-first.first.now
    c.in_ok-last.last.now c.in_ok-first.ensures.cases.0 c.in_ok-last.ensures.cases.0 c.if-first-ne39.false
    c.if-last-eq39.true

pub returns-else-last-eq39 : goal.returns-else-last-eq39
returns-else-last-eq39 c =
    in_no_quotes c.args.piece.now c.in_ok-first.rest.now c.in_ok-last.word.now c.in_ok-first.first.now
    c.in_ok-last.last.now c.in_ok-first.ensures.cases.0 c.in_ok-last.ensures.cases.0 c.if-first-ne39.false
    c.if-last-eq39.false
