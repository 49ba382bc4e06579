use Rattle.std.proofs.Common.{sym}
use Rattle.prop_language.proofs.Lexing.{next_word}
use Rattle.prop_language.proofs.tokens.next_token.Goals as goal

pub returns-clause-found : goal.returns-clause-found
returns-clause-found c =
    next_word c.args.bytes.now c.skip_blanks-bytes.result.now _ _ _ _ _ c.in_ok-first.ensures.cases.0
    c.skip_blanks-bytes.ensures.same c.skip_blanks-bytes.ensures.front
    (sym c.in_default.ensures) c.word_len.ensures.word c.word_len.ensures.end c.split_at.ensures.front
    c.split_at.ensures.back
