use Rattle.prop_terms.proofs.Splitting.{next_is}
use Rattle.prop_terms.proofs.pieces.next_piece.Goals as goal

pub returns-clause-found : goal.returns-clause-found
returns-clause-found c =
    next_is c.args.bytes.now c.skip_blanks-bytes.result.now c.in_ok-first.rest.now c.split_at.result.0.now
    c.split_at.result.1.now c.piece_len.result c.in_ok-first.first.now c.in_ok-first.ensures.cases.0
    c.skip_blanks-bytes.ensures.same c.piece_len.ensures.piece c.split_at.ensures.front c.split_at.ensures.back
