use Rattle.std.proofs.Common.{sym, ◌∙◌}
use Rattle.prop_terms.proofs.Splitting.{word_piece}
use Rattle.prop_terms.proofs.pieces.piece_len.Goals as goal

pub returns-then-not-is_mark-clause-piece : goal.returns-then-not-is_mark-clause-piece
returns-then-not-is_mark-clause-piece c =
    word_piece c.word_len.result c.args.first c.args.rest.now c.requires (sym c.is_mark.ensures ∙ c.if-not-is_mark.true)
    c.word_len.ensures.word c.word_len.ensures.end
