use Rattle.std.proofs.Common.{◌∙◌}
use Rattle.std.specs.Prelude.{find, bytes_eq}
use Rattle.prop_terms.specs.Tokens.{vocabulary, own_word}
use Rattle.prop_terms.specs.inner.Parts.{token_said}
use Rattle.prop_terms.proofs.Knowing.{known_is, unknown_is}
use Rattle.prop_terms.proofs.tokens.token_of.Goals as goal

pub returns-in-Some : goal.returns-in-Some
returns-in-Some c =
    known_is (find (λ known. bytes_eq known.0 c.args.piece.now) vocabulary) (token_said c.in-Some.token)
    (own_word c.args.piece.now) c.in-Some.ensures

pub returns-in-None : goal.returns-in-None
returns-in-None c =
    c.own_word.ensures
    ∙ unknown_is (find (λ known. bytes_eq known.0 c.args.piece.now) vocabulary) (own_word c.args.piece.now)
    c.in-None.ensures
