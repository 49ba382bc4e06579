use Rattle.std.proofs.Common.{◌≤◌, ◌∙◌, ◌*◌, length, ap, arith}
use Rattle.prop_numbers.proofs.PlaceLemmas.{no_words_from}
use Rattle.prop_numbers.proofs.WordLemmas.{increasing-numbers_from}
use Rattle.prop_numbers.proofs.words.Words.copy.Goals as goal

pub returns-in_err-words-clause-none : goal.returns-in_err-words-clause-none
returns-in_err-words-clause-none c = λ none.
    let words = no_words_from (64 * c.self.inside.first) c.self.inside.words.items c.self.invariant.trimmed
    (c.self.view_is ∙ none) in
    let short : length c.deref.result.now ≤ 2 = omega (arith, ap length c.deref.ensures, ap length words) in
    cc (c.in_err-words.ensures.succeeds short)

pub returns-clause-ordered : goal.returns-clause-ordered
returns-clause-ordered c = increasing-numbers_from _ _
