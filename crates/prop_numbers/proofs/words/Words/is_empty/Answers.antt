use Rattle.std.proofs.Common.{◌≡◌, ◌∙◌, ◌*◌, ℕ, List, [], ◌∷◌, length, sym, ap, true, ◌==◌, arith}
use Rattle.std.proofs.lemmas.Bool.Decides.{nat_tests}
use Rattle.prop_numbers.specs.Words.{numbers_from}
use Rattle.prop_numbers.proofs.PlaceLemmas.{no_words_from}
use Rattle.prop_numbers.proofs.WordLemmas.{numbers_from-nil}
use Rattle.prop_numbers.proofs.words.Words.is_empty.Goals as goal

none : (n : ℕ) (words : List ℕ) → (length words == 0) ≡ true → numbers_from n words ≡ []
none n [] h = numbers_from-nil n
none n (w ∷ ws) h = grind (arith, nat_tests)

pub returns : goal.returns
returns c = (
  λ h. sym c.self.view_is ∙ none (64 * c.self.inside.first) c.self.inside.words.items (sym c.is_empty.ensures ∙ h),
  λ e. c.is_empty.ensures ∙ ap (λ ws. length ws == 0)
      (no_words_from (64 * c.self.inside.first) c.self.inside.words.items c.self.invariant.trimmed
      (c.self.view_is ∙ e)),
)
