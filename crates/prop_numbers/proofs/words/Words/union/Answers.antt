use Rattle.std.proofs.Common.{◌≡◌, ◌∙◌, ◌*◌, ◌||◌, ◌==◌, ℕ, List, length, true, sym, ap, arith}
use Rattle.std.proofs.lemmas.Bool.Decides.{nat_tests}
use Rattle.prop_numbers.specs.Sets.{set_of}
use Rattle.prop_numbers.proofs.WordLemmas.{or_none, if_ok, numbers_from-nothing}
use Rattle.prop_numbers.proofs.words.Words.union.Goals as goal

empty : (words : List ℕ) → (length words == 0) ≡ true → length words ≡ 0
empty words h = grind (arith, nat_tests)

pub returns-then-is_empty-clause-has : goal.returns-then-is_empty-clause-has
returns-then-is_empty-clause-has c =
    let words = c.other.inside.words.items in
    let none = sym c.other.view_is ∙ numbers_from-nothing (64 * c.other.inside.first) words
    (empty words (sym c.is_empty.ensures ∙ c.if-is_empty.true)) in
    if_ok c.copy.result (λ w same p. ap (λ ns. set_of ns p) same
    ∙ sym (ap (λ ns. set_of c.args.self.now p || set_of ns p) none ∙ or_none (set_of c.args.self.now p)))
    c.copy.ensures.same

pub returns-then-is_empty-2-clause-has : goal.returns-then-is_empty-2-clause-has
returns-then-is_empty-2-clause-has c =
    let words = c.self.inside.words.items in
    let none = sym c.self.view_is ∙ numbers_from-nothing (64 * c.self.inside.first) words
    (empty words (sym c.is_empty-2.ensures ∙ c.if-is_empty-2.true)) in
    if_ok c.copy-then-is_empty-2.result
    (λ w same p. ap (λ ns. set_of ns p) same ∙ sym (ap (λ ns. set_of ns p || set_of c.args.other.now p) none))
    c.copy-then-is_empty-2.ensures.same
