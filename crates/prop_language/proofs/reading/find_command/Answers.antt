use Rattle.std.proofs.Common.{◌≡◌, ℕ, ◌<◌, List, [], ◌∷◌, Bool, true, false, Bor, length, get_or, zero, suc, arith}
use Rattle.std.proofs.Common.{refl, sym, ◌∙◌}
use Rattle.std.specs.Prelude.{◌&&◌}
use Rattle.std.specs.List.{list_all}
use Rattle.std.proofs.lemmas.Bool.{false≢true}
use Rattle.std.proofs.lemmas.Slice.Eq.{bytes_eq-Decides}
use Rattle.prop_language.specs.inner.Parts.{word_of, is_worded}
use Rattle.prop_language.specs.declared.reading.CommandWord.{CommandWord}
use Rattle.prop_language.proofs.reading.find_command.Goals as goal

both : (a b : Bool) → (a && b) ≡ true → (a ≡ true) × (b ≡ true)
both true b h = (refl, h)
both false b h = absurd (false≢true h)

worded : (commands : List (Bor (List ℕ) × CommandWord)) (i : ℕ) (d : Bor (List ℕ) × CommandWord) → i < length commands
    → list_all is_worded commands ≡ true → (get_or commands i d).0.now ≡ word_of (get_or commands i d).1
worded [] i d l h = absurd (omega arith)
worded (c ∷ commands) zero d l h = (bytes_eq-Decides c.0.now (word_of c.1)).0 (both (is_worded c) _ h).0
worded (c ∷ commands) (suc i) d l h = worded commands i d (omega arith) (both (is_worded c) _ h).1

pub returns-then-eq-clause-word : goal.returns-then-eq-clause-word
returns-then-eq-clause-word c = λ h.
    sym ((bytes_eq-Decides _ _).0 (sym c.if-eq.ensures))
    ∙ worded c.args.commands.now c.loop-known.known-index _ c.loop-known-test.true h
