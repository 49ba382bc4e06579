-- Statements under a premise: what refuses one, and what it makes.
use Rattle.std.proofs.Common.{◌≡◌, ℕ, Bool, true, false, List, [], ◌∷◌, ◌++◌, is_some}
use Rattle.std.proofs.Common.{if◌then◌else◌, refl}
use Rattle.prop_vocabulary.specs.Names.{number_in}
use Rattle.prop_vocabulary.specs.Vocabulary.{Vocabulary, with_symbol}

-- ---- a statement that a cell is a symbol

-- a symbol more leaves the domains as they were
pub same_domains : (words : Vocabulary) (name : List ℕ) → (with_symbol words name).domains ≡ words.domains
same_domains words name = by (is_some (number_in words.symbols name))
  where
    by : (t : Bool) → (if t then words else record words { symbols = words.symbols ++ name ∷ [] }).domains
        ≡ words.domains
    by true = refl
    by false = refl
