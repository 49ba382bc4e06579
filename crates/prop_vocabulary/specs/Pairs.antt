-- Pairs of elements by their names.
use Rattle.std.specs.Prelude.{ℕ, Bool, ◌||◌, List, map, is_none}
use Rattle.std.specs.Borrow.{Bor}
use Rattle.std.specs.List.{list_any}
use Rattle.prop_vocabulary.specs.Names.{number_in}

-- the pairs of names, byte by byte
abbrev pub texts_of_pairs : List (Bor (List ℕ) × Bor (List ℕ)) → List (List ℕ × List ℕ)
texts_of_pairs pairs = map (λ pair. (pair.0.now, pair.1.now)) pairs

-- of one of the pairs the first word is no element of the first domain, or the second none of the
-- second
abbrev pub is_outside : List (List ℕ) → List (List ℕ) → List (List ℕ × List ℕ) → Bool
is_outside first second pairs = list_any
    (λ pair. is_none (number_in first pair.0) || is_none (number_in second pair.1)) pairs
