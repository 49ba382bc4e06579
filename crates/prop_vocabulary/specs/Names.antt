-- The numbers of names.
use Rattle.std.specs.Prelude.{ℕ, List, Bool, bytes_eq, Option, position, map, is_none, unwrap_or}
use Rattle.std.specs.List.{list_any}

-- the number of the name: how many stand before it
abbrev pub number_in : List (List ℕ) → List ℕ → Option ℕ
number_in names name = position (bytes_eq name) names

abbrev pub numbers_in : List (List ℕ) → List (List ℕ) → List ℕ
numbers_in names words = map (λ word. unwrap_or (number_in names word) 0) words

-- one of the words is no name
abbrev pub is_missing : List (List ℕ) → List (List ℕ) → Bool
is_missing names words = list_any (λ word. is_none (number_in names word)) words
