-- The bits of a set that is named.
use Rattle.std.specs.Prelude.{ℕ, List, [], length, slice_index_or}
use Rattle.prop_sets.specs.Chosen.{bits_where}
use Rattle.prop_language.specs.Names.{is_among}

-- the names that are among the words, each by the bit of its place
abbrev pub bits_named : List (List ℕ) → List (List ℕ) → ℕ
bits_named names words = bits_where (length names) (λ i. is_among words (slice_index_or names i []))
