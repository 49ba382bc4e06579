-- Sets of numbers, of which those of one word stand in the value itself.
use Rattle.std.specs.Prelude.{ℕ, ◌*◌, ◌<◌, List, [], ◌∷◌}
use Rattle.std.specs.List.Sorted.{IsStrictlyIncreasing}
use Rattle.prop_numbers.specs.Words.{numbers_from}
use Rattle.prop_numbers.specs.declared.one_word.OneWord.{OneWord}
use Rattle.prop_numbers.specs.declared.number_set.Form.{Form}
use Rattle.prop_numbers.specs.declared.number_set.Form.TheVariants.{One, Many}

-- the numbers of one word
abbrev pub numbers_in : OneWord → List ℕ
numbers_in one = numbers_from (64 * one.place) (one.word ∷ [])

-- the numbers of a set in either form
abbrev pub numbers_of_form : Form → List ℕ
numbers_of_form (One one) = numbers_in one
numbers_of_form (Many words) = words

-- they are below 2^16 and in order
abbrev pub IsInOrder : Form → Type 0
IsInOrder (One one) = one.place < 1_024
IsInOrder (Many words) = IsStrictlyIncreasing words
