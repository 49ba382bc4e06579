-- What changes from one set of numbers to another.
use Rattle.std.specs.Prelude.{◌≢◌, ℕ, ◌*◌, ◌||◌, [], ◌∷◌, IsTrue}
use Rattle.prop_numbers.specs.Sets.{Members, set_of}
use Rattle.prop_numbers.specs.Words.{numbers_from}
use Rattle.prop_numbers.specs.declared.change.Change.{Change}

-- the numbers whose bits the two words have, and all where there may be others
abbrev pub may_change : Change → Members
may_change c p = c.rest || set_of (numbers_from (64 * c.place) (c.first ∷ c.second ∷ [])) p

-- each number that is in just one of the two sets may change
abbrev pub CoversChange : Members → Members → Members → Type 0
CoversChange s t may = (p : ℕ) → s p ≢ t p → IsTrue (may p)
