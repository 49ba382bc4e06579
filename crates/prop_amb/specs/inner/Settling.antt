-- What is known of a choice list that is refuted.
use Rattle.std.specs.Prelude.{ℕ, List, Contains}
use Rattle.prop_numbers.specs.Sets.{set_of, IsPart}
use Rattle.prop_cells.specs.Problems.{Problem}
use Rattle.prop_amb.specs.Refuted.{IsNogood}
use Rattle.prop_amb.specs.Search.{Stand, choices_in}

-- a noted nogood of the problem, of which every premise is believed
pub record IsMet (problem : Problem) (s : Stand) (n : List ℕ) : Type 0 where
  pub believed : IsPart (set_of n) (set_of s.worldview)
  pub nogood : IsNogood problem (choices_in s) (set_of n)
  pub noted : Contains s.listed n
