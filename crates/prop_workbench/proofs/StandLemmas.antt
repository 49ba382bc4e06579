-- Where nothing was declared, nothing was learned.
use Rattle.std.proofs.Common.{arith, refl}
use Rattle.std.proofs.lemmas.Option.{none-some}
use Rattle.prop_cells.specs.Problems.{Problem}
use Rattle.prop_amb.specs.Search.{no_stand, IsStand, IsSearch}

pub no_stand_made : IsStand no_stand
no_stand_made = record {
  numbered = record { in_order = tt; of_sides = tt; below = λ p h. cc; users = λ p u. refl };
  few = omega arith;
  is_list = tt;
  reasoned = tt;
  level = omega arith;
  believes = λ p. refl;
  minimal = λ i j d l h. absurd (omega (arith, h));
}

pub no_stand_search : (problem : Problem) → IsSearch problem no_stand
no_stand_search problem = record {
  nogoods = λ k d l. absurd (omega (arith, l));
  reasons = record { kept = λ j choice side reason at one is_reason. absurd (none-some _ at) };
}
