-- Tables of procedures.
use Rattle.std.proofs.Common.{zero, suc, List, [], ◌∷◌, arith}
use Rattle.std.specs.Prelude.{All}
use Rattle.std.specs.List.{AllByRecursion}

-- what is so of each by recursion is so at each place
pub all_from : {X : Type 0} (P : X → Type 0) (xs : List X) → AllByRecursion P xs → All P xs
all_from P [] h k d l = absurd (omega (arith, l))
all_from P (x ∷ xs) h zero d l = h.0
all_from P (x ∷ xs) h (suc k) d l = all_from P xs h.1 k d (omega (arith, l))
