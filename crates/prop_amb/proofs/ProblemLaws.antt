-- Contradictory sets with more premises, and with more statements.
use Rattle.std.proofs.Common.{ℕ, IsTrue, Option, Some, None, get_or, refl}
use Rattle.prop_numbers.specs.Sets.{Members, IsPart}
use Rattle.prop_cells.specs.Problems.{Problem, Assignment, IsSolution, is_member}
use Rattle.prop_cells.specs.inner.Problems.{IsContradictory}

member_more : (s t : Members) → IsPart s t → (p : Option ℕ) → IsTrue (is_member s p) → IsTrue (is_member t p)
member_more s t part None h = refl
member_more s t part (Some p) h = part p h

solution_fewer : (problem : Problem) (s t : Members) (a : Assignment) → IsPart s t → IsSolution problem t a
    → IsSolution problem s a
solution_fewer problem s t a part sol = record {
  kinds = sol.kinds;
  statements = λ k d l h. sol.statements k d l (member_more s t part (get_or problem.statements k d).premise h);
  instances = sol.instances;
}

-- where fewer premises are contradictory, more are
pub contradictory_more : (problem : Problem) (s t : Members) → IsPart s t → IsContradictory problem s
    → IsContradictory problem t
contradictory_more problem s t part none some =
    none (record {
      solution = some.solution;
      solves = solution_fewer problem s t some.solution part some.solves;
      free = some.free;
    })
