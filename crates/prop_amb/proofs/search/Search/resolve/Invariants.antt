use Rattle.std.proofs.Common.{ℕ, IsTrue}
use Rattle.prop_numbers.specs.Sets.{set_of}
use Rattle.prop_cells.specs.Problems.{Problem}
use Rattle.prop_nogoods.specs.Stores.{has_part}
use Rattle.prop_amb.specs.Refuted.{IsNogood}
use Rattle.prop_amb.specs.Search.{choices_in, IsSearch}
use Rattle.prop_amb.specs.Culprits.{IsCulprit}
use Rattle.prop_amb.proofs.Shown.{IsShown, IsWithin}
use Rattle.prop_amb.proofs.search.Search.resolve.Given as goal

abbrev pub invariant-loop-place : goal.invariant-loop-place
invariant-loop-place l = record {
  shown : (problem : Problem) → IsSearch problem l.self → IsNogood problem (choices_in l.self) (set_of l.fn.nogood)
      → IsTrue (has_part l.self.listed (set_of l.fn.nogood))
      → IsWithin l.self l.place (set_of l.set) × IsShown problem l.self (set_of l.set);
  culprits : (p : ℕ) → IsTrue (set_of l.set p) → IsCulprit l.self l.fn.nogood p;
}
