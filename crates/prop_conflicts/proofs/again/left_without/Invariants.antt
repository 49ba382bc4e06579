use Rattle.std.proofs.Common.{◌≡◌, ◌<◌, ℕ, false}
use Rattle.std.specs.Prelude.{IsTrue}
use Rattle.prop_numbers.specs.Sets.{set_of}
use Rattle.prop_premises.specs.Origins.{believed_in}
use Rattle.prop_conflicts.proofs.again.left_without.Given as goal

abbrev pub invariant-loop-number : goal.invariant-loop-number
invariant-loop-number l = (p : ℕ) → p < l.number → IsTrue (believed_in l.premises p) → set_of l.out p ≡ false
    → IsTrue (set_of l.left p)
