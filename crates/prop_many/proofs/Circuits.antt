-- Steps of the walk along successors.
use Rattle.std.proofs.Common.{◌≡◌, ◌≤◌, ◌-◌, ◌+ℤ◌, ◌∙◌, ℕ, ℤ, zero, suc, pos, Bool, true, false, List, arith, ap}
use Rattle.std.specs.Prelude.{Some}
use Rattle.std.specs.Ordering.{int_eq}
use Rattle.prop_lattice.specs.declared.info.Info.{Info}
use Rattle.prop_many.specs.Circuit.{entry_at, goes_wrong, is_one, raised}
use Rattle.prop_wide.specs.Ends.{low_of}

one_less : (n : ℕ) → suc n - 1 ≡ n
one_less n = omega arith

-- one that goes on by what is known
pub goes_on_is : (successors : List Info) (home node : ℤ) (steps : ℕ) (next : Info) (r : Bool) → 1 ≤ steps
    → int_eq node home ≡ false → entry_at (pos 1) successors node ≡ Some next → is_one next ≡ true
    → r ≡ goes_wrong successors home (low_of next) (steps - 1) → r ≡ goes_wrong successors home node steps
goes_on_is successors home node zero next r p e f o h = absurd (omega (arith, p))
goes_on_is successors home node (suc n) next r p e f o h =
    rw (e, f, o) (h ∙ ap (goes_wrong successors home (low_of next)) (one_less n))

-- one that goes on from the node behind
pub raised_on : (successors : List Info) (home node : ℤ) (steps many : ℕ) → 1 ≤ many
    → goes_wrong successors home node steps ≡ true
    → raised successors home (node +ℤ pos 1) steps (many - 1) ≡ raised successors home node steps many
raised_on successors home node steps zero p e = absurd (omega (arith, p))
raised_on successors home node steps (suc n) p e =
    rw e (ap (raised successors home (node +ℤ pos 1) steps) (one_less n))
