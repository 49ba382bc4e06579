use Rattle.std.proofs.Common.{◌≡◌, [], All, length}
use Rattle.prop_deriving.proofs.sides.no_numbers.Given as goal

abbrev pub invariant-loop : goal.invariant-loop
invariant-loop l = (length l.rows.items ≡ l.counter) × All (λ numbers. numbers.items ≡ []) l.rows.items
