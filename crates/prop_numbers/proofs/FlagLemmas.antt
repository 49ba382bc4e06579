-- Numbers below a bound.
use Rattle.std.proofs.Common.{◌≡◌, ℕ, ◌<◌, Bool, true, false, ◌||◌, ◌==◌, List, [], ◌∷◌, filter, nat_lt, refl, ap}
use Rattle.std.proofs.Common.{arith}
use Rattle.std.proofs.lemmas.Bool.Decides.{nat_tests}
use Rattle.prop_numbers.specs.Sets.{set_of, IsBelow}

or_first : (b c : Bool) → b ≡ true → (b || c) ≡ true
or_first true c e = refl
or_first false c e = cc

or_last : (b c : Bool) → c ≡ true → (b || c) ≡ true
or_last true c e = refl
or_last false c e = e

-- where all numbers are below the bound, all are kept
pub filter-below : (m : ℕ) (ps : List ℕ) → IsBelow m (set_of ps) → filter (λ p. nat_lt p m) ps ≡ ps
filter-below m [] h = refl
filter-below m (p ∷ ps) h =
    let own : (p == p) ≡ true = grind (arith, nat_tests) in
    let low : p < m = h p (or_first (p == p) (set_of ps p) own) in
    let in_it : nat_lt p m ≡ true = grind (arith, nat_tests) in
    rw in_it (ap (λ l. p ∷ l) (filter-below m ps (λ q t. h q (or_last (p == q) (set_of ps q) t))))
