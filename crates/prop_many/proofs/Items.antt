-- The first items of lists of arguments, and the rest.
use Rattle.std.proofs.Common.{◌≡◌, ◌-◌, ◌≤◌, List, [], ◌∷◌, length, take, drop, get_or, arith}
use Rattle.std.proofs.lemmas.List.{take_all}
use Rattle.prop_lattice.specs.declared.info.Info.{Info}

pub three_and_rest : (xs : List Info) (x y z : Info) → 3 ≤ length xs → x ≡ get_or xs 0 x → y ≡ get_or xs 1 y
    → z ≡ get_or xs 2 z → x ∷ y ∷ z ∷ take (length xs - 3) (drop 3 xs) ≡ xs
three_and_rest [] x y z some p q r = absurd (omega (arith, some))
three_and_rest (a ∷ []) x y z some p q r = absurd (omega (arith, some))
three_and_rest (a ∷ b ∷ []) x y z some p q r = absurd (omega (arith, some))
three_and_rest (a ∷ b ∷ c ∷ xs) x y z some p q r =
    let all : take (length (a ∷ b ∷ c ∷ xs) - 3) xs ≡ xs = take_all (length (a ∷ b ∷ c ∷ xs) - 3) xs (omega arith) in
    (λ i. p i ∷ q i ∷ r i ∷ all i)

pub two_and_rest : (xs : List Info) (x y : Info) → 2 ≤ length xs → x ≡ get_or xs 0 x → y ≡ get_or xs 1 y
    → x ∷ y ∷ take (length xs - 2) (drop 2 xs) ≡ xs
two_and_rest [] x y some p q = absurd (omega (arith, some))
two_and_rest (a ∷ []) x y some p q = absurd (omega (arith, some))
two_and_rest (a ∷ b ∷ xs) x y some p q =
    let all : take (length (a ∷ b ∷ xs) - 2) xs ≡ xs = take_all (length (a ∷ b ∷ xs) - 2) xs (omega arith) in
    (λ i. p i ∷ q i ∷ all i)
