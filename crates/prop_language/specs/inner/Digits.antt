-- Numbers, a digit at a time.
use Rattle.std.specs.Prelude.{ℕ, ◌+◌, ◌-◌, ◌*◌, ℤ, pos, neg_ℤ, int_le, List, [], ◌∷◌, Bool, cond}
use Rattle.std.specs.Prelude.{◌==◌, ◌&&◌, nat_le, Option, Some, None}
use Rattle.std.specs.Option.{option_map, option_and_then}

-- the byte is an ASCII digit
abbrev pub is_digit : ℕ → Bool
is_digit b = nat_le 48 b && nat_le b 57

-- the number of these digits after the digits of n, where all are digits
abbrev pub number_after : ℕ → List ℕ → Option ℕ
number_after n [] = Some n
number_after n (b ∷ bytes) = cond (is_digit b) (number_after (n * 10 + (b - 48)) bytes) None

-- one or more digits
abbrev pub digits_number : List ℕ → Option ℕ
digits_number [] = None
digits_number (b ∷ bytes) = number_after 0 (b ∷ bytes)

-- an optional minus sign and one or more digits
abbrev pub number_read : List ℕ → Option ℤ
number_read [] = None
number_read (b ∷ bytes) = cond (b == 45) (option_map (λ n. neg_ℤ (pos n)) (digits_number bytes))
    (option_map pos (digits_number (b ∷ bytes)))

-- the number of the word, where it is one from low to high
abbrev pub number_read_in : ℤ → ℤ → List ℕ → Option ℤ
number_read_in low high word =
    option_and_then (λ z. cond (int_le low z && int_le z high) (Some z) None) (number_read word)
