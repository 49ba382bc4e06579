-- Who waits, and in which order.
use Rattle.std.specs.Prelude.{◌≡◌, ℕ, zero, suc, ◌==◌, ◌⊎◌, Bool, false, if◌then◌else◌}
use Rattle.std.specs.Prelude.{List, [], ◌∷◌, ◌++◌, slice_index_or}
use Rattle.std.specs.List.{list_any}

-- numbers in a line, each below the room
pub record Queued : Type 0 where
  pub line : List ℕ
  pub room : ℕ

-- for each instance whether a call of it is dear; the cheap and the dear ones that wait
pub record Lines : Type 0 where
  pub dear : List Bool
  pub first : List ℕ
  pub last : List ℕ

-- the line with the number in it: as it is where the number is, and else with it as the last
abbrev pub joined : List ℕ → ℕ → List ℕ
joined line j = if list_any (λ k. k == j) line then line else line ++ j ∷ []

-- the instance waits, among the dear ones where it is dear
abbrev pub woken : Lines → ℕ → Lines
woken w i =
    if slice_index_or w.dear i false then record w { last = joined w.last i }
    else record w { first = joined w.first i }

-- the numbers below n, in order
abbrev pub numbers_below : ℕ → List ℕ
numbers_below zero = []
numbers_below (suc n) = numbers_below n ++ n ∷ []

-- the first of the cheap ones no longer waits, or where none of them did the first of the dear ones
abbrev pub IsTaken : Lines → ℕ → Lines → Type 0
IsTaken old i new =
    (new.dear ≡ old.dear)
    × (((old.first ≡ i ∷ new.first) × (old.last ≡ new.last))
    ⊎ ((old.first ≡ []) × (new.first ≡ []) × (old.last ≡ i ∷ new.last)))
