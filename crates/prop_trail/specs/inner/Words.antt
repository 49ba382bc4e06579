-- A number by its words.
use Rattle.std.specs.Prelude.{◌≡◌, ℕ, ℤ, pos, ◌+◌, ◌*◌, ◌^◌, ◌<◌, ◌-ℤ◌, ◌<ℤ◌, List, [], ◌∷◌, length}
use Rattle.std.specs.Prelude.{All}

-- the number whose words of 64 bits these are, the lowest first
abbrev pub cat : List ℕ → ℕ
cat [] = 0
cat (x ∷ xs) = cat xs * 2 ^ 64 + x

-- there are four words, and a bit in them for each number from the first to the last
pub record IsWindow (first last : ℤ) (words : List ℕ) : Type 0 where
  pub few : (last -ℤ first) <ℤ pos 256
  pub count : length words ≡ 4
  pub fit : All (λ word. word < 2 ^ 64) words
