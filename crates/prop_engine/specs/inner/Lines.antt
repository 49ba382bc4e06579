-- The lines of an input and of a reply.
use Rattle.std.specs.Prelude.{◌≡◌, ◌≢◌, ◌-◌, ℕ, List, [], ◌∷◌, ◌++◌, length, take}

-- no line feed is among the bytes
abbrev pub IsWithoutFeed : List ℕ → Type 0
IsWithoutFeed [] = Unit {0}
IsWithoutFeed (b ∷ bytes) = (b ≢ 10) × IsWithoutFeed bytes

-- the bytes before the last
unfoldable pub before_last : List ℕ → List ℕ
before_last bytes = take (length bytes - 1) bytes

-- the last byte is a line feed
abbrev pub EndsWithFeed : List ℕ → Type 0
EndsWithFeed bytes = bytes ≡ before_last bytes ++ 10 ∷ []
