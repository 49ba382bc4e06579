-- Which lines are the layer's own.
use Rattle.std.specs.Prelude.{List, ℕ, Bool, true, cond, ◌==◌, ◌||◌, ◌&&◌, ◌++◌, ◌∷◌, [], codes}
use Rattle.std.specs.Prelude.{bytes_eq, take, drop, slice_get, unwrap_or}
use Rattle.prop_language.specs.Tokens.{is_blank}

-- the line is the word, and maybe a carriage return
abbrev pub is_word : List ℕ → List ℕ → Bool
is_word word line = bytes_eq line word || bytes_eq line (word ++ 13 ∷ [])

abbrev pub is_step : List ℕ → Bool
is_step line = is_word (codes "step") line

-- a word ends before these bytes, but for a carriage return
abbrev pub is_apart : List ℕ → Bool
is_apart [] = true
is_apart (b ∷ bytes) = is_blank b || b == 13

-- the first word of the line, from its first byte on, is `how`
abbrev pub is_how : List ℕ → Bool
is_how line = bytes_eq (take 3 line) (codes "how") && is_apart (drop 3 line)

-- `why` in place of the first three bytes
abbrev pub as_why : List ℕ → List ℕ
as_why line = codes "why" ++ drop 3 line

abbrev pub is_list : List ℕ → Bool
is_list line = is_word (codes "list") line

-- the byte at a place, 0 behind the end
abbrev pub byte_at : List ℕ → ℕ → ℕ
byte_at line place = unwrap_or (slice_get line place) 0

-- the line begins as `attach`, `define` and `domain` do, or with a blank: no other line declares
-- what is noted
abbrev pub may_declare : List ℕ → Bool
may_declare line =
    let first = byte_at line 0 in
    cond (first == 97) (byte_at line 1 == 116) (first == 100 || (first == 32 || first == 9))
