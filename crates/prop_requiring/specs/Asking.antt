-- Which lines require something or define a cell, and the parts of which they are.
use Rattle.std.specs.Prelude.{◌≡◌, ◌≤◌, ◌<◌, ◌⊎◌, ℕ, List, ◌∷◌, ◌++◌, Bool, ◌||◌, ◌==◌, not}
use Rattle.std.specs.Prelude.{true, false, codes, Option, Some, None, IfSome, length}
use Rattle.std.specs.List.{list_all}
use Rattle.prop_refusals.specs.declared.refusal.Refusal.{Refusal}
use Rattle.prop_refusals.specs.declared.refusal.Refusal.TheVariants.{LineTooLong, NotAName}
use Rattle.prop_language.specs.Names.{is_name}
use Rattle.prop_seeking.specs.Asking.{begins}

-- the line requires something
abbrev pub is_requirement : List ℕ → Bool
is_requirement line = begins (codes "require") line

-- a space, a tab or a carriage return
abbrev pub is_space : ℕ → Bool
is_space b = (b == 32) || (b == 9) || (b == 13)

abbrev pub AreSpaces : List ℕ → Type 0
AreSpaces bytes = list_all is_space bytes ≡ true

-- at least one byte, and none of them a space
abbrev pub IsWord : List ℕ → Type 0
IsWord bytes = (0 < length bytes) × (list_all (λ b. not (is_space b)) bytes ≡ true)

-- The line is `require` with this text, then `under` and this word. There are spaces around
-- `under`, and maybe at the end.
abbrev pub EndsUnder : List ℕ → List ℕ → List ℕ → Type 0
EndsUnder line text word = (a b : ℕ) × (gap end : List ℕ) × (is_space a ≡ true)
    × (is_space b ≡ true) × AreSpaces gap × AreSpaces end × IsWord word
    × (line ≡ codes "require" ++ (text ++ a ∷ (codes "under" ++ (gap ++ b ∷ (word ++ end)))))

-- The parts of a line are this text and this word, where it ends with `under` and a word. Else its
-- one part is the text behind `require`, before spaces at the end.
abbrev pub HasParts : List ℕ → List ℕ → Option (List ℕ) → Type 0
HasParts line text (Some word) = EndsUnder line text word
HasParts line text None = ((before word : List ℕ) → EndsUnder line before word → ⊥)
    × (end : List ℕ) × AreSpaces end × (line ≡ codes "require" ++ (text ++ end))

-- the line is not too long, these are its parts, and the word behind `under` is a name
pub record IsAsked (line text : List ℕ) (premise : Option (List ℕ)) : Type 0 where
  pub few : length line ≤ 4_096
  pub parts : HasParts line text premise
  pub named : IfSome premise (λ name. is_name name ≡ true)

-- why a line is refused for its parts: it is too long, or the word behind `under` is no name
abbrev pub IsMisread : List ℕ → Refusal → Type 0
IsMisread line e = ((e ≡ LineTooLong) × (4_096 < length line))
    ⊎ ((e ≡ NotAName) × (length line ≤ 4_096) × (text word : List ℕ) × EndsUnder line text word
    × (is_name word ≡ false))

-- ---- definitions

-- the line defines a cell
abbrev pub is_definition : List ℕ → Bool
is_definition line = begins (codes "let") line

-- none of the bytes is an equals sign
abbrev pub HasNoEquals : List ℕ → Type 0
HasNoEquals bytes = list_all (λ b. not (b == 61)) bytes ≡ true

-- the line is not too long, and is `let`, this before its first equals sign, this text behind it,
-- and maybe spaces at the end
pub record IsDefined (line before text : List ℕ) : Type 0 where
  pub few : length line ≤ 4_096
  pub end : List ℕ
  pub spaces : AreSpaces end
  pub parts : line ≡ codes "let" ++ (before ++ 61 ∷ (text ++ end))
  pub first : HasNoEquals before

-- the line that declares what stands before the equals sign, as a cell of this kind
abbrev pub cell_line : List ℕ → List ℕ → List ℕ
cell_line before kind = codes "cell" ++ (before ++ 32 ∷ kind)
