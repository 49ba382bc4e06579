-- The tokens of a text.
use Prim.Native.String.{String}
use Rattle.std.specs.Prelude.{ℕ, pos, unsigned_abs, List, [], ◌∷◌, Bool, cond, ◌==◌, ◌||◌, ◌&&◌}
use Rattle.std.specs.Prelude.{true, false, codes, bytes_eq, find, Option, Some, None}
use Rattle.std.specs.Option.{option_map, option_map_or}
use Rattle.prop_language.specs.Names.{looks_like_number, number_in}
use Rattle.prop_terms.specs.declared.operators.Prefix.{Prefix}
use Rattle.prop_terms.specs.declared.operators.Infix.{Infix}
use Rattle.prop_terms.specs.declared.operators.Prefix.TheVariants as before
use Rattle.prop_terms.specs.declared.operators.Infix.TheVariants as between
use Rattle.prop_terms.specs.declared.tokens.Shape.{Shape}
use Rattle.prop_terms.specs.declared.tokens.Shape.TheVariants.{Round, Curly}

-- what a term is written with; Unknown is what no term has
pub data Token : Type 0 where
  Numeral : ℕ → Token
  Word : List ℕ → Token
  Before : Prefix → Token
  Between : Infix → Token
  Open Close : Shape → Token
  Unknown : Token

-- ---- pieces

-- a space or a tab
abbrev pub is_blank : ℕ → Bool
is_blank b = (b == 32) || (b == 9)

-- one of ( ) { } , ; : + - * % < > = ! / .
abbrev pub is_mark : ℕ → Bool
is_mark b = (b == 40) || (b == 41) || (b == 123) || (b == 125) || (b == 44) || (b == 59)
    || (b == 58) || (b == 43) || (b == 45) || (b == 42) || (b == 37) || (b == 60) || (b == 62)
    || (b == 61) || (b == 33) || (b == 47) || (b == 46)

-- two bytes that are one mark: == != <= >= // ** ..
abbrev pub is_pair : ℕ → ℕ → Bool
is_pair b c = ((c == 61) && ((b == 61) || (b == 33) || (b == 60) || (b == 62)))
    || ((b == c) && ((b == 47) || (b == 42) || (b == 46)))

-- a word before pieces, where it has a byte
abbrev pub with_word : List ℕ × List (List ℕ) → List (List ℕ)
with_word ([], pieces) = pieces
with_word (b ∷ word, pieces) = (b ∷ word) ∷ pieces

-- the word that the bytes begin with, and the pieces after it
abbrev pub front_word : List ℕ → List ℕ × List (List ℕ)
front_word [] = ([], [])
front_word (b ∷ []) = cond (is_blank b) ([], []) (cond (is_mark b) ([], (b ∷ []) ∷ []) (b ∷ [], []))
front_word (b ∷ c ∷ bytes) =
    let rest = front_word (c ∷ bytes) in
    cond (is_blank b) ([], with_word rest) (cond (is_mark b) (
      [],
      cond (is_pair b c) ((b ∷ c ∷ []) ∷ with_word (front_word bytes))
          ((b ∷ []) ∷ with_word rest),
    ) (b ∷ rest.0, rest.1))

-- Each mark is a piece by itself. A word is a longest run of other bytes than marks, spaces and
-- tabs.
abbrev pub pieces : List ℕ → List (List ℕ)
pieces bytes = with_word (front_word bytes)

-- ---- what a piece is

-- a mark or a word of expressions, and what it is
abbrev pub entry : String → Token → List ℕ × Token
entry text token = (codes text, token)

abbrev pub vocabulary : List (List ℕ × Token)
vocabulary = entry "(" (Open Round) ∷ entry ")" (Close Round) ∷ entry "{" (Open Curly)
    ∷ entry "}" (Close Curly) ∷ entry "," (Between between.Comma) ∷ entry "+" (Between between.Plus)
    ∷ entry "-" (Between between.Minus) ∷ entry "*" (Between between.Times)
    ∷ entry "//" (Between between.Over) ∷ entry "%" (Between between.Remainder)
    ∷ entry "**" (Between between.Power) ∷ entry "==" (Between between.Equal)
    ∷ entry "!=" (Between between.Unequal) ∷ entry "<" (Between between.Less)
    ∷ entry "<=" (Between between.AtMost) ∷ entry ">" (Between between.Greater)
    ∷ entry ">=" (Between between.AtLeast) ∷ entry ".." (Between between.UpTo)
    ∷ entry ";" (Between between.Semicolon) ∷ entry ":" (Between between.Colon)
    ∷ entry "=" Unknown ∷ entry "!" Unknown ∷ entry "/" Unknown ∷ entry "." Unknown
    ∷ entry "and" (Between between.And) ∷ entry "or" (Between between.Or)
    ∷ entry "not" (Before before.Not) ∷ entry "xor" (Between between.Xor)
    ∷ entry "implies" (Between between.Implies) ∷ entry "iff" (Between between.Iff)
    ∷ entry "in" (Between between.In) ∷ entry "if" (Before before.If)
    ∷ entry "then" (Between between.Then) ∷ entry "else" (Between between.Else)
    ∷ entry "abs" (Before before.Abs) ∷ entry "max" (Before before.Max)
    ∷ entry "min" (Before before.Min) ∷ entry "sum" (Before before.Sum)
    ∷ entry "count" (Before before.Count) ∷ entry "different" (Before before.Different)
    ∷ entry "element" (Before before.Element) ∷ []

-- the bytes before a quote that is the last of them
abbrev pub before_quote : List ℕ → Option (List ℕ)
before_quote [] = None
before_quote (b ∷ []) = cond (b == 39) (Some []) None
before_quote (b ∷ c ∷ bytes) = option_map (λ word. b ∷ word) (before_quote (c ∷ bytes))

-- what stands between quotes
abbrev pub unquoted : List ℕ → Option (List ℕ)
unquoted [] = None
unquoted (b ∷ bytes) = cond (b == 39) (before_quote bytes) None

abbrev pub numeral : Option ℕ → Token
numeral None = Unknown
numeral (Some n) = Numeral n

-- A word that is not of expressions: a name in quotes, a whole number up to 10^18, or a name. What
-- begins with a digit is no name.
abbrev pub own_word : List ℕ → Token
own_word piece = option_map_or Word (unquoted piece) (cond (looks_like_number piece)
    (numeral (option_map unsigned_abs (number_in (pos 0) (pos 1_000_000_000_000_000_000) piece)))
    (Word piece))

abbrev pub token_of : List ℕ → Token
token_of piece = option_map_or (λ known. known.1)
    (find (λ known. bytes_eq known.0 piece) vocabulary) (own_word piece)

-- ---- the tokens

abbrev pub is_leaf : Token → Bool
is_leaf (Numeral n) = true
is_leaf (Word w) = true
is_leaf token = false

-- each piece's token, and Beside between two of them that are numbers or names; whether the piece
-- before was one comes first
abbrev pub tokens_after : Bool → List (List ℕ) → List Token
tokens_after leaf [] = []
tokens_after leaf (p ∷ ps) = cond (leaf && is_leaf (token_of p))
    (Between between.Beside ∷ token_of p ∷ tokens_after (is_leaf (token_of p)) ps)
    (token_of p ∷ tokens_after (is_leaf (token_of p)) ps)

abbrev pub tokens : List ℕ → List Token
tokens text = tokens_after false (pieces text)
