-- How a term is written.
use Rattle.std.specs.Prelude.{◌≡◌, ℕ, ◌≤◌, List, [], ◌∷◌, ◌++◌, true, Option, Some, None}
use Rattle.prop_terms.specs.declared.operators.Prefix.{Prefix}
use Rattle.prop_terms.specs.declared.operators.Infix.{Infix}
use Rattle.prop_terms.specs.declared.operators.Prefix.TheVariants as before
use Rattle.prop_terms.specs.declared.operators.Infix.TheVariants as between
use Rattle.prop_terms.specs.declared.tokens.Shape.{Shape}
use Rattle.prop_terms.specs.declared.tokens.Shape.TheVariants.{Round, Curly}
use Rattle.prop_terms.specs.Levels.{level_of, strength_of, leaf_level, bracket_level, left_at}
use Rattle.prop_terms.specs.Levels.{right_at}
use Rattle.prop_terms.specs.Terms.{Term, Number, Name, One, Two, Braces}
use Rattle.prop_terms.specs.Tokens.{Token, Numeral, Word, Before, Between, Open, Close, tokens}
use Rattle.prop_terms.specs.Forming.{is_formed}
use Rattle.prop_terms.specs.declared.forming.Sort.{Sort}
use Rattle.prop_terms.specs.declared.forming.Place.TheVariants.{Single}

-- which operator the token is before a term: a minus sign is the same as between two
abbrev pub ahead : Token → Option Prefix
ahead (Before op) = Some op
ahead (Between between.Minus) = Some before.Negated
ahead token = None

-- round brackets leave no trace
abbrev pub inside : Shape → Term → Term
inside Round t = t
inside Curly t = Braces t

-- The tokens write the term, at this level or a higher one. An operator stands where its own level
-- is not below the one that is asked for, and asks for levels in turn of what stands on its sides;
-- brackets ask for none of what they enclose.
pub data Writes : ℕ → List Token → Term → Type 0 where
  numeral : (p n : ℕ) → p ≤ leaf_level → Writes p (Numeral n ∷ []) (Number n)
  word : (p : ℕ) (w : List ℕ) → p ≤ leaf_level → Writes p (Word w ∷ []) (Name w)
  enclosed : (p : ℕ) (shape : Shape) (ts : List Token) (t : Term) → p ≤ bracket_level →
      Writes 0 ts t → Writes p (Open shape ∷ (ts ++ Close shape ∷ [])) (inside shape t)
  leading : (p : ℕ) (token : Token) (op : Prefix) (ts : List Token) (t : Term) →
      ahead token ≡ Some op → p ≤ strength_of op → Writes (right_at (strength_of op)) ts t →
      Writes p (token ∷ ts) (One op t)
  joining : (p : ℕ) (op : Infix) (ts us : List Token) (t u : Term) → p ≤ level_of op →
      Writes (left_at (level_of op)) ts t → Writes (right_at (level_of op)) us u →
      Writes p (ts ++ Between op ∷ us) (Two op t u)

-- the text writes the term, which may stand where one of this sort is wanted
abbrev pub IsWritten : Sort → List ℕ → Term → Type 0
IsWritten sort text t = Writes 0 (tokens text) t × (is_formed t (Single sort) ≡ true)

-- no text writes two terms
abbrev pub HaveOneReading : Type 0
HaveOneReading = (sort : Sort) (text : List ℕ) (t u : Term) → IsWritten sort text t
    → IsWritten sort text u → t ≡ u
