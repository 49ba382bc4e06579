-- The tokens of a term, with brackets only where an operator's level asks for them.
use Rattle.std.specs.Prelude.{ℕ, List, [], ◌∷◌, ◌++◌, cond, nat_le}
use Rattle.prop_terms.specs.declared.tokens.Shape.TheVariants.{Round, Curly}
use Rattle.prop_terms.specs.declared.operators.Prefix.{Prefix}
use Rattle.prop_terms.specs.declared.operators.Prefix.TheVariants.{Negated}
use Rattle.prop_terms.specs.declared.operators.Infix.TheVariants.{Minus}
use Rattle.prop_terms.specs.Levels.{level_of, strength_of, leaf_level, left_at, right_at}
use Rattle.prop_terms.specs.Terms.{Term, Number, Name, One, Two, Braces}
use Rattle.prop_terms.specs.Tokens.{Token, Numeral, Word, Before, Between, Open, Close}
use Rattle.prop_terms.specs.Writing.{Writes}

-- the tokens of what has this level, where that other one is asked for
abbrev pub bracketed : ℕ → ℕ → List Token → List Token
bracketed asked level ts = cond (nat_le asked level) ts (Open Round ∷ (ts ++ Close Round ∷ []))

-- the mark of what stands before a term
abbrev pub mark_of : Prefix → Token
mark_of Negated = Between Minus
mark_of op = Before op

abbrev pub printed : ℕ → Term → List Token
printed p (Number n) = bracketed p leaf_level (Numeral n ∷ [])
printed p (Name w) = bracketed p leaf_level (Word w ∷ [])
printed p (One op t) =
    bracketed p (strength_of op) (mark_of op ∷ printed (right_at (strength_of op)) t)
printed p (Two op t u) = bracketed p (level_of op)
    (printed (left_at (level_of op)) t ++ Between op ∷ printed (right_at (level_of op)) u)
printed p (Braces t) = Open Curly ∷ (printed 0 t ++ Close Curly ∷ [])

-- each term is written by its tokens
abbrev pub AreWritten : Type 0
AreWritten = (t : Term) → Writes 0 (printed 0 t) t
