-- Terms: what an expression is.
use Rattle.std.specs.Prelude.{ℕ, List}
use Rattle.prop_terms.specs.declared.operators.Prefix.{Prefix}
use Rattle.prop_terms.specs.declared.operators.Infix.{Infix}
use Rattle.prop_terms.specs.declared.term.Term as made
use Rattle.prop_terms.specs.declared.term.Term.TheVariants as makes

-- A whole number, a name, an operator before a term or between two, or words in braces. Lists,
-- ranges, rows and the parts of an `if` are terms too, which stand only in their places.
pub data Term : Type 0 where
  Number : ℕ → Term
  Name : List ℕ → Term
  One : Prefix → Term → Term
  Two : Infix → Term → Term → Term
  Braces : Term → Term

-- a term without where it lies in memory
abbrev pub term_of : made.Term → Term
term_of (makes.Number n) = Number n
term_of (makes.Name w) = Name w.now
term_of (makes.One' op p t) = One op (term_of t)
term_of (makes.Two' op p t q u) = Two op (term_of t) (term_of u)
term_of (makes.Braces' p t) = Braces (term_of t)
