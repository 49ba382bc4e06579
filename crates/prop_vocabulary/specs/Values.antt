-- What a value on a line says at a cell of a kind.
use Rattle.std.specs.Prelude.{ℕ, ℤ, neg_ℤ, int_lt, List, [], ◌∷◌, length, slice_index_or, cond}
use Rattle.std.specs.Prelude.{◌==◌, ◌&&◌, Option, Some, None, Result, Ok, Err, unwrap_or}
use Rattle.std.specs.List.{list_all}
use Rattle.prop_lattice.specs.declared.span.TheConstants.{B}
use Rattle.prop_refusals.specs.declared.refusal.Refusal.{Refusal}
use Rattle.prop_refusals.specs.declared.refusal.Refusal.TheVariants.{NotAName, NotANumber}
use Rattle.prop_refusals.specs.declared.refusal.Refusal.TheVariants.{WrongKind, NotInTheDomain}
use Rattle.prop_refusals.specs.declared.refusal.Refusal.TheVariants.{EmptyValue}
use Rattle.prop_lattice.specs.declared.info.Info.{Info}
use Rattle.prop_lattice.specs.declared.info.Kind.{Kind}
use Rattle.prop_lattice.specs.declared.info.Kind.TheVariants.{Span, Set, Symbol}
use Rattle.prop_lattice.specs.Ends.{span_from, elements_from}
use Rattle.prop_sets.specs.Chosen.{bits_where}
use Rattle.prop_language.specs.Names.{number_in, is_name, is_among}
use Rattle.prop_language.specs.Commands.{Value, Bare, Braces}

-- what stands before the first two dots in a row, and what after them, where there are any
abbrev pub halves : List ℕ → List ℕ × Option (List ℕ)
halves [] = ([], None)
halves (a ∷ []) = (a ∷ [], None)
halves (a ∷ b ∷ bytes) = let rest = halves (b ∷ bytes) in
    cond ((a == 46) && (b == 46)) ([], Some bytes) (a ∷ rest.0, rest.1)

-- a number of the largest magnitude at most
abbrev pub bounded_number : List ℕ → Option ℤ
bounded_number word = number_in (neg_ℤ B) B word

-- the numbers from one to the other
abbrev pub ends_value : Option ℤ → Option ℤ → Result Info Refusal
ends_value (Some a) (Some b) = cond (int_lt b a) (Err EmptyValue) (Ok (span_from a b))
ends_value a b = Err NotANumber

-- A..B, or A, which stands for A..A
abbrev pub span_value : List ℕ × Option (List ℕ) → Result Info Refusal
span_value (left, right) = ends_value (bounded_number left) (bounded_number (unwrap_or right left))

-- the set of the elements that the words name: each word is one of the names, and there is one
abbrev pub set_value : List (List ℕ) → List (List ℕ) → Result Info Refusal
set_value names [] = Err EmptyValue
set_value names words = cond (list_all (is_among names) words) (Ok (elements_from (bits_where
    (length names) (λ i. is_among words (slice_index_or names i []))))) (Err NotInTheDomain)

-- an information, or the name of a symbol
pub data Meant : Type 0 where
  Known : Info → Meant
  Name : List ℕ → Meant

abbrev pub known : Result Info Refusal → Result Meant Refusal
known (Ok info) = Ok (Known info)
known (Err refusal) = Err refusal

-- what a value says at a cell of the kind, by the names of its domain's elements where it is a set
abbrev pub value_said : Kind → List (List ℕ) → Value → Result Meant Refusal
value_said Span names (Bare word) = known (span_value (halves word))
value_said (Set d) names (Bare word) = known (set_value names (word ∷ []))
value_said (Set d) names (Braces words) = known (set_value names words)
value_said Symbol names (Bare word) = cond (is_name word) (Ok (Name word)) (Err NotAName)
value_said kind names (Braces words) = Err WrongKind
