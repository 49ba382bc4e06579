-- Parts of the texts of values.
use Rattle.std.specs.Prelude.{ℕ, ℤ, List, ◌++◌, Option, None, codes, if◌then◌else◌, slice_get}
use Rattle.std.specs.Fmt.{signed_decimal}
use Rattle.std.specs.Ordering.{int_eq}
use Rattle.prop_lattice.specs.declared.info.Kind.{Kind}
use Rattle.prop_lattice.specs.declared.info.Kind.TheVariants.{Span as SpanKind, Set as SetKind}
use Rattle.prop_lattice.specs.declared.info.Kind.TheVariants.{Symbol as SymbolKind}
use Rattle.prop_vocabulary.specs.Vocabulary.{Vocabulary}

-- a..b, or a where both are equal
abbrev pub span_text : ℤ → ℤ → List ℕ
span_text low high = if int_eq low high then signed_decimal low else signed_decimal
    low ++ (codes ".." ++ signed_decimal high)

-- the elements of the domain of a kind of sets
abbrev pub domain_of : Vocabulary → Kind → Option (List (List ℕ))
domain_of v (SetKind d) = slice_get v.domains d
domain_of v SpanKind = None
domain_of v SymbolKind = None
