-- The texts of values.
use Rattle.std.specs.Prelude.{ℕ, List, [], ◌∷◌, ◌++◌, ◌==◌, codes, if◌then◌else◌, map, filter}
use Rattle.std.specs.Prelude.{slice_get, unwrap_or}
use Rattle.std.specs.Fmt.{signed_decimal}
use Rattle.std.specs.Int.{bit_at}
use Rattle.std.specs.List.{enumerate_from, join_by}
use Rattle.std.specs.Ordering.{int_eq}
use Rattle.prop_lattice.specs.declared.info.Info.{Info}
use Rattle.prop_lattice.specs.declared.info.Info.TheVariants.{Nothing, Span, Set, Sym}
use Rattle.prop_lattice.specs.declared.info.Info.TheVariants.{Contradiction}
use Rattle.prop_lattice.specs.declared.info.Kind.{Kind}
use Rattle.prop_lattice.specs.declared.info.Kind.TheVariants.{Set as SetKind}
use Rattle.prop_vocabulary.specs.Vocabulary.{Vocabulary, elements_of}

-- of the names of elements those whose bits are set, in order
abbrev pub names_in : List (List ℕ) → ℕ → List (List ℕ)
names_in names bits = map (λ p. p.1) (filter (λ p. bit_at bits p.0 == 1) (enumerate_from 0 names))

-- the names in braces with one space between, or the bare name where there is just one
abbrev pub in_braces : List (List ℕ) → List ℕ
in_braces (name ∷ []) = name
in_braces names = codes "{" ++ (join_by (λ name. name) (codes " ") names ++ codes "}")

-- the elements of the domain of a kind of sets, none for another kind
abbrev pub elements_of_kind : Vocabulary → Kind → List (List ℕ)
elements_of_kind v (SetKind d) = elements_of v d
elements_of_kind v kind = []

-- the text of an information of a cell of the kind; of a span a..b, or a where both are equal
abbrev pub value_text : Vocabulary → Kind → Info → List ℕ
value_text v kind Nothing = codes "nothing"
value_text v kind (Span s) = if int_eq s.lo s.hi then signed_decimal s.lo else signed_decimal s.lo
    ++ (codes ".." ++ signed_decimal s.hi)
value_text v kind (Set s) = in_braces (names_in (elements_of_kind v kind) s.bits)
value_text v kind (Sym n) = unwrap_or (slice_get v.symbols n) []
value_text v kind Contradiction = codes "contradiction"
