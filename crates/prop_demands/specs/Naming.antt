-- What the names of an expression stand for, at points of the cells.
use Rattle.std.specs.Prelude.{ℕ, ◌+◌, ◌==◌, List, [], ◌∷◌, Bool, false, cond, Option, None, length}
use Rattle.std.specs.Prelude.{replicate, slice_index_or}
use Rattle.std.specs.Option.{option_map_or}
use Rattle.std.specs.Str.{is_utf8}
use Rattle.prop_lattice.specs.Points.{Point}
use Rattle.prop_lattice.specs.declared.info.Kind.{Kind}
use Rattle.prop_procedures.specs.Fitting.{kind_at}
use Rattle.prop_sets.specs.Relation.{Relation}
use Rattle.prop_meaning.specs.Words.{domain_of, is_pair}
use Rattle.prop_terms.specs.Meaning.{Names, Text, Value, value_of}
use Rattle.prop_vocabulary.specs.Cells.{cell_named}
use Rattle.prop_vocabulary.specs.Names.{number_in}
use Rattle.prop_vocabulary.specs.Vocabulary.{elements_of, relation_named}
use Rattle.prop_workbench.specs.Machine.{State}

-- how many letters all these names have together
abbrev pub letters : List (List ℕ) → ℕ
letters [] = 0
letters (name ∷ names) = length name + letters names

-- a symbol has this number, and none before it has the same name
abbrev pub is_symbol : List (List ℕ) → ℕ → Bool
is_symbol symbols n =
    option_map_or (λ m. m == n) (number_in symbols (slice_index_or symbols n [])) false

-- a word for the number that is no symbol's name: so many spaces as no name has
abbrev pub spare_word : List (List ℕ) → ℕ → List ℕ
spare_word symbols n = replicate (n + 1 + letters symbols) 32

-- what the symbol of a number is called: by its name, or by a spare word where the number has none
-- of its own
abbrev pub symbol_word : List (List ℕ) → ℕ → List ℕ
symbol_word symbols n =
    cond (is_symbol symbols n) (slice_index_or symbols n []) (spare_word symbols n)

-- the cell that a word names
abbrev pub cell_called : State → List ℕ → Option ℕ
cell_called s w = cond (is_utf8 w) (cell_named s.names w) None

-- the relation that a word names
abbrev pub relation_called : State → List ℕ → Option Relation
relation_called s w = cond (is_utf8 w) (relation_named s.words w) None

-- what an element of a domain is called
abbrev pub element_word : State → ℕ → ℕ → List ℕ
element_word s domain i = slice_index_or (elements_of s.words domain) i []

-- the value of a point of this kind
abbrev pub value_in : State → Kind → Point → Value
value_in s k p = value_of (element_word s (domain_of k)) (symbol_word s.words.symbols) p

-- the value of a cell at these points
abbrev pub value_at : State → (ℕ → Point) → ℕ → Value
value_at s points cell = value_in s (kind_at s.kinds cell).kind (points cell)

-- The name of a cell stands for the cell's value at these points, and any other word for itself.
-- The values of a pair of a relation belong to it.
abbrev pub names_in : State → (ℕ → Point) → Names
names_in s points = record {
  value = λ w. option_map_or (value_at s points) (cell_called s w) (Text w);
  related = λ w vs. option_map_or (is_pair (element_word s) vs) (relation_called s w) false;
}
