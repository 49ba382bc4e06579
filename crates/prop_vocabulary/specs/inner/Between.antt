-- Names for parts of how a relation is made.
use Rattle.std.specs.Prelude.{ℕ, List, [], ◌∷◌, ◌++◌, fold, unwrap_or}
use Rattle.prop_sets.specs.Relation.{Relation, no_pairs, with_pair}
use Rattle.prop_vocabulary.specs.Names.{number_in}
use Rattle.prop_vocabulary.specs.Vocabulary.{Vocabulary, elements_of, side_at}

-- the number of the element with the name, or 0 where there is none
abbrev pub place_of : List (List ℕ) → List ℕ → ℕ
place_of elements name = unwrap_or (number_in elements name) 0

-- all these pairs more, of elements by their names
abbrev pub with_pairs : List (List ℕ) → List (List ℕ) → Relation → List (List ℕ × List ℕ) → Relation
with_pairs first second m pairs =
    fold (λ m pair. with_pair m (place_of first pair.0) (place_of second pair.1)) m pairs

-- the relation between two domains, by their numbers, with just these pairs of elements
abbrev pub relation_between : Vocabulary → ℕ → ℕ → List (List ℕ × List ℕ) → Relation
relation_between v first second pairs =
    with_pairs (elements_of v first) (elements_of v second)
    (no_pairs (side_at v first) (side_at v second)) pairs

-- one relation more
abbrev pub with_new_relation : Vocabulary → List ℕ → Relation → Vocabulary
with_new_relation v name m =
    record v { relation_names = v.relation_names ++ name ∷ []; relations = v.relations ++ m ∷ [] }
