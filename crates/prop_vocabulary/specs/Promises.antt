-- What is true of every relation that may be declared.
use Rattle.std.specs.Prelude.{◌≡◌, ◌↔◌, ◌⊎◌, ℕ, List, [], ◌∷◌, Some, None, unwrap_or}
use Rattle.prop_sets.specs.Relation.{Relation, HasPair}
use Rattle.prop_vocabulary.specs.Names.{number_in}
use Rattle.prop_vocabulary.specs.Refusing.{pairs_refusal}
use Rattle.prop_vocabulary.specs.Vocabulary.{Vocabulary, domain_number, elements_of, relation_of}
use Rattle.prop_vocabulary.specs.Vocabulary.{IsWhole}

-- elements i and j of the two domains have the names of one of the pairs
abbrev pub IsNamedPair : List (List ℕ) → List (List ℕ) → List (List ℕ × List ℕ) → ℕ → ℕ → Type 0
IsNamedPair first second [] i j = ⊥
IsNamedPair first second (pair ∷ pairs) i j =
    ((number_in first pair.0 ≡ Some i) × (number_in second pair.1 ≡ Some j))
    ⊎ IsNamedPair first second pairs i j

-- the pairs of the relation are those that are named, and no others
abbrev pub HasJust : List (List ℕ) → List (List ℕ) → List (List ℕ × List ℕ) → Relation → Type 0
HasJust first second pairs m = (i j : ℕ) → HasPair m i j ↔ IsNamedPair first second pairs i j

-- a relation of which the pairs are not refused has just these pairs
abbrev pub HaveJustTheirPairs : Type 0
HaveJustTheirPairs =
    (v : Vocabulary) (from to : List ℕ) (pairs : List (List ℕ × List ℕ)) → IsWhole v
    → pairs_refusal v from to pairs ≡ None →
    HasJust (elements_of v (unwrap_or (domain_number v from) 0))
    (elements_of v (unwrap_or (domain_number v to) 0)) pairs (relation_of v from to pairs)
