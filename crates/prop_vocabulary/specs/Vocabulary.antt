-- The vocabulary of a session: its domains, relations and symbols by name.
use Rattle.std.specs.Prelude.{◌≡◌, ℕ, ◌+◌, ◌<◌, ◌≤◌, min, List, [], ◌∷◌, ◌++◌, All, Option, Some}
use Rattle.std.specs.Prelude.{codes, fold, is_some, if◌then◌else◌, length, slice_get, take}
use Rattle.std.specs.Prelude.{unwrap_or}
use Rattle.std.specs.Option.{option_map, option_and_then}
use Rattle.std.proofs.Math.Nat.{min-le_right}
use Rattle.prop_refusals.specs.Refusals.{most}
use Rattle.prop_refusals.specs.declared.refusal.Limit.TheVariants.{Domains, Relations, Symbols}
use Rattle.prop_sets.specs.Names.{AreElements}
use Rattle.prop_sets.specs.Relation.{Relation, no_pairs, with_pair}
use Rattle.prop_sets.specs.declared.side.Side as sides
use Rattle.prop_vocabulary.specs.Names.{number_in}
use Rattle.prop_vocabulary.specs.inner.Truth.{truth_elements}

-- the names of the declared domains, the elements of each domain by its number, that of truth
-- first, the names of the relations and the relations, and the names of the symbols
pub record Vocabulary : Type 0 where
  pub domain_names : List (List ℕ)
  pub domains : List (List (List ℕ))
  pub relation_names : List (List ℕ)
  pub relations : List Relation
  pub symbols : List (List ℕ)

-- nothing is declared, and truth has its elements
abbrev pub start_vocabulary : Vocabulary
start_vocabulary = let truth = (codes "yes" ∷ codes "no" ∷ []) ∷ [] in
    record { domain_names = []; domains = truth; relation_names = []; relations = []; symbols = [] }

-- ---- domains

-- the number of the declared domain with the name; truth has the number 0 and no name that can be
-- declared
abbrev pub domain_number : Vocabulary → List ℕ → Option ℕ
domain_number v name = option_map (λ n. n + 1) (number_in v.domain_names name)

-- the elements of the domain with the number, none where there is no such domain
abbrev pub elements_of : Vocabulary → ℕ → List (List ℕ)
elements_of v d = unwrap_or (slice_get v.domains d) []

-- one domain more
abbrev pub with_domain : Vocabulary → List ℕ → List (List ℕ) → Vocabulary
with_domain v name elements =
    record v { domain_names = v.domain_names ++ name ∷ []; domains = v.domains ++ elements ∷ [] }

-- ---- relations

-- the relation with the name
abbrev pub relation_named : Vocabulary → List ℕ → Option Relation
relation_named v name = option_and_then (slice_get v.relations) (number_in v.relation_names name)

-- the domain with the number as a side of a relation; a domain has up to 64 elements
abbrev pub side_at : Vocabulary → ℕ → sides.Side
side_at v d = let size = length (elements_of v d) in
    record { domain = d; size = min size 64; fits = min-le_right size 64 }

-- the relation between two declared domains, by their names, with just these pairs of elements, by
-- theirs
abbrev pub relation_of : Vocabulary → List ℕ → List ℕ → List (List ℕ × List ℕ) → Relation
relation_of v from to pairs =
    let d = unwrap_or (domain_number v from) 0 in let e = unwrap_or (domain_number v to) 0 in
    let at = λ (d : ℕ) (name : List ℕ). unwrap_or (number_in (elements_of v d) name) 0 in
    fold (λ m p. with_pair m (at d p.0) (at e p.1)) (no_pairs (side_at v d) (side_at v e)) pairs

-- one relation more, with just these pairs
abbrev pub with_relation : Vocabulary → List ℕ → List ℕ → List ℕ → List (List ℕ × List ℕ)
    → Vocabulary
with_relation v name from to pairs = let m = relation_of v from to pairs in
    record v { relation_names = v.relation_names ++ name ∷ []; relations = v.relations ++ m ∷ [] }

-- ---- symbols

-- the number of the symbol, the next one where it is new
abbrev pub symbol_number : Vocabulary → List ℕ → ℕ
symbol_number v name = unwrap_or (number_in v.symbols name) (length v.symbols)

-- the symbol is there
abbrev pub with_symbol : Vocabulary → List ℕ → Vocabulary
with_symbol v name =
    if is_some (number_in v.symbols name) then v else record v { symbols = v.symbols ++ name ∷ [] }

-- so many symbols stay
abbrev pub with_first_symbols : Vocabulary → ℕ → Vocabulary
with_first_symbols v count = record v { symbols = take count v.symbols }

-- ---- what is true of every vocabulary

-- the elements of one of these domains
abbrev pub elements_at : List (List (List ℕ)) → ℕ → List (List ℕ)
elements_at domains d = unwrap_or (slice_get domains d) []

-- the side is about one of these domains
pub record IsSideOf (domains : List (List (List ℕ))) (s : sides.Side) : Type 0 where
  pub there : s.domain < length domains
  pub size_is : s.size ≡ length (elements_at domains s.domain)

-- the relation is between two of these domains
pub record HasSides (domains : List (List (List ℕ))) (m : Relation) : Type 0 where
  pub first : IsSideOf domains m.from
  pub second : IsSideOf domains m.to

-- each name is that of a domain or a relation, domain 0 is truth, and there are not too many
pub record IsWhole (v : Vocabulary) : Type 0 where
  pub domains_named : length v.domains ≡ length v.domain_names + 1
  pub relations_named : length v.relations ≡ length v.relation_names
  pub truth : slice_get v.domains 0 ≡ Some truth_elements
  pub each_domain : All AreElements v.domains
  pub each_relation : All (HasSides v.domains) v.relations
  pub few_domains : length v.domain_names ≤ most Domains
  pub few_relations : length v.relation_names ≤ most Relations
  pub few_symbols : length v.symbols ≤ most Symbols
