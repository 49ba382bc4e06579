-- What is true of every vocabulary stays true.
use Rattle.std.proofs.Common.{◌≡◌, ◌∙◌, ℕ, ◌+◌, ◌<◌, List, [], ◌∷◌, ◌++◌, Some, length, get_or, slice_get, sym, ap}
use Rattle.std.proofs.Common.{arith}
use Rattle.std.proofs.Math.ListN.{get_or-append}
use Rattle.std.proofs.lemmas.List.{length-append}
use Rattle.std.proofs.lemmas.List.Elements.{All-push}
use Rattle.std.proofs.lemmas.Option.{unwrap_or-slice_get}
use Rattle.prop_refusals.specs.Refusals.{most}
use Rattle.prop_refusals.specs.declared.refusal.Limit.TheVariants.{Domains, Relations}
use Rattle.prop_sets.specs.Names.{AreElements}
use Rattle.prop_sets.specs.Relation.{Relation}
use Rattle.prop_sets.specs.declared.side.Side as sides
use Rattle.prop_vocabulary.specs.Vocabulary.{Vocabulary, elements_at, with_domain}
use Rattle.prop_vocabulary.specs.inner.Truth.{truth_elements}
use Rattle.prop_vocabulary.specs.inner.Between.{with_new_relation}
use Rattle.prop_vocabulary.specs.Vocabulary.{IsSideOf, HasSides, IsWhole}

-- what a domain has stays, with one domain more
elements_at-more : (domains : List (List (List ℕ))) (more : List (List ℕ)) (d : ℕ) → d < length domains
    → elements_at (domains ++ more ∷ []) d ≡ elements_at domains d
elements_at-more domains more d l =
    unwrap_or-slice_get (domains ++ more ∷ []) d [] ∙ get_or-append domains (more ∷ []) [] d l
    ∙ sym (unwrap_or-slice_get domains d [])

side-more : (domains : List (List (List ℕ))) (more : List (List ℕ)) (s : sides.Side) → IsSideOf domains s
    → IsSideOf (domains ++ more ∷ []) s
side-more domains more s p = record {
  there = omega (arith, p.there, length-append domains (more ∷ []));
  size_is = p.size_is ∙ sym (ap length (elements_at-more domains more s.domain p.there));
}

sides-more : (domains : List (List (List ℕ))) (more : List (List ℕ)) (m : Relation) → HasSides domains m
    → HasSides (domains ++ more ∷ []) m
sides-more domains more m p = record {
  first = side-more domains more m.from p.first;
  second = side-more domains more m.to p.second;
}

length-push : {X : Type 0} (xs : List X) (x : X) → length (xs ++ x ∷ []) ≡ length xs + 1
length-push xs x = length-append xs (x ∷ [])

first-stays : (domains : List (List (List ℕ))) (more truth : List (List ℕ)) → slice_get domains 0 ≡ Some truth
    → slice_get (domains ++ more ∷ []) 0 ≡ Some truth
first-stays [] more truth e = cc
first-stays (x ∷ xs) more truth e = e

-- one domain more
pub domain-whole : (v : Vocabulary) (name : List ℕ) (elements : List (List ℕ)) → IsWhole v → AreElements elements
    → length v.domain_names < most Domains → IsWhole (with_domain v name elements)
domain-whole v name elements w are few = record {
  domains_named = omega (arith, w.domains_named, length-push v.domains elements, length-push v.domain_names name);
  relations_named = w.relations_named;
  truth = first-stays v.domains elements truth_elements w.truth;
  each_domain = All-push AreElements v.domains elements w.each_domain are;
  each_relation = λ k d l. sides-more v.domains elements (get_or v.relations k d) (w.each_relation k d l);
  few_domains = omega (arith, few, length-push v.domain_names name);
  few_relations = w.few_relations;
  few_symbols = w.few_symbols;
}

-- one relation more
pub relation-whole : (v : Vocabulary) (name : List ℕ) (m : Relation) → IsWhole v → HasSides v.domains m
    → length v.relation_names < most Relations → IsWhole (with_new_relation v name m)
relation-whole v name m w has few = record {
  domains_named = w.domains_named;
  relations_named = omega (arith, w.relations_named, length-push v.relations m, length-push v.relation_names name);
  truth = w.truth;
  each_domain = w.each_domain;
  each_relation = All-push (HasSides v.domains) v.relations m w.each_relation has;
  few_domains = w.few_domains;
  few_relations = omega (arith, few, length-push v.relation_names name);
  few_symbols = w.few_symbols;
}

-- the domain with a number is one that may be
pub elements-are : (v : Vocabulary) (d : ℕ) → IsWhole v → d < length v.domains → AreElements (elements_at v.domains d)
elements-are v d w l = rw (unwrap_or-slice_get v.domains d []) (w.each_domain d [] l)
