-- Names for parts of what declarations and values say.
use Rattle.std.specs.Prelude.{ℕ, List, [], ◌∷◌, Bool, ◌||◌, nat_le, nat_lt, Option, length}
use Rattle.std.specs.Prelude.{is_some, is_none, unwrap_or, slice_get}
use Rattle.prop_refusals.specs.Refusals.{most, when, first_of}
use Rattle.prop_refusals.specs.declared.refusal.Limit.TheVariants.{Domains, Elements}
use Rattle.prop_refusals.specs.declared.refusal.Refusal.{Refusal}
use Rattle.prop_refusals.specs.declared.refusal.Refusal.TheVariants.{LimitReached}
use Rattle.prop_sets.specs.Names.{has_repeat}
use Rattle.prop_sets.specs.Relation.{Relation, with_pair}
use Rattle.prop_vocabulary.specs.Names.{number_in}
use Rattle.prop_vocabulary.specs.Pairs.{is_outside}
use Rattle.prop_vocabulary.specs.inner.Between.{place_of}
use Rattle.prop_vocabulary.specs.Vocabulary.{Vocabulary, domain_number, elements_of}

-- one pair more, of the elements with these names
abbrev pub with_named_pair : List (List ℕ) → List (List ℕ) → Relation → List ℕ × List ℕ → Relation
with_named_pair first second m pair = with_pair m (place_of first pair.0) (place_of second pair.1)

-- the first word is no element of the first domain, or the second word none of the second
abbrev pub is_pair_outside : List (List ℕ) → List (List ℕ) → List ℕ × List ℕ → Bool
is_pair_outside first second pair =
    is_none (number_in first pair.0) || is_none (number_in second pair.1)

-- a declared domain has the name, or an element stands twice
abbrev pub is_domain_taken : Vocabulary → List ℕ → List (List ℕ) → Bool
is_domain_taken v name elements = is_some (number_in v.domain_names name) || has_repeat elements

-- there are as many declared domains as there can be, or too many elements
abbrev pub domain_limit : Vocabulary → List (List ℕ) → Option Refusal
domain_limit v elements =
    first_of (
    when (LimitReached Domains) (nat_le (most Domains) (length v.domain_names))
    ∷ when (LimitReached Elements) (nat_lt (most Elements) (length elements))
    ∷ []
    )

-- a word of a pair is no element of its domain
abbrev pub is_word_outside : Vocabulary → List ℕ → List ℕ → List (List ℕ × List ℕ) → Bool
is_word_outside v from to pairs =
    is_outside (elements_of v (unwrap_or (domain_number v from) 0))
    (elements_of v (unwrap_or (domain_number v to) 0)) pairs

-- the name of the symbol with this number, nothing where there is none
abbrev pub symbol_text : Vocabulary → ℕ → List ℕ
symbol_text v n = unwrap_or (slice_get v.symbols n) []
