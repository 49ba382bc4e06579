-- For what a declaration is refused: each condition by itself, and which of them comes first.
use Rattle.std.specs.Prelude.{◌≡◌, ◌⊎◌, ℕ, List, [], ◌∷◌, Bool, ◌||◌, ◌&&◌, nat_le, nat_lt, Option}
use Rattle.std.specs.Prelude.{Some, length, is_some, is_none, unwrap_or}
use Rattle.prop_refusals.specs.Refusals.{most, when, first_of}
use Rattle.prop_refusals.specs.declared.refusal.Limit.TheVariants.{Domains, Elements, Relations}
use Rattle.prop_refusals.specs.declared.refusal.Limit.TheVariants.{Symbols}
use Rattle.prop_refusals.specs.declared.refusal.Refusal.{Refusal}
use Rattle.prop_refusals.specs.declared.refusal.Refusal.TheVariants.{NameTaken, NoSuchDomain}
use Rattle.prop_refusals.specs.declared.refusal.Refusal.TheVariants.{NotInTheDomain, LimitReached}
use Rattle.prop_refusals.specs.declared.refusal.Refusal.TheVariants.{Memory}
use Rattle.prop_sets.specs.Names.{has_repeat}
use Rattle.prop_vocabulary.specs.Names.{number_in}
use Rattle.prop_vocabulary.specs.Pairs.{is_outside}
use Rattle.prop_vocabulary.specs.Vocabulary.{Vocabulary, domain_number, elements_of}

-- what is said where something is not done: why it is refused, or that memory is
abbrev pub IsReason : Option Refusal → Refusal → Type 0
IsReason why refusal = (why ≡ Some refusal) ⊎ (refusal ≡ Memory)

-- ---- a domain

-- why the domain may not be declared: a declared domain has the name or an element stands twice,
-- there are as many declared domains as there can be, or there are too many elements
abbrev pub domain_refusal : Vocabulary → List ℕ → List (List ℕ) → Option Refusal
domain_refusal v name elements =
    first_of (when NameTaken (is_some (number_in v.domain_names name) || has_repeat elements)
    ∷ first_of (when (LimitReached Domains) (nat_le (most Domains) (length v.domain_names))
    ∷ when (LimitReached Elements) (nat_lt (most Elements) (length elements)) ∷ []) ∷ [])

-- ---- a relation

-- one of the two domains is not declared
abbrev pub is_domain_missing : Vocabulary → List ℕ → List ℕ → Bool
is_domain_missing v from to = is_none (domain_number v from) || is_none (domain_number v to)

-- why these are no pairs of elements of the two domains
abbrev pub pairs_refusal : Vocabulary → List ℕ → List ℕ → List (List ℕ × List ℕ) → Option Refusal
pairs_refusal v from to pairs =
    first_of (when NoSuchDomain (is_domain_missing v from to) ∷ when NotInTheDomain
    (is_outside (elements_of v (unwrap_or (domain_number v from) 0))
    (elements_of v (unwrap_or (domain_number v to) 0)) pairs) ∷ [])

-- why the relation may not be declared
abbrev pub relation_refusal : Vocabulary → List ℕ → List ℕ → List ℕ → List (List ℕ × List ℕ)
    → Option Refusal
relation_refusal v name from to pairs =
    first_of (when NameTaken (is_some (number_in v.relation_names name))
    ∷ pairs_refusal v from to pairs
    ∷ when (LimitReached Relations) (nat_le (most Relations) (length v.relation_names)) ∷ [])

-- ---- a symbol

-- why the symbol may not be added: it is new, and there are as many as there can be
abbrev pub symbol_refusal : Vocabulary → List ℕ → Option Refusal
symbol_refusal v name =
    when (LimitReached Symbols) (is_none (number_in v.symbols name) && nat_le (most Symbols)
    (length v.symbols))
