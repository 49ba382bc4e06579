-- Which refusal is the first, and what holds where there is none.
use Rattle.std.proofs.Common.{◌≡◌, ◌∙◌, ℕ, ◌<◌, Bool, true, false, List, [], ◌∷◌, Option, Some, None, length, is_some}
use Rattle.std.proofs.Common.{is_none, nat_le, nat_lt, refl, ap}
use Rattle.std.proofs.lemmas.Bool.{leb-false, or_from, or_left, or_right}
use Rattle.prop_refusals.specs.Refusals.{most, when, first_of}
use Rattle.prop_refusals.specs.declared.refusal.Limit.TheVariants.{Domains, Elements, Relations}
use Rattle.prop_refusals.specs.declared.refusal.Refusal.{Refusal}
use Rattle.prop_refusals.specs.declared.refusal.Refusal.TheVariants.{NameTaken, NoSuchDomain, NotInTheDomain}
use Rattle.prop_refusals.specs.declared.refusal.Refusal.TheVariants.{LimitReached}
use Rattle.prop_vocabulary.specs.Names.{number_in}
use Rattle.prop_vocabulary.specs.Vocabulary.{Vocabulary, domain_number}
use Rattle.prop_vocabulary.specs.Refusing.{domain_refusal, is_domain_missing}
use Rattle.prop_vocabulary.specs.inner.Named.{is_domain_taken, domain_limit}
use Rattle.prop_vocabulary.specs.Refusing.{pairs_refusal, relation_refusal}
use Rattle.prop_vocabulary.specs.inner.Named.{is_word_outside}

-- the first of the refusals
first_some : (o : Option Refusal) (rest : List (Option Refusal)) (e : Refusal) → o ≡ Some e
    → first_of (o ∷ rest) ≡ Some e
first_some o rest e p = ap (λ o. first_of (o ∷ rest)) p

first_none : (o : Option Refusal) (rest : List (Option Refusal)) → o ≡ None → first_of (o ∷ rest) ≡ first_of rest
first_none o rest p = ap (λ o. first_of (o ∷ rest)) p

one_alone : (o : Option Refusal) → first_of (o ∷ []) ≡ o
one_alone None = refl
one_alone (Some e) = refl

holds : (r : Refusal) (b : Bool) → b ≡ true → when r b ≡ Some r
holds r b p = ap (when r) p

fails : (r : Refusal) (b : Bool) → b ≡ false → when r b ≡ None
fails r b p = ap (when r) p

-- where nothing is refused, no condition holds
none_first : (o : Option Refusal) (rest : List (Option Refusal)) → first_of (o ∷ rest) ≡ None
    → (o ≡ None) × (first_of rest ≡ None)
none_first None rest e = (refl, e)
none_first (Some r) rest e = absurd (cc)

not_when : (r : Refusal) (b : Bool) → when r b ≡ None → b ≡ false
not_when r true e = absurd (cc)
not_when r false e = refl

-- ---- a domain

-- a domain that may be declared is not one too many
pub domains_room : (v : Vocabulary) (name : List ℕ) (elements : List (List ℕ)) → domain_refusal v name elements ≡ None
    → length v.domain_names < most Domains
domains_room v name elements e =
    let many = nat_lt (most Elements) (length elements) in
    let full = nat_le (most Domains) (length v.domain_names) in
    let limits = (none_first (when NameTaken (is_domain_taken v name elements)) (domain_limit v elements ∷ []) e).1 in
    let limit = (none_first (domain_limit v elements) [] limits).0 in
    let room = (none_first (when (LimitReached Domains) full) (when (LimitReached Elements) many ∷ []) limit).0 in
    leb-false (most Domains) (length v.domain_names) (not_when (LimitReached Domains) full room)

-- nor is such a relation
pub relations_room : (v : Vocabulary) (name from to : List ℕ) (pairs : List (List ℕ × List ℕ))
    → relation_refusal v name from to pairs ≡ None → length v.relation_names < most Relations
relations_room v name from to pairs e =
    let full = nat_le (most Relations) (length v.relation_names) in
    let limits = when (LimitReached Relations) full ∷ [] in
    let others = (none_first (when NameTaken (is_some (number_in v.relation_names name)))
    (pairs_refusal v from to pairs ∷ limits) e).1 in
    let limit = (none_first (pairs_refusal v from to pairs) limits others).1 in
    let room = (none_first (when (LimitReached Relations) full) [] limit).0 in
    leb-false (most Relations) (length v.relation_names) (not_when (LimitReached Relations) full room)

-- ---- the pairs of a relation

-- a domain that is not declared
pub no_from : (v : Vocabulary) (from to : List ℕ) (pairs : List (List ℕ × List ℕ)) → domain_number v from ≡ None
    → pairs_refusal v from to pairs ≡ Some NoSuchDomain
no_from v from to pairs e =
    first_some (when NoSuchDomain (is_domain_missing v from to))
    (when NotInTheDomain (is_word_outside v from to pairs) ∷ []) NoSuchDomain
    (holds NoSuchDomain (is_domain_missing v from to) (or_left _ _ (ap is_none e)))

pub no_to : (v : Vocabulary) (from to : List ℕ) (pairs : List (List ℕ × List ℕ)) → domain_number v to ≡ None
    → pairs_refusal v from to pairs ≡ Some NoSuchDomain
no_to v from to pairs e =
    first_some (when NoSuchDomain (is_domain_missing v from to))
    (when NotInTheDomain (is_word_outside v from to pairs) ∷ []) NoSuchDomain
    (holds NoSuchDomain (is_domain_missing v from to) (or_right _ _ (ap is_none e)))

-- of two domains, the words decide
words_left : (v : Vocabulary) (from to : List ℕ) (pairs : List (List ℕ × List ℕ)) (a b : ℕ)
    → domain_number v from ≡ Some a → domain_number v to ≡ Some b →
    pairs_refusal v from to pairs ≡ when NotInTheDomain (is_word_outside v from to pairs)
words_left v from to pairs a b e f =
    first_none (when NoSuchDomain (is_domain_missing v from to))
    (when NotInTheDomain (is_word_outside v from to pairs) ∷ [])
    (fails NoSuchDomain (is_domain_missing v from to) (or_from _ _ (ap is_none e) (ap is_none f)))
    ∙ one_alone (when NotInTheDomain (is_word_outside v from to pairs))

pub word_outside : (v : Vocabulary) (from to : List ℕ) (pairs : List (List ℕ × List ℕ)) (a b : ℕ)
    → domain_number v from ≡ Some a → domain_number v to ≡ Some b → is_word_outside v from to pairs ≡ true →
    pairs_refusal v from to pairs ≡ Some NotInTheDomain
word_outside v from to pairs a b e f h = words_left v from to pairs a b e f
    ∙ holds NotInTheDomain (is_word_outside v from to pairs) h

pub pairs_allowed : (v : Vocabulary) (from to : List ℕ) (pairs : List (List ℕ × List ℕ)) (a b : ℕ)
    → domain_number v from ≡ Some a → domain_number v to ≡ Some b → is_word_outside v from to pairs ≡ false →
    pairs_refusal v from to pairs ≡ None
pairs_allowed v from to pairs a b e f h = words_left v from to pairs a b e f
    ∙ fails NotInTheDomain (is_word_outside v from to pairs) h

-- where the pairs are not refused, each word is an element
pub nothing_outside : (v : Vocabulary) (from to : List ℕ) (pairs : List (List ℕ × List ℕ))
    → pairs_refusal v from to pairs ≡ None → is_word_outside v from to pairs ≡ false
nothing_outside v from to pairs e =
    let rest = (none_first (when NoSuchDomain (is_domain_missing v from to))
    (when NotInTheDomain (is_word_outside v from to pairs) ∷ []) e).1 in
    not_when NotInTheDomain (is_word_outside v from to pairs)
    (none_first (when NotInTheDomain (is_word_outside v from to pairs)) [] rest).0
