-- Why a domain, a relation or a definition is refused: its own reasons, and then the limit that is met.
use Rattle.std.proofs.Common.{◌≡◌, ◌∙◌, ◌+◌, ℕ, Bool, true, false, ◌||◌, List, [], ◌∷◌, ◌++◌, length, Option, Some}
use Rattle.std.proofs.Common.{None, refl, sym, is_some}
use Rattle.std.specs.Prelude.{nat_le}
use Rattle.std.proofs.lemmas.List.{length-append}
use Rattle.prop_refusals.specs.declared.refusal.Limit.TheVariants.{Relations, Definitions as TooMany}
use Rattle.prop_refusals.specs.declared.refusal.Refusal.{Refusal}
use Rattle.prop_refusals.specs.declared.refusal.Refusal.TheVariants.{NameTaken, NoSuchDomain, NotInTheDomain}
use Rattle.prop_refusals.specs.declared.refusal.Refusal.TheVariants.{LimitReached}
use Rattle.prop_refusals.specs.Refusals.{first_of, most, when}
use Rattle.prop_sets.specs.Names.{has_repeat}
use Rattle.prop_procedures.specs.Stored.{Stored}
use Rattle.prop_language.specs.Commands as commands
use Rattle.prop_language.specs.Commands.{Step}
use Rattle.prop_vocabulary.specs.Names.{number_in}
use Rattle.prop_vocabulary.specs.Refusing.{domain_refusal, relation_refusal, is_domain_missing}
use Rattle.prop_vocabulary.specs.inner.Named.{domain_limit, is_word_outside}
use Rattle.prop_vocabulary.specs.Vocabulary.{relation_of}
use Rattle.prop_compound.specs.Compounds.{Compound, compound_of, compound_refusal}
use Rattle.prop_compound.specs.inner.Compounds.{compound_refused}
use Rattle.prop_workbench.specs.Machine.{State}
use Rattle.prop_workbench.specs.Effects.{effect}
use Rattle.prop_workbench.specs.Refusing.{refusal_of, passed}
use Rattle.prop_workbench.proofs.LimitLemmas.{one_grows, more_domains, more_relations, more_definitions}
use Rattle.prop_workbench.proofs.StepLemmas.{first_of-one}

pub domain_refused : (library : List Stored) (s : State) (name : List ℕ) (elements : List (List ℕ))
    → refusal_of library s (commands.Command.Domain name elements) ≡ domain_refusal s.words name elements
domain_refused library s name elements = by (is_some (number_in s.words.domain_names name) || has_repeat elements)
  where
    after : State
    after = effect library s (commands.Command.Domain name elements)

    by : (t : Bool)
        → first_of (when NameTaken t ∷ passed s after)
        ≡ first_of (when NameTaken t ∷ domain_limit s.words elements ∷ [])
    by true = refl
    by false = more_domains s name elements ∙ sym (first_of-one (domain_limit s.words elements))

pub relation_refused : (library : List Stored) (s : State) (name from to : List ℕ) (pairs : List (List ℕ × List ℕ))
    → refusal_of library s (commands.Command.Relation name from to pairs)
    ≡ relation_refusal s.words name from to pairs
relation_refused library s name from to pairs =
    by (is_some (number_in s.words.relation_names name)) (is_domain_missing s.words from to)
    (is_word_outside s.words from to pairs)
  where
    after : State
    after = effect library s (commands.Command.Relation name from to pairs)

    limit : Option Refusal
    limit = when (LimitReached Relations) (nat_le (most Relations) (length s.words.relation_names))

    by : (a b c : Bool)
        → first_of (when NameTaken a ∷ when NoSuchDomain b ∷ when NotInTheDomain c ∷ passed s after) ≡ first_of
        (when NameTaken a ∷ first_of (when NoSuchDomain b ∷ when NotInTheDomain c ∷ []) ∷ limit ∷ [])
    by true b c = refl
    by false true c = refl
    by false false true = refl
    by false false false =
        more_relations s name (relation_of s.words from to pairs) ∙ sym (first_of-one limit)

pub define_refused : (library : List Stored) (s : State) (name : List ℕ) (params : List (List ℕ)) (steps : List Step)
    → refusal_of library s (commands.Command.Define name params steps)
    ≡ compound_refused library s.words s.definitions name params steps
define_refused library s name params steps = by (compound_refusal library s.words s.definitions name params steps)
  where
    after : List Compound
    after = s.definitions ++ compound_of library s.words s.definitions name params steps ∷ []

    more : length after ≡ length s.definitions + 1
    more = length-append s.definitions (compound_of library s.words s.definitions name params steps ∷ [])

    limit : Option Refusal
    limit = when (LimitReached TooMany) (nat_le (most TooMany) (length s.definitions))

    by : (r : Option Refusal)
        → first_of (r ∷ passed s (record s { definitions = after })) ≡ first_of (r ∷ limit ∷ [])
    by (Some x) = refl
    by None = more_definitions s after ∙ one_grows TooMany (length s.definitions) (length after) more
        ∙ sym (first_of-one limit)
