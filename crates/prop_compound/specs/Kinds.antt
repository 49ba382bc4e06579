-- The kinds that words say, and which kinds are of domains that are there.
use Rattle.std.specs.Prelude.{◌≡◌, ◌<◌, ℕ, All, Option, Some, length, ⊤}
use Rattle.std.specs.Option.{option_map}
use Rattle.prop_lattice.specs.declared.info.Kind.{Kind}
use Rattle.prop_lattice.specs.declared.info.Kind.TheVariants as kinds
use Rattle.prop_procedures.specs.declared.shape.Kinded.{Kinded}
use Rattle.prop_procedures.specs.Stored.{span_kind}
use Rattle.prop_vocabulary.specs.Texts.{elements_of_kind}
use Rattle.prop_vocabulary.specs.Vocabulary.{Vocabulary, domain_number, elements_of}
use Rattle.prop_language.specs.Commands.{KindWord, Spans, Truths, Symbols, Named}
use Rattle.prop_compound.specs.declared.definition.NumberedStep.{NumberedStep}
use Rattle.prop_compound.specs.declared.definition.NumberedStep.TheVariants.{Local}
use Rattle.prop_compound.specs.Definitions.{Definitions}

-- the kind of the sets over the domain with the number
abbrev pub domain_kind : Vocabulary → ℕ → Kinded
domain_kind words domain =
    record { kind = kinds.Set domain; size = length (elements_of words domain) }

-- the kind that the word says, none where it names no domain
abbrev pub kind_named : Vocabulary → KindWord → Option Kinded
kind_named words Spans = Some span_kind
kind_named words Truths = Some (domain_kind words 0)
kind_named words Symbols = Some (record { kind = kinds.Symbol; size = 0 })
kind_named words (Named domain) = option_map (domain_kind words) (domain_number words domain)

-- the domain of a set's kind is there
abbrev pub IsKnown : Vocabulary → Kind → Type 0
IsKnown words (kinds.Set domain) = domain < length words.domains
IsKnown words kind = ⊤

-- the domain of a set's kind is there, and the size of the kind is how many elements the domain has
abbrev pub IsSized : Vocabulary → Kinded → Type 0
IsSized words k = IsKnown words k.kind × (k.size ≡ length (elements_of_kind words k.kind))

-- this holds of the kind of the step's local, if the step makes one of a kind of its own
abbrev pub IsLocalOf : (Kinded → Type 0) → NumberedStep → Type 0
IsLocalOf P (Local kind) = P kind
IsLocalOf P step = ⊤

-- this holds of the kinds of all such locals, in all definitions
abbrev pub AreLocalsOf : (Kinded → Type 0) → Definitions → Type 0
AreLocalsOf P definitions = All (λ d. All (IsLocalOf P) d.steps) definitions.definitions
