-- The values of a choice: what refuses them at a cell of a kind, and what they say there.
use Rattle.std.specs.Prelude.{◌≡◌, Bool, List, [], ◌∷◌, Option, Some, None, Ok, map, nat_le}
use Rattle.std.specs.Prelude.{if◌then◌else◌}
use Rattle.std.specs.List.{list_any}
use Rattle.std.specs.Result.{result_unwrap_or}
use Rattle.prop_lattice.specs.declared.info.Info.{Info}
use Rattle.prop_lattice.specs.declared.info.Info.TheVariants.{Nothing}
use Rattle.prop_lattice.specs.declared.info.Kind.{Kind}
use Rattle.prop_refusals.specs.declared.refusal.Refusal.{Refusal}
use Rattle.prop_refusals.specs.declared.refusal.Refusal.TheVariants.{NotAName, NotANumber}
use Rattle.prop_refusals.specs.declared.refusal.Refusal.TheVariants.{NameTaken, WrongKind}
use Rattle.prop_refusals.specs.declared.refusal.Refusal.TheVariants.{NotInTheDomain, EmptyValue}
use Rattle.prop_refusals.specs.Refusals.{first_of, when, number_of}
use Rattle.prop_language.specs.Commands.{Value}
use Rattle.prop_vocabulary.specs.Values.{Meant, Known}
use Rattle.prop_vocabulary.specs.Vocabulary.{Vocabulary}
use Rattle.prop_workbench.specs.inner.Refusing.{meaning_at, is_error, with_meant}
use Rattle.prop_workbench.specs.inner.Effects.{info_meant}

-- the one with the lower number, of the refusal that was met before, where there is one, and the
-- one that is met now; the numbers are in the order of rank
abbrev pub earlier : Option Refusal → Refusal → Refusal
earlier None now = now
earlier (Some before) now = if nat_le (number_of before) (number_of now) then before else now

-- one of the values is refused for this reason at a cell of the kind
abbrev pub is_one_refused : Vocabulary → Kind → Refusal → List Value → Bool
is_one_refused words kind refusal values =
    list_any (λ value. is_error refusal (meaning_at words kind value)) values

-- why a choice between the values at a cell of the kind is refused: the first reason that applies,
-- where `is_taken` says whether the choice's name is taken
abbrev pub values_refusal : Vocabulary → Kind → Bool → List Value → Option Refusal
values_refusal words kind is_taken values =
    first_of (
    when NotAName (is_one_refused words kind NotAName values)
    ∷ when NotANumber (is_one_refused words kind NotANumber values)
    ∷ when NameTaken is_taken
    ∷ when WrongKind (is_one_refused words kind WrongKind values)
    ∷ when NotInTheDomain (is_one_refused words kind NotInTheDomain values)
    ∷ when EmptyValue (is_one_refused words kind EmptyValue values)
    ∷ []
    )

-- what the value means at a cell of the kind, and no information where it is refused there
abbrev pub meaning_of : Vocabulary → Kind → Value → Meant
meaning_of words kind value = result_unwrap_or (meaning_at words kind value) (Known Nothing)

-- the value means something at a cell of the kind: it isn't refused there
abbrev pub Means : Vocabulary → Kind → Value → Type 0
Means words kind value = meaning_at words kind value ≡ Ok (meaning_of words kind value)

-- this is what some value means at a cell of the kind
abbrev pub IsMeaning : Vocabulary → Kind → Meant → Type 0
IsMeaning words kind meant = (value : Value) × (meaning_at words kind value ≡ Ok meant)

abbrev pub meanings_of : Vocabulary → Kind → List Value → List Meant
meanings_of words kind values = map (meaning_of words kind) values

-- the information that each meaning stands for; a new symbol gets the next number when its turn
-- comes
abbrev pub infos_meant : Vocabulary → List Meant → List Info
infos_meant words [] = []
infos_meant words (meant ∷ more) =
    info_meant words meant ∷ infos_meant (with_meant words meant) more
