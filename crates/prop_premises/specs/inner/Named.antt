-- The premises of a table of names, and the table of their names' places.
use Rattle.std.specs.Prelude.{◌≡◌, ℕ, suc, ◌+◌, ◌≤◌, Bool, String, string_bytes, Option, Some, None}
use Rattle.std.specs.Prelude.{true, false, List, [], ◌∷◌, ◌++◌, replicate, ⊤}
use Rattle.prop_premises.specs.declared.named.Named.{Named}
use Rattle.prop_premises.specs.declared.named.Kind.{Kind}
use Rattle.prop_premises.specs.declared.named.Kind.TheVariants as kind
use Rattle.prop_premises.specs.declared.named.Source.{Source}
use Rattle.prop_premises.specs.declared.named.Source.TheVariants as source
use Rattle.prop_premises.specs.Origins.{Origin, User, Side}
use Rattle.prop_premises.specs.inner.Origins.{sides_below}

-- how many numbers a name takes
abbrev pub width : Kind → ℕ
width (kind.User believed) = 1
width (kind.Choice sides) = sides

-- it is a believed premise of the user's
abbrev pub is_believed_kind : Kind → Bool
is_believed_kind (kind.User believed) = believed
is_believed_kind (kind.Choice sides) = false

-- the premises that have a name
abbrev pub origins_of_kind : List ℕ → Kind → List Origin
origins_of_kind name (kind.User believed) = User name believed ∷ []
origins_of_kind name (kind.Choice sides) = sides_below name sides sides

-- the premises of a table of names
abbrev pub origins_of : {A : Type 0} → List (String A × Named) → List Origin
origins_of [] = []
origins_of (e ∷ es) = origins_of_kind (string_bytes e.0) e.1.kind ++ origins_of es

-- the place of its name in the table, for each number, where the first name has this place
abbrev pub places_from : {A : Type 0} → ℕ → List (String A × Named) → List ℕ
places_from place [] = []
places_from place (e ∷ es) = replicate (width e.1.kind) place ++ places_from (suc place) es

abbrev pub IsKind : Kind → Type 0
IsKind (kind.User believed) = ⊤
IsKind (kind.Choice sides) = (2 ≤ sides) × (sides ≤ 8)

-- each name's number follows those of the one before, and each choice has two to eight sides
abbrev pub AreNumberedFrom : {A : Type 0} → ℕ → List (String A × Named) → Type 0
AreNumberedFrom n [] = ⊤
AreNumberedFrom n (e ∷ es) = (e.1.first ≡ n) × IsKind e.1.kind
    × AreNumberedFrom (n + width e.1.kind) es

abbrev pub is_choice_kind : Kind → Bool
is_choice_kind (kind.User believed) = false
is_choice_kind (kind.Choice sides) = true

abbrev pub user_number : ℕ → Kind → Option ℕ
user_number first (kind.User believed) = Some first
user_number first (kind.Choice sides) = None

-- the number of the user's premise that a name stands for
abbrev pub number_of : Option Named → Option ℕ
number_of None = None
number_of (Some named) = user_number named.first named.kind

-- the name stands for a choice
abbrev pub is_choices : Option Named → Bool
is_choices None = false
is_choices (Some named) = is_choice_kind named.kind

-- the premise as the source tells it
abbrev pub told : Source → Origin
told (source.User name believed) = User name.now believed
told (source.Side name side sides) = Side name.now side sides
